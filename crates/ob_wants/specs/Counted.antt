-- How often the paths of labels pass the first buckets of a tree with so many levels.
use Rattle.std.specs.Prelude.{◌≡◌, ◌<◌, ℕ, List, length, slice_index, count_by}
use Rattle.ob_base.specs.declared.params.Params.{Params}
use Rattle.ob_base.specs.Tree.{passes}

abbrev pub AreCounted : ℕ → List ℕ → List ℕ → Type 0
AreCounted levels leaves passed = (p : Params) → p.levels ≡ levels → (u : ℕ) → u < length passed → slice_index passed u ≡ count_by (passes p u) leaves
