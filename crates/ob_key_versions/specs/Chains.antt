-- The versions of one key and its readers, as the code keeps them.
use Rattle.std.specs.Prelude.{ℕ, ◌≡◌, ◌<◌, ◌≤◌, Bool, true, false}
use Rattle.std.specs.declared.option.Option.{Option}
use Rattle.std.specs.declared.option.Option.TheVariants.{None, Some}
use Rattle.std.specs.Ordering.{nat_cmp}
use Rattle.std.specs.BTreeMap as tree
use Rattle.std.specs.BTreeSet as sorted
pub use Rattle.ob_key_versions.specs.declared.chain.Link.{Link}
pub use Rattle.ob_key_versions.specs.declared.chain.Chain.{Chain}

-- ticket t's version
abbrev pub link_in : Chain → ℕ → Option Link
link_in c t = tree.get nat_cmp c.links t

-- how many versions
abbrev pub links_in : Chain → ℕ
links_in c = tree.btree_map_len c.links

-- the newest of these versions at or below ticket t, with its ticket, if there is one
abbrev pub IsNewest : (ℕ → Option Link) → ℕ → Option (ℕ × Link) → Type 0
IsNewest f t None = (q : ℕ) → q ≤ t → f q ≡ None
IsNewest f t (Some p) = (p.0 ≤ t) × (f p.0 ≡ Some p.1) × ((q : ℕ) → p.0 < q → q ≤ t → f q ≡ None)

-- whether ticket u is noted as a reader
abbrev pub has_reader : Chain → ℕ → Bool
has_reader c u = sorted.contains nat_cmp c.readers u

-- the least of these readers above ticket t, if there is one
abbrev pub IsNextReader : (ℕ → Bool) → ℕ → Option ℕ → Type 0
IsNextReader f t None = (u : ℕ) → t < u → f u ≡ false
IsNextReader f t (Some r) = (t < r) × (f r ≡ true) × ((u : ℕ) → t < u → u < r → f u ≡ false)
