-- The paths that are evicted, and the order in which buckets are refilled.
use Rattle.std.specs.Prelude.{ℕ, ◌+◌, ◌-◌, ◌^◌, ◌==◌, Bool, List, [], ◌++◌}
use Rattle.std.proofs.Common.{zero, suc}
use Rattle.std.specs.List.{range_with_len, list_any, flat_map}
use Rattle.ob_base.specs.declared.params.Params.{Params}
use Rattle.ob_base.specs.Tree.{below, path, reversed}

abbrev pub is_one_of : List ℕ → ℕ → Bool
is_one_of us u = list_any (λ v. v == u) us

-- the buckets of the paths that are evicted next, path by path
abbrev pub eviction_path : Params → ℕ → List ℕ
eviction_path p counter = flat_map (λ i. path p (reversed p.levels (counter + i))) (below p.evictions)

-- the buckets of the first n levels, by falling level, then rising number
abbrev pub by_falling_level : ℕ → List ℕ
by_falling_level zero = []
by_falling_level (suc n) = range_with_len (2 ^ n - 1) (2 ^ n) ++ by_falling_level n
