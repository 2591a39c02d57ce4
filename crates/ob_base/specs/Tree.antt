-- The tree of buckets: its levels run from 0, the root's, to that of the leaves.
use Rattle.std.specs.Prelude.{ℕ, ◌+◌, ◌-◌, ◌*◌, ◌/◌, ◌%◌, ◌^◌, ◌==◌, Bool, List, map}
use Rattle.std.proofs.Common.{zero, suc}
use Rattle.std.specs.List.{range_with_len, list_any}
use Rattle.ob_base.specs.declared.params.Params.{Params}

-- the buckets of all levels
unfoldable pub buckets : Params → ℕ
buckets p = 2 ^ (p.levels + 1) - 1

-- the slots of a bucket
abbrev pub width : Params → ℕ
width p = p.real + p.dummies

-- the buckets of a level come after those of the levels above it
abbrev pub bucket_of : Params → ℕ → ℕ → ℕ
bucket_of p level leaf = (2 ^ level - 1) + leaf / 2 ^ (p.levels - level)

-- the numbers below n, rising
abbrev pub below : ℕ → List ℕ
below n = range_with_len 0 n

-- the buckets of a leaf, from the root on
abbrev pub path : Params → ℕ → List ℕ
path p leaf = map (λ level. bucket_of p level leaf) (below (p.levels + 1))

-- whether the path of the leaf goes through the bucket
abbrev pub passes : Params → ℕ → ℕ → Bool
passes p bucket leaf = list_any (λ v. v == bucket) (path p leaf)

-- the number that the low bits of c spell from the lowest on
abbrev pub reversed : ℕ → ℕ → ℕ
reversed zero c = 0
reversed (suc bits) c = (c % 2) * 2 ^ bits + reversed bits (c / 2)
