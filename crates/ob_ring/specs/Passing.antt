-- One pass over the keys, rising: each that lies in the stash goes into the deepest lifted bucket of its path that has a real index left.
-- A refill goes the other way round: bucket by bucket, from the leaves up, each takes the first keys that may lie in it.
use Rattle.std.specs.Prelude.{◌≡◌, ◌≢◌, ℕ, ◌+◌, ◌*◌, ◌<◌, ◌≤◌, ◌^◌, ◌==◌, nat_lt, Bool, true, cond, ◌&&◌, List, [], ◌∷◌, map, length, Option, is_some}
use Rattle.std.specs.declared.option.Option.TheVariants.{None, Some}
use Rattle.std.specs.List.{find}
use Rattle.std.specs.FinMap as finite
use Rattle.std.proofs.Common.{zero, suc}
use Rattle.ob_base.specs.declared.params.Params.{Params}
use Rattle.ob_base.specs.Tree.{bucket_of, below}
use Rattle.ob_ring.specs.FlatTable.{FlatTable, Row, in_stash, is_stash, leaf_of, placed, fills, refill_order}
use Rattle.ob_ring.specs.Filling.{HasStashRows}
use Rattle.ob_ring.specs.Settling.{Rows}

-- the buckets of a leaf's path in the first n levels, the deepest first
abbrev pub upwards : Params → ℕ → ℕ → List ℕ
upwards p leaf zero = []
upwards p leaf (suc n) = bucket_of p n leaf ∷ upwards p leaf n

-- whether a bucket is lifted, and took fewer keys than it has real indexes
abbrev pub has_room : Params → (ℕ → Bool) → (ℕ → ℕ) → ℕ → Bool
has_room p lifted taken u = lifted u && nat_lt (taken u) p.real

-- the bucket that a row goes into; one that lies in a bucket already, or finds no room, stays where it is
abbrev pub goes_to : Params → (ℕ → Bool) → (ℕ → ℕ) → Option Row → Option ℕ
goes_to p lifted taken None = None
goes_to p lifted taken (Some r) = cond (is_stash r.spot) (find (has_room p lifted taken) (upwards p r.leaf (p.levels + 1))) None

-- how many keys each bucket took, once a row went here
abbrev pub one_more : Option ℕ → (ℕ → ℕ) → ℕ → ℕ
one_more None taken v = taken v
one_more (Some u) taken v = cond (v == u) (taken v + 1) (taken v)

-- how many keys each bucket took, once these had their turns
abbrev pub taken_by : Params → FlatTable → (ℕ → ℕ) → List ℕ → ℕ → ℕ
taken_by p t taken [] = taken
taken_by p t taken (k ∷ ks) = taken_by p t (one_more (goes_to p t.lifted taken (t.rows k)) taken) ks

-- the place that a row gets where it goes, a bucket and an index in it: a bucket's keys take its real indexes in turn
abbrev pub next_place : Option ℕ → (ℕ → ℕ) → Option (ℕ × ℕ)
next_place None taken = None
next_place (Some u) taken = Some (u, taken u)

-- the place that key j gets when these have their turns; none where it stays
abbrev pub place_among : Params → FlatTable → (ℕ → ℕ) → List ℕ → ℕ → Option (ℕ × ℕ)
place_among p t taken [] j = None
place_among p t taken (k ∷ ks) j =
    let goes = goes_to p t.lifted taken (t.rows k) in
    cond (k == j) (next_place goes taken) (place_among p t (one_more goes taken) ks j)

abbrev pub none_taken : ℕ → ℕ
none_taken u = 0

-- the place that the pass over all keys gives a key
abbrev pub place_in_pass : Params → FlatTable → ℕ → Option (ℕ × ℕ)
place_in_pass p t k = place_among p t none_taken (below p.keys) k

-- a row at the place that it got
abbrev pub put_to : Option (ℕ × ℕ) → Option Row → Option Row
put_to None r = r
put_to (Some a) r = placed a.0 true a.1 r

-- what lies in the stash has a leaf of the tree
abbrev pub HasLeaves : Params → FlatTable → Type 0
HasLeaves p t = (k : ℕ) → in_stash (t.rows k) ≡ true → leaf_of (t.rows k) 0 < 2 ^ p.levels

-- ---- over the stash's rows

-- the keys of a stash's rows, rising
abbrev pub row_keys : Rows → List ℕ
row_keys rows = map (λ e. e.0) (finite.entries rows)

-- the table once these keys had their turns; the buckets are lifted still
abbrev pub passed_table : Params → FlatTable → List ℕ → FlatTable
passed_table p t ks = record t { rows = λ k. put_to (place_among p t none_taken ks k) (t.rows k) }

-- how many of these keys go into buckets
abbrev pub put_among : Params → FlatTable → (ℕ → ℕ) → List ℕ → ℕ
put_among p t taken [] = 0
put_among p t taken (k ∷ ks) =
    let goes = goes_to p t.lifted taken (t.rows k) in
    cond (is_some goes) 1 0 + put_among p t (one_more goes taken) ks

-- ---- steps: each bucket that is asked whether it has room is one, and so is each row that is put

-- buckets are asked one after another, up to the first that has room
abbrev pub asking_steps : (ℕ → Bool) → List ℕ → ℕ
asking_steps room [] = 0
asking_steps room (u ∷ us) = cond (room u) 2 (1 + asking_steps room us)

-- the turn of a row of the stash
abbrev pub row_steps : Params → (ℕ → Bool) → (ℕ → ℕ) → Option Row → ℕ
row_steps p lifted taken None = 0
row_steps p lifted taken (Some r) = asking_steps (has_room p lifted taken) (upwards p r.leaf (p.levels + 1))

-- the turns of these keys
abbrev pub steps_among : Params → FlatTable → (ℕ → ℕ) → List ℕ → ℕ
steps_among p t taken [] = 0
steps_among p t taken (k ∷ ks) = row_steps p t.lifted taken (t.rows k) + steps_among p t (one_more (goes_to p t.lifted taken (t.rows k)) taken) ks

-- ---- laws

-- a refill puts each key where the pass puts it
abbrev pub FillsPlace : Type 0
FillsPlace = (p : Params) (t : FlatTable) → HasLeaves p t → (k : ℕ) → (fills p t (refill_order p t)).rows k ≡ put_to (place_in_pass p t k) (t.rows k)

-- a pass over the rows of a stash that has one of each key that lies in no bucket gives each key the same place
abbrev pub RowsPlace : Type 0
RowsPlace = (p : Params) (t : FlatTable) (rows : Rows) → HasStashRows t rows → ((k : ℕ) → finite.get rows k ≢ None → k < p.keys)
    → (k : ℕ) → place_among p t none_taken (row_keys rows) k ≡ place_in_pass p t k

-- at most a step for each level of the tree and one for the row, whatever is lifted and was taken
abbrev pub StepsAreFew : Type 0
StepsAreFew = (p : Params) (t : FlatTable) (taken : ℕ → ℕ) (ks : List ℕ) → steps_among p t taken ks ≤ length ks * (p.levels + 2)
