-- Ring ORAM as a flat table. No word of a permutation stands in any type here.
use Rattle.std.specs.Prelude.{ℕ, ◌+◌, ◌^◌, ◌%◌, ◌==◌, Bool, true, false, cond, not, ◌&&◌, ◌||◌, List, [], ◌∷◌, ◌++◌, take, filter, Option, unwrap_or}
use Rattle.std.specs.declared.option.Option.TheVariants.{None, Some}
use Rattle.std.specs.List.{range_with_len, list_any, find, count_by, position_or_len}
use Rattle.ob_base.specs.declared.params.Params.{Params}
use Rattle.ob_base.specs.Tree.{below, path, passes}
use Rattle.ob_schedule.specs.Paths.{is_one_of, eviction_path, by_falling_level}

-- where a key lies: in the stash, or at a real index of a bucket
pub data Spot : Type 0 where
  InStash : Spot
  In : (bucket index : ℕ) → Spot

pub record Row : Type 0 where
  pub leaf : ℕ
  pub spot : Spot

pub record FlatTable : Type 0 where
  pub rows : ℕ → Option Row
  pub used : ℕ → ℕ → Bool
  pub lifted : ℕ → Bool
  pub counter : ℕ

abbrev pub spot_of : Option Row → Spot
spot_of None = InStash
spot_of (Some r) = r.spot

abbrev pub is_stash : Spot → Bool
is_stash InStash = true
is_stash (In u j) = false

abbrev pub in_stash : Option Row → Bool
in_stash None = false
in_stash (Some r) = is_stash r.spot

abbrev pub leaf_of : Option Row → ℕ → ℕ
leaf_of None x = x
leaf_of (Some r) x = r.leaf

abbrev pub is_at : ℕ → ℕ → Spot → Bool
is_at u j InStash = false
is_at u j (In v i) = (v == u) && (i == j)

-- the index of a spot in this bucket
abbrev pub index_in : ℕ → Spot → Option ℕ
index_in u InStash = None
index_in u (In v i) = cond (v == u) (Some i) None

abbrev pub indexes : Params → List ℕ
indexes p = below (p.real + p.dummies)

-- whether an index of a bucket holds a key
abbrev pub live : Params → FlatTable → ℕ → ℕ → Bool
live p t u j = list_any (λ k. is_at u j (spot_of (t.rows k))) (below p.keys)

-- how often a bucket's present version was read
abbrev pub reads : Params → FlatTable → ℕ → ℕ
reads p t u = count_by (t.used u) (indexes p)

-- ---- reading

-- the row that a place asks for; a pad asks for none
abbrev pub asked_row : FlatTable → Option ℕ → Option Row
asked_row t None = None
asked_row t (Some k) = t.rows k

abbrev pub asks_for : Option ℕ → ℕ → Bool
asks_for None k = false
asks_for (Some a) k = a == k

-- the index that a bucket shows: the key's own, else the lowest unread dummy
abbrev pub index_shown : Params → FlatTable → Spot → ℕ → ℕ
index_shown p t own u = unwrap_or (index_in u own) (unwrap_or (find (λ j. not (t.used u j)) (range_with_len p.real p.dummies)) 0)

abbrev pub mark_index : FlatTable → ℕ → ℕ → FlatTable
mark_index t u j = record t { used = λ v i. ((v == u) && (i == j)) || t.used v i }

-- the unread indexes that a lift reads: the live ones rising, then the others rising
abbrev pub lift_order : Params → FlatTable → ℕ → List ℕ
lift_order p t u = take p.real (filter (live p t u) (indexes p) ++ filter (λ j. not (live p t u j) && not (t.used u j)) (indexes p))

-- what lies in this bucket goes to the stash
abbrev pub out_of : ℕ → Spot → Spot
out_of u InStash = InStash
out_of u (In v i) = cond (v == u) InStash (In v i)

abbrev pub leave : ℕ → Option Row → Option Row
leave u None = None
leave u (Some r) = Some (record r { spot = out_of u r.spot })

abbrev pub lift : FlatTable → ℕ → FlatTable
lift t u = record t { rows = λ k. leave u (t.rows k); lifted = λ v. (v == u) || t.lifted v }

-- an index that was shown, by the name of its hole: the bucket, and the number of the read in the bucket's version
pub record Shown : Type 0 where
  pub bucket : ℕ
  pub number : ℕ
  pub index : ℕ

abbrev pub shown_numbered : ℕ → ℕ → List ℕ → List Shown
shown_numbered u n [] = []
shown_numbered u n (j ∷ js) = record { bucket = u; number = n; index = j } ∷ shown_numbered u (n + 1) js

abbrev pub lift_shown : Params → FlatTable → ℕ → List Shown
lift_shown p t u = shown_numbered u (reads p t u) (lift_order p t u)

-- a visit of a bucket by a place: it shows one index where the bucket isn't lifted, and a version's last read lifts it
abbrev pub visit_shown : Params → FlatTable → Spot → ℕ → List Shown
visit_shown p t own u =
    let j = index_shown p t own u in
    let n = reads p t u in
    cond (t.lifted u) [] (record { bucket = u; number = n; index = j } ∷ cond (n + 1 == p.dummies) (lift_shown p (mark_index t u j) u) [])

abbrev pub visit : Params → FlatTable → Spot → ℕ → FlatTable
visit p t own u =
    let t1 = mark_index t u (index_shown p t own u) in
    cond (t.lifted u) t (cond (reads p t u + 1 == p.dummies) (lift t1 u) t1)

abbrev pub visits_shown : Params → FlatTable → Spot → List ℕ → List Shown
visits_shown p t own [] = []
visits_shown p t own (u ∷ us) = visit_shown p t own u ++ visits_shown p (visit p t own u) own us

abbrev pub visits : Params → FlatTable → Spot → List ℕ → FlatTable
visits p t own [] = t
visits p t own (u ∷ us) = visits p (visit p t own u) own us

-- the key that a place asks for goes to the stash, with the place's new leaf
abbrev pub fetched : Bool → ℕ → Option Row → Option Row
fetched asked leaf None = None
fetched asked leaf (Some r) = Some (cond asked (record { leaf = leaf; spot = InStash }) r)

abbrev pub fetch : FlatTable → Option ℕ → ℕ → FlatTable
fetch t ask leaf = record t { rows = λ k. fetched (asks_for ask k) leaf (t.rows k) }

-- the leaf that a place shows: the one kept for a present key, else its own
abbrev pub leaf_shown : FlatTable → Option ℕ → ℕ → ℕ
leaf_shown t ask leaf = leaf_of (asked_row t ask) leaf

abbrev pub place_shown : Params → FlatTable → Option ℕ → ℕ → List Shown
place_shown p t ask leaf = visits_shown p (fetch t ask leaf) (spot_of (asked_row t ask)) (path p (leaf_shown t ask leaf))

abbrev pub after_place : Params → FlatTable → Option ℕ → ℕ → FlatTable
after_place p t ask leaf = visits p (fetch t ask leaf) (spot_of (asked_row t ask)) (path p (leaf_shown t ask leaf))

-- a batch is a list of places, each an ask and a new leaf
abbrev pub batch_shown : Params → FlatTable → List (Option ℕ × ℕ) → List Shown
batch_shown p t [] = []
batch_shown p t (a ∷ rest) = place_shown p t a.0 a.1 ++ batch_shown p (after_place p t a.0 a.1) rest

abbrev pub after_batch : Params → FlatTable → List (Option ℕ × ℕ) → FlatTable
after_batch p t [] = t
after_batch p t (a ∷ rest) = after_batch p (after_place p t a.0 a.1) rest

abbrev pub leaves_shown : Params → FlatTable → List (Option ℕ × ℕ) → List ℕ
leaves_shown p t [] = []
leaves_shown p t (a ∷ rest) = leaf_shown t a.0 a.1 ∷ leaves_shown p (after_place p t a.0 a.1) rest

-- ---- labels

-- what a place shows: the word kept for a present key, else the place's own word
abbrev pub shown_label : {Id : Type 0} → (ℕ → Option Id) → Option ℕ → Id → Id
shown_label book None own = own
shown_label book (Some k) own = unwrap_or (book k) own

-- a present key then keeps the place's own word
abbrev pub rebound : {Id : Type 0} → Bool → Id → Option Id → Option Id
rebound asked own None = None
rebound asked own (Some kept) = Some (cond asked own kept)

abbrev pub after_label : {Id : Type 0} → (ℕ → Option Id) → Option ℕ → Id → ℕ → Option Id
after_label book ask own k = rebound (asks_for ask k) own (book k)

-- ---- the end of an epoch

abbrev pub final_shown : Params → FlatTable → List ℕ → List Shown
final_shown p t [] = []
final_shown p t (u ∷ us) = cond (t.lifted u) [] (lift_shown p t u) ++ final_shown p (cond (t.lifted u) t (lift t u)) us

abbrev pub after_final : Params → FlatTable → List ℕ → FlatTable
after_final p t [] = t
after_final p t (u ∷ us) = after_final p (cond (t.lifted u) t (lift t u)) us

-- a put sets the row in the stash, a del forgets the key
abbrev pub written_row : Option ℕ → Option Row
written_row None = None
written_row (Some leaf) = Some (record { leaf = leaf; spot = InStash })

abbrev pub write : FlatTable → ℕ → Option ℕ → FlatTable
write t key leaf = record t { rows = λ k. cond (k == key) (written_row leaf) (t.rows k) }

abbrev pub after_writes : FlatTable → List (ℕ × Option ℕ) → FlatTable
after_writes t [] = t
after_writes t (w ∷ ws) = after_writes (write t w.0 w.1) ws

-- whether a key lies in the stash and its path passes the bucket
abbrev pub can_go : Params → ℕ → Option Row → Bool
can_go p u None = false
can_go p u (Some r) = is_stash r.spot && passes p u r.leaf

abbrev pub chosen : Params → FlatTable → ℕ → List ℕ
chosen p t u = take p.real (filter (λ k. can_go p u (t.rows k)) (below p.keys))

abbrev pub placed : ℕ → Bool → ℕ → Option Row → Option Row
placed u goes i None = None
placed u goes i (Some r) = Some (record r { spot = cond goes (In u i) r.spot })

abbrev pub fill : Params → FlatTable → ℕ → FlatTable
fill p t u =
    let ks = chosen p t u in
    record t {
      rows = λ k. placed u (is_one_of ks k) (position_or_len (λ c. c == k) ks) (t.rows k);
      used = λ v j. not (v == u) && t.used v j;
      lifted = λ v. not (v == u) && t.lifted v;
    }

abbrev pub fills : Params → FlatTable → List ℕ → FlatTable
fills p t [] = t
fills p t (u ∷ us) = fills p (fill p t u) us

-- the lifted buckets by falling level, then rising number
abbrev pub refill_order : Params → FlatTable → List ℕ
refill_order p t = filter t.lifted (by_falling_level (p.levels + 1))

abbrev pub stash_size : Params → FlatTable → ℕ
stash_size p t = count_by (λ k. in_stash (t.rows k)) (below p.keys)

-- ---- picks

pub data Step : Type 0 where
  Batch : (places : List (Option ℕ × ℕ)) → Step
  FinalLifts : Step
  Writes : (writes : List (ℕ × Option ℕ)) → Step
  Refill : Step

abbrev pub picks : Params → FlatTable → Step → List Shown
picks p t (Batch places) = batch_shown p t places
picks p t FinalLifts = final_shown p t (eviction_path p t.counter)
picks p t (Writes ws) = []
picks p t Refill = []

abbrev pub after : Params → FlatTable → Step → FlatTable
after p t (Batch places) = after_batch p t places
after p t FinalLifts = record (after_final p t (eviction_path p t.counter)) { counter = (t.counter + p.evictions) % 2 ^ p.levels }
after p t (Writes ws) = after_writes t ws
after p t Refill = fills p t (refill_order p t)
