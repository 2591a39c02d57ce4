-- What a read batch plans, and what the position map keeps of it.
use Rattle.std.specs.Prelude.{◌≡◌, ℕ, ◌+◌, ◌%◌, ◌^◌, ◌<◌, ◌≤◌, List, [], ◌∷◌, ◌++◌, map, length, Option, slice_index, slice_index_or}
use Rattle.std.specs.declared.option.Option.TheVariants.{None, Some}
use Rattle.ob_base.specs.declared.params.Params.{Params}
use Rattle.ob_base.specs.Tree.{below}
use Rattle.ob_base.specs.Planned.{Planned}
use Rattle.ob_tables.specs.Buckets.{Buckets}
use Rattle.ob_tables.specs.declared.entry.Entry.{Entry}
use Rattle.ob_tables.specs.Kept.{entry_at}
use Rattle.ob_ring.specs.declared.found.Found.{Found}
use Rattle.ob_ring.specs.FlatTable.{FlatTable, after_batch, after_label}
use Rattle.ob_ring.specs.Laws.{IsOrderly}
use Rattle.ob_ring.specs.Arrays.{IsTableOf, AreWhole, arrays_of, rest_of}
use Rattle.ob_ring.specs.Picked.{SameSeals, job_of, batch_picked, places_from, spot_at}
use Rattle.ob_ring.specs.Paths.{IsFound, IsTakenOut}

-- the entry that a present key keeps of the i-th place: its word's id, and the word's low bits as its leaf
abbrev pub own_entry : Params → List ℕ → ℕ × ℕ → ℕ → Entry
own_entry p words first i = record { generation = first.0; index = (first.1 + i) % 2 ^ 64; leaf = slice_index words i % 2 ^ p.levels }

-- each place: what it asks for, and its own entry
abbrev pub places_of : Params → List (Option ℕ) → List ℕ → ℕ × ℕ → ℕ → List (Option ℕ × Entry)
places_of p asks words first n = map (λ i. (slice_index_or asks i None, own_entry p words first i)) (below n)

-- the same with the leaf alone
abbrev pub leaf_places : List (Option ℕ × Entry) → List (Option ℕ × ℕ)
leaf_places places = map (λ a. (a.0, (a.1).leaf)) places

-- the position map after these places
abbrev pub after_labels : (ℕ → Option Entry) → List (Option ℕ × Entry) → ℕ → Option Entry
after_labels book [] = book
after_labels book (a ∷ rest) = after_labels (after_label book a.0 a.1) rest

-- the position map of these parameters
pub record IsBook (p : Params) (book : List (Option Entry)) : Type 0 where
  pub many : length book ≡ p.keys
  pub leaves : (k : ℕ) (e : Entry) → entry_at book k ≡ Some e → e.leaf < 2 ^ p.levels

-- at most n jobs more, and m places
pub record GrowsBy (n m : ℕ) (old new : Planned) : Type 0 where
  pub few : length new.jobs ≤ length old.jobs + n
  pub places : length new.places ≡ length old.places + m
  pub room : new.room ≡ old.room
  pub place_room : new.place_room ≡ old.place_room

-- The places are planned: the position map, the buckets and the jobs are what the flat table's batch gives.
pub record Fetches (p : Params) (book_old book_new : List (Option Entry)) (old new : Buckets) (before now : Planned) (asked : List (Option ℕ × Entry)) : Type 0 where
  pub book : IsBook p book_new
  pub whole : AreWhole p new
  pub seals : SameSeals old new
  pub labels : (k : ℕ) → entry_at book_new k ≡ after_labels (λ i. entry_at book_old i) asked k
  pub follows : (counter : ℕ) (t : FlatTable) → IsOrderly p t → IsTableOf p (arrays_of old (rest_of book_old counter)) t → IsTableOf p (arrays_of new (rest_of book_new counter)) (after_batch p t (leaf_places asked))
  pub jobs : (counter : ℕ) (t : FlatTable) → IsOrderly p t → IsTableOf p (arrays_of old (rest_of book_old counter)) t → now.jobs ≡ before.jobs ++ map (job_of p old.versions) (batch_picked p t (leaf_places asked))
  pub places : (counter : ℕ) (t : FlatTable) → IsOrderly p t → IsTableOf p (arrays_of old (rest_of book_old counter)) t → now.places ≡ before.places ++ places_from p (length before.jobs) t (leaf_places asked)

-- ---- parts

-- the entry of the key that a place asks for
abbrev pub kept_of : List (Option Entry) → Option ℕ → Option Entry
kept_of book None = None
kept_of book (Some k) = entry_at book k

-- the leaf that a place shows: the kept one, else its own
abbrev pub leaf_of_place : Option Entry → Entry → ℕ
leaf_of_place None own = own.leaf
leaf_of_place (Some e) own = e.leaf

abbrev pub IsKeptFound : Params → Buckets → ℕ → Option Entry → Option Found → Type 0
IsKeptFound p s k None result = result ≡ None
IsKeptFound p s k (Some e) result = IsFound p s k e.leaf result

-- where the asked key lies
abbrev pub IsAskFound : Params → Buckets → List (Option Entry) → Option ℕ → Option Found → Type 0
IsAskFound p s book None result = result ≡ None
IsAskFound p s book (Some k) result = IsKeptFound p s k (entry_at book k) result

-- the asked key is taken out and keeps the place's entry
pub record IsFetched (p : Params) (book_old book_new : List (Option Entry)) (old new : Buckets) (ask : Option ℕ) (own : Entry) (result : Option Found) : Type 0 where
  pub found : IsAskFound p old book_old ask result
  pub taken : IsTakenOut p old new (spot_at result)
  pub many : length book_new ≡ length book_old
  pub labels : (k : ℕ) → entry_at book_new k ≡ after_label (λ i. entry_at book_old i) ask own k
