-- The jobs of a plan: what is read of each index that a step shows, and which key lies there.
use Rattle.std.specs.Prelude.{◌≡◌, ℕ, ◌+◌, ◌%◌, ◌^◌, ◌==◌, ◌≤◌, cond, not, List, [], ◌∷◌, ◌++◌, map, length, Option, unwrap_or}
use Rattle.std.specs.declared.option.Option.TheVariants.{None, Some}
use Rattle.std.specs.List.{find, range_with_len}
use Rattle.ob_base.specs.declared.params.Params.{Params}
use Rattle.ob_base.specs.declared.job.Job.{Job}
use Rattle.ob_base.specs.declared.job.Place.{Place}
use Rattle.ob_base.specs.Tree.{below, path}
use Rattle.ob_base.specs.Layout.{slot_cell}
use Rattle.ob_base.specs.Planned.{Planned}
use Rattle.ob_tables.specs.Version.{Version, rank_at, key_at, next_dummy}
use Rattle.ob_tables.specs.Buckets.{Buckets, version_at}
use Rattle.ob_ring.specs.FlatTable.{FlatTable, Spot, InStash, In, spot_of, is_at, index_in, asked_row, index_shown, mark_index, lift, lift_order, reads, visit, fetch, leaf_shown, after_place}
use Rattle.ob_ring.specs.declared.found.Found.{Found}
use Rattle.ob_ring.specs.Arrays.{AreWhole, IsTableOf, arrays_of, Rest}

-- an index that was shown, and the key that lies there
pub record Picked : Type 0 where
  pub bucket : ℕ
  pub index : ℕ
  pub key : Option ℕ

-- the key that lies at an index of a bucket
abbrev pub holder : Params → FlatTable → ℕ → ℕ → Option ℕ
holder p t u j = find (λ k. is_at u j (spot_of (t.rows k))) (below p.keys)

abbrev pub lift_picked : Params → FlatTable → ℕ → List Picked
lift_picked p t u = map (λ j. record { bucket = u; index = j; key = holder p t u j }) (lift_order p t u)

-- the asked key, where it lies in this bucket
abbrev pub key_shown : Option ℕ → Option ℕ → Option ℕ
key_shown ask None = None
key_shown ask (Some j) = ask

abbrev pub visit_picked : Params → FlatTable → Option ℕ → Spot → ℕ → List Picked
visit_picked p t ask own u =
    let j = index_shown p t own u in
    cond (t.lifted u) [] (record { bucket = u; index = j; key = key_shown ask (index_in u own) } ∷ cond (reads p t u + 1 == p.dummies) (lift_picked p (mark_index t u j) u) [])

abbrev pub visits_picked : Params → FlatTable → Option ℕ → Spot → List ℕ → List Picked
visits_picked p t ask own [] = []
visits_picked p t ask own (u ∷ us) = visit_picked p t ask own u ++ visits_picked p (visit p t own u) ask own us

abbrev pub place_picked : Params → FlatTable → Option ℕ → ℕ → List Picked
place_picked p t ask leaf = visits_picked p (fetch t ask leaf) ask (spot_of (asked_row t ask)) (path p (leaf_shown t ask leaf))

abbrev pub batch_picked : Params → FlatTable → List (Option ℕ × ℕ) → List Picked
batch_picked p t [] = []
batch_picked p t (a ∷ rest) = place_picked p t a.0 a.1 ++ batch_picked p (after_place p t a.0 a.1) rest

abbrev pub final_picked : Params → FlatTable → List ℕ → List Picked
final_picked p t [] = []
final_picked p t (u ∷ us) = cond (t.lifted u) [] (lift_picked p t u) ++ final_picked p (cond (t.lifted u) t (lift t u)) us

-- each place: its leaf, and how many jobs stand before its own
abbrev pub places_from : Params → ℕ → FlatTable → List (Option ℕ × ℕ) → List Place
places_from p n t [] = []
places_from p n t (a ∷ rest) = record { leaf = leaf_shown t a.0 a.1; first = n } ∷ places_from p (n + length (place_picked p t a.0 a.1)) (after_place p t a.0 a.1) rest

-- the job of an index: its cell is that of its physical slot, and so is the number with which that is sealed
abbrev pub job_of : Params → List Version → Picked → Job
job_of p versions q =
    let v = version_at versions q.bucket in
    record {
      cell = slot_cell p v.home q.bucket (rank_at v q.index);
      generation = v.generation;
      number = (v.base + rank_at v q.index) % 2 ^ 64;
      key = q.key;
      result = None;
    }

-- the jobs with these behind them
abbrev pub with_jobs : Planned → List Job → Planned
with_jobs s more = record s { jobs = s.jobs ++ more }

-- at most so many jobs more, and nothing else
pub record Grows (n : ℕ) (old new : Planned) : Type 0 where
  pub few : length new.jobs ≤ length old.jobs + n
  pub room : new.room ≡ old.room
  pub places : new.places ≡ old.places
  pub place_room : new.place_room ≡ old.place_room

-- the versions stay where and as they are sealed
pub record SameSeals (old new : Buckets) : Type 0 where
  pub homes : (u : ℕ) → (version_at new.versions u).home ≡ (version_at old.versions u).home
  pub generations : (u : ℕ) → (version_at new.versions u).generation ≡ (version_at old.versions u).generation
  pub bases : (u : ℕ) → (version_at new.versions u).base ≡ (version_at old.versions u).base
  pub ranks : (u : ℕ) → (version_at new.versions u).ranks ≡ (version_at old.versions u).ranks
  pub order : new.order ≡ old.order

-- A plan's part: the buckets change as the table does, and the jobs are those of the indexes that it shows.
pub record Plans (p : Params) (old new : Buckets) (before now : Planned) (picked : FlatTable → List Picked) (next : FlatTable → FlatTable) : Type 0 where
  pub whole : AreWhole p new
  pub seals : SameSeals old new
  pub follows : (r : Rest) (t : FlatTable) → IsTableOf p (arrays_of old r) t → IsTableOf p (arrays_of new r) (next t)
  pub jobs : (r : Rest) (t : FlatTable) → IsTableOf p (arrays_of old r) t → now.jobs ≡ before.jobs ++ map (job_of p old.versions) (picked t)

-- ---- parts

-- an index of a bucket with the key that lies there
abbrev pub index_of : List Version → ℕ → ℕ → Picked
index_of versions u j = record { bucket = u; index = j; key = key_at (version_at versions u) j }

-- the index that a version shows
abbrev pub shown_of : Version → Option ℕ → ℕ
shown_of v own = unwrap_or own (unwrap_or (next_dummy v) 0)

abbrev pub spot_at : Option Found → Spot
spot_at None = InStash
spot_at (Some f) = In f.bucket f.index

-- the index that a bucket of the table shows, where the key's own is this
abbrev pub shown_index : Params → FlatTable → Option ℕ → ℕ → ℕ
shown_index p t own u = unwrap_or own (unwrap_or (find (λ j. not (t.used u j)) (range_with_len p.real p.dummies)) 0)

abbrev pub show_picked : Params → FlatTable → Option ℕ → Option ℕ → ℕ → List Picked
show_picked p t ask own u = record { bucket = u; index = shown_index p t own u; key = key_shown ask own } ∷ []

-- no real index holds a key any more, and nothing else changed
pub record IsEmptied (old new : Version) : Type 0 where
  pub empty : (j : ℕ) → key_at new j ≡ None
  pub keys : length new.keys ≡ length old.keys
  pub home : new.home ≡ old.home
  pub generation : new.generation ≡ old.generation
  pub base : new.base ≡ old.base
  pub ranks : new.ranks ≡ old.ranks
  pub used : new.used ≡ old.used
