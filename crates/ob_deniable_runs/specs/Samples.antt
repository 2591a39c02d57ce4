-- Works on the small store that draw in turn: key 5 beside pads; what could not be done; and why nothing is said of holes that aren't shown.
use Rattle.std.specs.Prelude.{◌≡◌, ℕ, ◌+◌, ◌*◌, List, [], ◌∷◌, ◌++◌, Option, None, Some}
use Rattle.ob_base.specs.declared.params.Params.{Params}
use Rattle.ob_deniable.specs.Telling.{fills_of_work}
use Rattle.ob_deniable.specs.Works.{LifeWork, Opens, Logs, Shows, Lifts, Ends, SameShape, own_slots}
use Rattle.ob_deniable_runs.specs.Tapes.{ArePutsInTurn, CouldBeDone, IsDoneOn}
use Rattle.ob_recover.specs.Bridge.{slot_read_off}
use Rattle.ob_recover.specs.Life.{WordId}
use Rattle.ob_ring.specs.FlatTable.{Shown}
use Rattle.ob_stand.specs.ValueSamples.{numbers_of}

abbrev pub word_at : ℕ → ℕ → WordId
word_at g n = record { generation = g; place = n }

-- rising words: each index of a version lies in its own slot, and there is no tie
abbrev pub rising : WordId → ℕ
rising w = w.generation * 101 + w.place

-- a run of two batches of pads, and an end with these writes, of which 31 words are drawn; and one batch of the next run
abbrev pub epoch_then : List (ℕ × Option WordId) → List (Option ℕ) → List LifeWork
epoch_then writes asks = Opens 2 ∷ Logs (None ∷ None ∷ []) (word_at 2 0) ∷ Shows ∷ Logs (None ∷ None ∷ []) (word_at 2 2) ∷ Shows ∷ Lifts ∷ Ends writes 31 ∷ Opens 3 ∷ Logs asks (word_at 3 0) ∷ Shows ∷ []

-- key 5 is put and asked for; or there are pads alone; or a put is of a word that no run drew
abbrev pub five_kept : List LifeWork
five_kept = epoch_then ((5, Some (word_at 2 4)) ∷ []) (Some 5 ∷ None ∷ [])

abbrev pub pads_alone : List LifeWork
pads_alone = epoch_then [] (None ∷ None ∷ [])

abbrev pub stray_put : List LifeWork
stray_put = epoch_then ((5, Some (word_at 9 0)) ∷ []) (None ∷ None ∷ [])

-- a put of a word that a bucket takes
abbrev pub bucket_put : List LifeWork
bucket_put = epoch_then ((5, Some (word_at 2 6)) ∷ []) (None ∷ None ∷ [])

abbrev pub batch_more : List LifeWork
batch_more = pads_alone ++ Logs (None ∷ None ∷ []) (word_at 3 2) ∷ Shows ∷ []

-- the first read of bucket 0 shows this index
abbrev pub first_shows : ℕ → List Shown
first_shows j = record { bucket = 0; number = 0; index = j } ∷ []

pub record Sampled : Type 0 where
  pub p : Params
  pub numbers : numbers_of p ≡ 8 ∷ 2 ∷ 2 ∷ 3 ∷ 2 ∷ 2 ∷ 2 ∷ 2 ∷ 8 ∷ []
  pub done : IsDoneOn p rising own_slots five_kept
  pub shape : SameShape five_kept pads_alone
  pub puts : ArePutsInTurn p pads_alone
  -- pads alone could have shown just this, on another tape; not on the same one
  pub could : CouldBeDone p rising pads_alone (fills_of_work p rising own_slots five_kept)
  pub one_tape : fills_of_work p rising own_slots five_kept ≡ fills_of_work p rising own_slots pads_alone → ⊥
  -- a put of a word that isn't the next couldn't be done on any, though the shape is the same
  pub stray_shape : SameShape five_kept stray_put
  pub stray : CouldBeDone p rising stray_put (fills_of_work p rising own_slots five_kept) → ⊥
  pub bucket_shape : SameShape five_kept bucket_put
  pub bucket : CouldBeDone p rising bucket_put (fills_of_work p rising own_slots five_kept) → ⊥
  -- nor could a batch more
  pub more : CouldBeDone p rising batch_more (fills_of_work p rising own_slots five_kept) → ⊥
  -- At a hole that no read has, fills tell the slot of index 0: so whole fills of two works, one of which shows that index first and the
  -- other a dummy, are equal only where the other has both in one slot.
  pub unread : (slot other : ℕ → ℕ → ℕ) → slot_read_off slot (first_shows 0) ≡ slot_read_off other (first_shows 2) → other 0 0 ≡ other 0 2
