-- A whole epoch: batches, final lifts, writes and a refill.
use Rattle.std.specs.Prelude.{◌≡◌, ℕ, false, List, [], ◌∷◌, map, Option, ⊤}
use Rattle.std.specs.declared.option.Option.TheVariants.{None}
use Rattle.ob_base.specs.declared.params.Params.{Params}
use Rattle.ob_base.specs.declared.job.Job.{Job}
use Rattle.ob_base.specs.declared.value.Write.{Write}
use Rattle.ob_tables.specs.Content.{Rows}
use Rattle.ob_tables.specs.declared.entry.Entry.{Entry}
use Rattle.ob_schedule.specs.Paths.{eviction_path}
use Rattle.ob_ring.specs.FlatTable.{FlatTable, Batch, FinalLifts, Writes, Refill, In, after, spot_of}
use Rattle.ob_ring.specs.Laws.{IsOrderly}
use Rattle.ob_ring.specs.Picked.{batch_picked, final_picked}
use Rattle.ob_ring.specs.Settling.{rows_after, first_fault}
use Rattle.ob_ring.specs.Writing.{leaf_writes, values_after}
use Rattle.ob_stand.specs.Goes.{OnlyLeaves}
use Rattle.ob_stand.specs.Takes.{AreKeysLow}
use Rattle.ob_stand.specs.Values.{Values, with_entries}
use Rattle.ob_stand.specs.Carries.{Slots, Carries, AreRead}
use Rattle.ob_stand.specs.ValueLaws.{AreFit}
use Rattle.ob_stand.specs.Refilled.{IsRefilled}

-- a batch: its places, and its jobs as they were read
abbrev pub Read : Type 0
Read = List (Option ℕ × ℕ) × List Job

abbrev pub after_batches : Params → FlatTable → List Read → FlatTable
after_batches p t [] = t
after_batches p t (b ∷ bs) = after_batches p (after p t (Batch b.0)) bs

abbrev pub rows_of_batches : Rows → List Read → Rows
rows_of_batches rows [] = rows
rows_of_batches rows (b ∷ bs) = rows_of_batches (rows_after rows b.1) bs

abbrev pub AreAllRead : Params → Slots → FlatTable → List Read → Type 0
AreAllRead p slots t [] = ⊤
AreAllRead p slots t (b ∷ bs) = AreRead slots (batch_picked p t b.0) b.1 × AreAllRead p slots (after p t (Batch b.0)) bs

abbrev pub AreFaultless : List Read → Type 0
AreFaultless [] = ⊤
AreFaultless (b ∷ bs) = (first_fault b.1 ≡ None) × AreFaultless bs

-- the table and the rows before the refill
abbrev pub before_refill : Params → FlatTable → List Read → List (Write × Entry) → FlatTable
before_refill p t bs ws = after p (after p (after_batches p t bs) FinalLifts) (Writes (leaf_writes ws))

abbrev pub rows_before_refill : Rows → List Read → List Job → List (Write × Entry) → Rows
rows_before_refill rows bs js ws = values_after (rows_after (rows_of_batches rows bs) js) ws

abbrev pub after_epoch : Params → FlatTable → List Read → List (Write × Entry) → FlatTable
after_epoch p t bs ws = after p (before_refill p t bs ws) Refill

-- An epoch: what its calls found in the slots and wrote into them.
pub record IsEpoch (p : Params) (t : FlatTable) (rows rows' : Rows) (slots slots' : Slots) (bs : List Read) (js : List Job) (ws : List (Write × Entry)) : Type 0 where
  pub batches : AreAllRead p slots t bs
  pub lifts : AreRead slots (final_picked p (after_batches p t bs) (eviction_path p (after_batches p t bs).counter)) js
  pub fit : AreFit p ws
  pub refilled : IsRefilled (before_refill p t bs ws) (after_epoch p t bs ws) (rows_before_refill rows bs js ws) rows' slots slots'

-- no slot that was read breaks a rule, and the table after the epoch carries the map with the epoch's writes
pub record EpochFollows (p : Params) (t : FlatTable) (rows' : Rows) (slots' : Slots) (m : Values) (bs : List Read) (js : List Job) (ws : List (Write × Entry)) : Type 0 where
  pub faultless : AreFaultless bs
  pub fault : first_fault js ≡ None
  pub orderly : IsOrderly p (after_epoch p t bs ws)
  pub carries : Carries p (after_epoch p t bs ws) rows' slots' (with_entries m ws)

abbrev pub EpochsFollow : Type 0
EpochsFollow = (p : Params) (t : FlatTable) (rows rows' : Rows) (slots slots' : Slots) (m : Values) (bs : List Read) (js : List Job) (ws : List (Write × Entry))
    → IsOrderly p t → Carries p t rows slots m → IsEpoch p t rows rows' slots slots' bs js ws → EpochFollows p t rows' slots' m bs js ws

-- Over a whole epoch: of a bucket that the refill doesn't fill, marks only come, keys only leave, and those that stay weren't written.
pub record EpochGoes (p : Params) (t t' : FlatTable) (m m' : Values) (u : ℕ) : Type 0 where
  pub leaves : OnlyLeaves t t' u
  pub values : (k j : ℕ) → spot_of (t'.rows k) ≡ In u j → m' k ≡ m k

abbrev pub BucketsGo : Type 0
BucketsGo = (p : Params) (t : FlatTable) (m : Values) (bs : List Read) (ws : List (Write × Entry)) (u : ℕ) → IsOrderly p t → AreKeysLow p t
    → (before_refill p t bs ws).lifted u ≡ false → EpochGoes p t (after_epoch p t bs ws) m (with_entries m ws) u

-- ---- the premises can be met

-- so an epoch was read and written, and these were its batches
pub record IsMet (p : Params) (t : FlatTable) (rows : Rows) (slots : Slots) (asked : List (List (Option ℕ × ℕ))) (ws : List (Write × Entry)) : Type 0 where
  pub batches : List Read
  pub jobs : List Job
  pub rows_then : Rows
  pub slots_then : Slots
  pub places : map (λ b. b.0) batches ≡ asked
  pub epoch : IsEpoch p t rows rows_then slots slots_then batches jobs ws

-- whatever an epoch asks for and writes, there are jobs, slots and rows as it needs them
abbrev pub EpochsAreMet : Type 0
EpochsAreMet = (p : Params) (t : FlatTable) (rows : Rows) (slots : Slots) (m : Values) (asked : List (List (Option ℕ × ℕ))) (ws : List (Write × Entry))
    → IsOrderly p t → Carries p t rows slots m → AreFit p ws → IsMet p t rows slots asked ws
