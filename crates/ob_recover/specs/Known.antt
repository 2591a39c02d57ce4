-- What the store knows of a running epoch, and what fills the holes of its schedule: both are made of what a vault keeps.
use Rattle.std.specs.Prelude.{◌≡◌, ℕ, ◌<◌, ◌==◌, ◌&&◌, ◌||◌, Bool, true, false, List, [], ◌∷◌, ◌++◌, length, slice_index, slice_index_or}
use Rattle.std.specs.List.{flat_map}
use Rattle.ob_base.specs.Repeats.{Has}
use Rattle.ob_base.specs.declared.params.Params.{Params}
use Rattle.ob_tables.specs.Buckets.{version_at}
use Rattle.ob_tables.specs.Version.{rank_at}
use Rattle.ob_tables.specs.Content.{Content, Obeys}
use Rattle.ob_stand.specs.Counts.{public_of}
use Rattle.ob_stand.specs.Table.{flat_of}
use Rattle.ob_recover.specs.Bridge.{slot_read_off}
use Rattle.ob_log.specs.Logs.{BatchRecord, RecordsFit}
use Rattle.ob_recover.specs.Repeats.{IsPlannerOf, asked_of_record, table_after_records}
use Rattle.ob_ring.specs.FlatTable.{Batch, FinalLifts, FlatTable, Shown, after, leaves_shown, picks}
use Rattle.ob_ring.specs.Ring.{Kept}
use Rattle.ob_ring.specs.Sound.{hole_of}
use Rattle.ob_schedule.specs.Schedule.{Fills, Public, public_formatted}
use Rattle.ob_stand.specs.Fresh.{Ranks, fresh_content}
use Rattle.ob_twin.specs.Opening.{HasOpen}
use Rattle.ob_twin.specs.Register.{gate_at}
use Rattle.ob_twin.specs.declared.gates.Gates.{Gates}
use Rattle.ob_twin.specs.declared.gates.Open.{Open}

-- ---- gates

-- whether a cell is the gate of a register at this cell, and known to be open
abbrev pub is_open_in : ℕ → Open → ℕ → Bool
is_open_in first known cell = ((cell == gate_at first 0) && known.zero) || ((cell == gate_at first 1) && known.one)

-- the register gates that are known to be open
abbrev pub gates_open : Gates → ℕ → Bool
gates_open gates cell = is_open_in 1 gates.generation cell || is_open_in 5 gates.epoch cell

-- ---- what the batches of records show, from a table on

-- their leaves, batch by batch
abbrev pub leaves_of_records : Params → FlatTable → List BatchRecord → List (List ℕ)
leaves_of_records p t [] = []
leaves_of_records p t (r ∷ rs) = leaves_shown p t (asked_of_record p r) ∷ leaves_of_records p (after p t (Batch (asked_of_record p r))) rs

-- the indexes that they show
abbrev pub picks_of_records : Params → FlatTable → List BatchRecord → List Shown
picks_of_records p t [] = []
picks_of_records p t (r ∷ rs) = picks p t (Batch (asked_of_record p r)) ++ picks_of_records p (after p t (Batch (asked_of_record p r))) rs

-- ---- the public state

-- From a checkpoint's content, the records whose batches were shown since, its epoch, and the register gates that are known to be
-- open: the homes and the reads of the buckets, the eviction counter, and the leaves that the batches showed.
abbrev pub public_of_kept : Params → Content → List BatchRecord → ℕ → Gates → Public
public_of_kept p c rs epoch gates = record (public_of c epoch (gates_open gates)) { leaves = flat_map (λ leaves. leaves) (leaves_of_records p (flat_of p c) rs) }

-- ---- the fills

-- the leaf that a place of a batch shows
abbrev pub label_among : List (List ℕ) → ℕ → ℕ → ℕ
label_among leaves b i = slice_index (slice_index_or leaves b []) i

-- the physical slot of a bucket's index
abbrev pub slot_kept : Content → ℕ → ℕ → ℕ
slot_kept c u j = rank_at (version_at c.versions u) j

-- The holes of these records' batches are filled by the leaves that they show, and by the slots of the indexes that they show.
abbrev pub fills_of : Params → Content → List BatchRecord → Fills
fills_of p c rs = record {
  label = label_among (leaves_of_records p (flat_of p c) rs);
  slot = slot_read_off (slot_kept c) (picks_of_records p (flat_of p c) rs);
}

-- and those of the final lifts behind them
abbrev pub fills_with_lifts : Params → Content → List BatchRecord → Fills
fills_with_lifts p c rs = record {
  label = label_among (leaves_of_records p (flat_of p c) rs);
  slot = slot_read_off (slot_kept c) (picks_of_records p (flat_of p c) rs ++ picks p (table_after_records p (flat_of p c) rs) FinalLifts);
}

-- ---- the planner that they are of

-- This planner has shown the batches of these records, from this content on, in this generation, and one gate of the epoch's register is
-- known to be open: so the public state of the epoch that runs is that of the content and the records.
pub record PlansFrom (p : Params) (g : ℕ) (gates : Gates) (ring : Kept) (c : Content) (rs : List BatchRecord) : Type 0 where
  pub obeys : Obeys p c
  pub fit : RecordsFit p rs
  pub planner : IsPlannerOf p c rs (record ring { metas = record ring.metas { order = [] } })
  pub gate : HasOpen gates.epoch

-- ---- other fills of the same holes

-- a hole that one of these indexes names is filled by the index's slot
abbrev pub AreSlotsOf : Content → List Shown → Fills → Type 0
AreSlotsOf c shown f = (s : Shown) → Has shown s → f.slot (hole_of s) ≡ slot_kept c s.bucket s.index

-- these fill the holes of the records' batches so
pub record AreFillsOf (p : Params) (c : Content) (rs : List BatchRecord) (f : Fills) : Type 0 where
  pub labels : (b i : ℕ) → b < length rs → f.label b i ≡ label_among (leaves_of_records p (flat_of p c) rs) b i
  pub slots : AreSlotsOf c (picks_of_records p (flat_of p c) rs) f

-- The fills of more records fill the holes of the first ones as those of the first ones do; and so do those with the final lifts.
pub record FillsGoOn : Type 0 where
  pub more : (p : Params) (c : Content) (rs more : List BatchRecord) → Obeys p c → AreFillsOf p c rs (fills_of p c (rs ++ more))
  pub lifts : (p : Params) (c : Content) (rs more : List BatchRecord) → Obeys p c → AreFillsOf p c rs (fills_with_lifts p c (rs ++ more))

-- ---- a new store

-- the gates that a format leaves open: generation 1's and epoch 0's
abbrev pub format_gates : Gates
format_gates = record { generation = record { zero = false; one = true }; epoch = record { zero = true; one = false } }

-- what the store knows of a new store is the schedule's public state of one, whatever the order of its slots is
abbrev pub FormatIsPublic : Type 0
FormatIsPublic = (p : Params) (ranks : Ranks) → public_of_kept p (fresh_content p ranks) [] 0 format_gates ≡ public_formatted p
