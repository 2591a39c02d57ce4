-- An end's calls show the schedule's end, and leave its public state.
use Rattle.std.specs.Prelude.{◌≡◌, ℕ, suc, ◌%◌, List, [], ◌∷◌, ◌++◌, length, map, Option, Ok}
use Rattle.std.specs.List.{flat_map}
use Rattle.ob_base.specs.declared.params.Params.{Params}
use Rattle.ob_base.specs.declared.value.Write.{Write}
use Rattle.ob_base.specs.Layout.{checkpoint_cells, slot_cell}
use Rattle.ob_base.specs.Tree.{width}
use Rattle.ob_tables.specs.Buckets.{version_at}
use Rattle.ob_tables.specs.Version.{Version}
use Rattle.ob_check.specs.Written.{area_of}
use Rattle.ob_tables.specs.Content.{Content, Obeys, Rows}
use Rattle.ob_stand.specs.EpochEnds.{RefillRun}
use Rattle.ob_stand.specs.Table.{flat_of}
use Rattle.ob_stand.specs.Valued.{content_with}
use Rattle.ob_log.specs.Logs.{BatchRecord, RecordsFit}
use Rattle.ob_recover.specs.Repeats.{BatchIsShown, asked_of_record, table_after_records}
use Rattle.ob_ring.specs.Arrays.{AreWhole, IsTableOf, arrays_of, rest_of}
use Rattle.ob_ring.specs.Filling.{AreSealedAnew}
use Rattle.ob_ring.specs.FlatTable.{refill_order}
use Rattle.ob_ring.specs.Picked.{SameSeals, final_picked, job_of}
use Rattle.ob_schedule.specs.Paths.{eviction_path}
use Rattle.ob_schedule.specs.Phases.{Phase, Reads, end_phases, phases_of}
use Rattle.ob_schedule.specs.Schedule.{after_end, end_notes, log_gates, writes_of}
use Rattle.ob_store.specs.Lines.{Trace}
use Rattle.ob_store.specs.Runs.{write_notes}
use Rattle.ob_store.specs.Told.{Tells}
use Rattle.ob_store.specs.declared.event.Event.{Event}
use Rattle.ob_store.specs.declared.watch.Note.{Note}
use Rattle.ob_store.specs.declared.watch.Note.TheVariants as note
use Rattle.ob_tables.specs.declared.entry.Entry.{Entry}
use Rattle.ob_twin.specs.Opening.{HasOpen, gates_set, is_closed_first}
use Rattle.ob_twin.specs.Orders.{set_notes}
use Rattle.ob_twin.specs.Register.{place_of}
use Rattle.ob_twin.specs.declared.gates.Gates.{Gates}
use Rattle.ob_twin.specs.declared.twin.Twin.TheVariants.{EPOCH}
use Rattle.ob_stand.specs.Epochs.{Read, after_epoch, before_refill}
use Rattle.ob_recover.specs.Fronts.{AreFirstNotes}
use Rattle.ob_recover.specs.Known.{fills_with_lifts, public_of_kept}
use Rattle.ob_recover.specs.Telling.{AreTold}

-- ---- what is shown

-- the final lifts read the slot of each index that they take, with no label
abbrev pub lifts_notes : Params → Content → List BatchRecord → List Note
lifts_notes p c rs =
    let t = table_after_records p (flat_of p c) rs in
    map (λ q. note.Read (job_of p c.versions q).cell) (final_picked p t (eviction_path p t.counter))

-- the cells of these reads
abbrev pub lifts_cells : Params → Content → List BatchRecord → List ℕ
lifts_cells p c rs =
    let t = table_after_records p (flat_of p c) rs in
    map (λ q. (job_of p c.versions q).cell) (final_picked p t (eviction_path p t.counter))

-- each bucket that was filled anew is written where it then lies, its slots rising
abbrev pub refill_notes : Params → List Version → List ℕ → List Note
refill_notes p versions order = flat_map (λ u. write_notes (slot_cell p (version_at versions u).home u 0) (width p)) order

-- the checkpoint of the epoch that ends, closed gates for the log of the one behind it, a sync, and the epoch's register
abbrev pub closing_notes : Params → ℕ → Gates → List Note
closing_notes p epoch gates =
    write_notes (area_of p (suc epoch)) (checkpoint_cells p) ++ (writes_of (log_gates p (suc (suc epoch) % 2))
    ++ ((note.Sync ∷ []) ++ set_notes (is_closed_first gates.epoch (place_of (suc epoch))) 5 (suc epoch)))

-- the lifts' reads, the refilled buckets in their order, and what closes the epoch
abbrev pub ending_notes : Params → Content → List BatchRecord → ℕ → Gates → List Version → List ℕ → List Note
ending_notes p c rs epoch gates versions order = lifts_notes p c rs ++ (refill_notes p versions order ++ closing_notes p epoch gates)

-- the lifts' reads as one phase, and the rest one by one
abbrev pub ending_phases : Params → Content → List BatchRecord → ℕ → Gates → List Version → List ℕ → List Phase
ending_phases p c rs epoch gates versions order = Reads (lifts_cells p c rs) ∷ phases_of (refill_notes p versions order ++ closing_notes p epoch gates)

-- what is known of the gates once the epoch has ended
abbrev pub gates_ended : Gates → ℕ → Gates
gates_ended gates epoch = gates_set EPOCH (suc epoch) gates (Ok tt)

-- ---- the law

-- The end is the schedule's, its fills the labels and the slots of the flat table's picks; behind it the public state is that of the
-- next content.
pub record EndIsScheduled (p : Params) (c : Content) (rs : List BatchRecord) (epoch : ℕ) (gates : Gates) (run : RefillRun) (c' : Content) : Type 0 where
  pub notes : ending_notes p c rs epoch gates (run.filled).versions (run.before).order ≡ end_notes p (public_of_kept p c rs epoch gates) (fills_with_lifts p c rs)
  pub phases : ending_phases p c rs epoch gates (run.filled).versions (run.before).order ≡ end_phases p (public_of_kept p c rs epoch gates) (fills_with_lifts p c rs)
  pub behind : after_end p (public_of_kept p c rs epoch gates) ≡ public_of_kept p c' [] (suc epoch) (gates_ended gates epoch)
  -- and the epoch's register has a gate known to be open again
  pub gate : HasOpen (gates_ended gates epoch).epoch

-- How a refill left the buckets, behind batches, writes and final lifts that began at this content: those that were lifted are sealed anew,
-- in the order listed, and no other one moved.
pub record RefillsFrom (p : Params) (run : RefillRun) (c : Content) (book : List (Option Entry)) (counter : ℕ) (bs : List Read) (ws : List (Write × Entry)) : Type 0 where
  pub began : (run.start).versions ≡ c.versions
  pub seals : SameSeals run.start run.before
  pub listed : (run.before).order ≡ refill_order p (before_refill p (flat_of p c) bs ws)
  pub anew : AreSealedAnew p run.before run.filled run.words run.first (length (run.before).order)
  pub table : IsTableOf p (arrays_of run.filled (rest_of book counter)) (after_epoch p (flat_of p c) bs ws)
  pub whole : AreWhole p run.filled

-- so it is over a refill from the content on, behind the records' batches
abbrev pub EndsAreScheduled : Type 0
EndsAreScheduled = (p : Params) (c : Content) (rs : List BatchRecord) (epoch : ℕ) (gates : Gates) (run : RefillRun) (book : List (Option Entry)) (counter : ℕ) (bs : List Read) (ws : List (Write × Entry)) (rows : Rows)
    → Obeys p c → RecordsFit p rs → HasOpen gates.epoch → map (λ b. b.0) bs ≡ map (asked_of_record p) rs → RefillsFrom p run c book counter bs ws
    → Obeys p (content_with run.filled book rows counter) → EndIsScheduled p c rs epoch gates run (content_with run.filled book rows counter)

-- and an end that was refused behind its lifts has shown the first of its notes
abbrev pub LiftsComeFirst : Type 0
LiftsComeFirst = (p : Params) (c : Content) (rs : List BatchRecord) (epoch : ℕ) (gates : Gates) → Obeys p c → RecordsFit p rs
    → AreFirstNotes (lifts_notes p c rs) (end_notes p (public_of_kept p c rs epoch gates) (fills_with_lifts p c rs))

-- ---- as it is told

-- The lifts were read, by so many lanes, and shown, and then the rest was made and shown.
abbrev pub EndsAreTold : Type 0
EndsAreTold = (most : ℕ) (p : Params) (c : Content) (rs : List BatchRecord) (epoch : ℕ) (gates : Gates) (run : RefillRun) (c' : Content) (old mid new : Option (List Event)) (before between later : Trace)
    → EndIsScheduled p c rs epoch gates run c' → BatchIsShown most (lifts_cells p c rs) (lifts_notes p c rs) old mid before between
    → Tells (refill_notes p (run.filled).versions (run.before).order ++ closing_notes p epoch gates) (refill_notes p (run.filled).versions (run.before).order ++ closing_notes p epoch gates) mid new between later
    → AreTold most (end_phases p (public_of_kept p c rs epoch gates) (fills_with_lifts p c rs)) (end_notes p (public_of_kept p c rs epoch gates) (fills_with_lifts p c rs)) old new before later
