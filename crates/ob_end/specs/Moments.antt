-- What a crash at any moment of an end leaves, and which of its steps were made by then.
use Rattle.std.specs.Prelude.{◌≡◌, ℕ, suc, List, ◌++◌, Option, Result, Ok, Err}
use Rattle.ob_base.specs.declared.value.Write.{Write}
use Rattle.ob_end.specs.EndRuns.{EndImages, standing_at_end}
use Rattle.ob_end.specs.Stages.{EndStagesSet, IsEndSpanned}
use Rattle.ob_fetch.specs.Stages.{InTwoStages}
use Rattle.ob_fetch.specs.declared.run.Run.{Run}
use Rattle.ob_log.specs.Logs.{BatchRecord}
use Rattle.ob_recover.specs.Known.{PlansFrom, fills_with_lifts, public_of_kept}
use Rattle.ob_recover.specs.Telling.{ArePhasesMade}
use Rattle.ob_schedule.specs.Phases.{Phase, end_phases, phases_of}
use Rattle.ob_serial.specs.declared.vault.EndErr.{EndErr}
use Rattle.ob_serial.specs.declared.vault.EndErr.TheVariants as end
use Rattle.ob_stand.specs.Stands.{OneOf, RingStanding, Stands}
use Rattle.ob_store.specs.Disk.{Disk}
use Rattle.ob_store.specs.Images.{LeavesOnly}
use Rattle.ob_store.specs.declared.event.Event.{Event}
use Rattle.ob_store.specs.declared.watch.Note.{Note}
use Rattle.ob_tables.specs.Content.{Content}
use Rattle.ob_tables.specs.declared.entry.Entry.{Entry}
use Rattle.ob_twin.specs.Opening.{is_closed_first}
use Rattle.ob_twin.specs.Orders.{set_notes}
use Rattle.ob_twin.specs.Register.{place_of}

-- All of these phases were made but for the last ones, which set a register.
pub record AreMadeBut (setting : List Note) (most : ℕ) (phases : List Phase) (old new : Option (List Event)) : Type 0 where
  pub first : List Phase
  pub split : phases ≡ first ++ phases_of setting
  pub made : ArePhasesMade most first old new

-- the set of the register that ends the epoch of a run
abbrev pub end_setting : Run → List Note
end_setting run = set_notes (is_closed_first (run.gates).epoch (place_of (suc run.epoch))) 5 (suc run.epoch)

-- All of the schedule's end of what the store knows was made, its lifts first, but for the set of the epoch's register.
abbrev pub IsEndMadeButSet : (most : ℕ) → Run → Option (List Event) → Option (List Event) → Type 0
IsEndMadeButSet most run old new = (c : Content) (rs : List BatchRecord) → PlansFrom run.params (run.sealer).generation run.gates run.ring c rs
    → AreMadeBut (end_setting run) most (end_phases run.params (public_of_kept run.params c rs run.epoch run.gates) (fills_with_lifts run.params c rs)) old new

module _ {S : Type 0} (disk : S → Disk) (most : ℕ) (s : RingStanding) (ws : List (Write × Entry)) (run run' : Run) (old new : S) where
  -- Until the epoch's register is set a crash leaves what stood, and by then all else was made; while it is set a crash leaves what stood, or
  -- the next epoch.
  abbrev pub IsEndInStages : Type 0
  IsEndInStages = InTwoStages disk (IsEndMadeButSet most run) (Stands (run.sealer).keys run.params s) (OneOf (run.sealer).keys run.params s (standing_at_end s run' ws)) old new

  -- refused before the register's gate was written, it leaves what stood at each moment
  abbrev pub EndStages : Result (Unit {0}) EndErr → Type 0
  EndStages (Ok done) = IsEndInStages
  EndStages (Err (end.Before refused)) = LeavesOnly (disk old) (disk new) (Stands (run.sealer).keys run.params s)
  EndStages (Err (end.Unsure refused)) = IsEndInStages

  -- and with the register's gates, in the stages of its set
  abbrev pub EndSpans : Result (Unit {0}) EndErr → Type 0
  EndSpans result =
      IsEndSpanned disk (run.sealer).keys run.params s (standing_at_end s run' ws) (is_closed_first (run.gates).epoch (place_of (suc run.epoch))) (IsEndMadeButSet most run) (EndStagesSet result) old new

  -- what a crash leaves at any moment, and in this order
  pub record EndMoments (result : Result (Unit {0}) EndErr) : Type 0 where
    pub leaves : LeavesOnly (disk old) (disk new) (EndImages (run.sealer).keys run.params s ws run' result)
    pub stages : EndStages result
    pub spans : EndSpans result
