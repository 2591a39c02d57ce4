-- What a crash at any moment of an end leaves, by the stages of its close.
use Rattle.std.specs.Prelude.{◌≡◌, ℕ, List, [], ◌∷◌, ◌++◌, Option, Result, Ok, Err}
use Rattle.std.proofs.Common.{inl, sym, ap, ◌∙◌}
use Rattle.ob_base.specs.declared.fault.Fault.{Fault}
use Rattle.ob_base.specs.declared.params.Params.{Params}
use Rattle.ob_base.specs.declared.value.Write.{Write}
use Rattle.ob_end.specs.Closings.{ClosesEnd, ClosesInStages, IfWritten}
use Rattle.ob_end.specs.EndRuns.{EndImages, end_err_of, standing_at_end}
use Rattle.ob_end.specs.Moments.{AreMadeBut, EndMoments, EndSpans, IsEndInStages, IsEndMadeButSet}
use Rattle.ob_end.proofs.EndCases.{images_ended, images_refused}
use Rattle.ob_fetch.specs.declared.run.Run.{Run}
use Rattle.ob_recover.proofs.Dealing.{HasLane, made_join, made_read, made_steps}
use Rattle.ob_recover.specs.Repeats.{BatchIsShown}
use Rattle.ob_schedule.proofs.Phased.{phases_append}
use Rattle.ob_schedule.specs.Phases.{Phase, Reads, phases_of}
use Rattle.ob_seal.specs.declared.keys.Keys.{Keys}
use Rattle.ob_serial.specs.declared.vault.EndErr.{EndErr}
use Rattle.ob_serial.specs.declared.vault.EndErr.TheVariants as end
use Rattle.ob_stand.specs.Ends.{RingEnd, standing_after}
use Rattle.ob_stand.specs.Stands.{OneOf, RingStanding, Stands}
use Rattle.ob_store.proofs.Moments.{then_on, weakened}
use Rattle.ob_store.specs.Calls.{Notes}
use Rattle.ob_store.specs.Disk.{Disk, Image}
use Rattle.ob_store.specs.Images.{LeavesOnly}
use Rattle.ob_store.specs.Lines.{Trace}
use Rattle.ob_store.specs.Told.{events_of}
use Rattle.ob_store.specs.declared.event.Event.{Event}
use Rattle.ob_store.specs.declared.watch.Note.{Note}
use Rattle.ob_tables.specs.declared.entry.Entry.{Entry}
use Rattle.ob_twin.specs.declared.set_err.SetErr.{SetErr}
use Rattle.ob_twin.specs.declared.set_err.SetErr.TheVariants as set

-- the lifts were read, and these notes' calls were made behind them
pub made_but : (most : ℕ) (cells : List ℕ) (notes writes setting : List Note) (phases : List Phase) (a m b : Option (List Event)) (k j : Trace) → HasLane most writes → Reads cells ∷ phases_of (writes ++ setting) ≡ phases
    → BatchIsShown most cells notes a m k j → Notes (events_of writes) m b → AreMadeBut setting most phases a b
made_but most cells notes writes setting phases a m b k j lane whole lifts seen = record {
  first = Reads cells ∷ phases_of writes;
  split = sym whole ∙ ap (λ (ps : List Phase). Reads cells ∷ ps) (phases_append writes setting);
  made = made_join most (Reads cells ∷ []) (phases_of writes) a m b (made_read most cells a m lifts.0) (made_steps most writes m b lane seen);
}

module _ {S : Type 0} (disk : S → Disk) (most : ℕ) (s : RingStanding) (ws : List (Write × Entry)) (run run' : Run) (old mid new : S) where
  abbrev was : Image → Type 0
  was = Stands (run.sealer).keys run.params s

  abbrev either : Image → Type 0
  either = OneOf (run.sealer).keys run.params s (standing_at_end s run' ws)

  -- by the stages of its close, which stand behind the lifts' reads
  pub ends_in_stages : (writes : List Note) (ks : Keys) (q : Params) (ending : RingEnd) → ClosesInStages disk writes ks q s ending mid new
      → ((x : S) → LeavesOnly (disk mid) (disk x) (Stands ks q s) → LeavesOnly (disk old) (disk x) was)
      → ((x : S) → LeavesOnly (disk x) (disk new) (OneOf ks q s (standing_after s ending)) → LeavesOnly (disk x) (disk new) either)
      → ((x : S) → Notes (events_of writes) (disk mid).seen (disk x).seen → IsEndMadeButSet most run (disk old).seen (disk x).seen) → IsEndInStages disk most s ws run run' old new
  ends_in_stages writes ks q ending closes first later made = record {
    between = closes.between;
    made = made closes.between closes.made;
    until = first closes.between closes.until;
    since = later closes.between closes.since;
  }

  -- both stages together
  pub either_stage : IsEndInStages disk most s ws run run' old new → LeavesOnly (disk old) (disk new) either
  either_stage both = then_on (disk old) (disk both.between) (disk new) either (weakened (disk old) (disk both.between) was either (λ c stands. inl stands) both.until) both.since

  abbrev Spans : Result (Unit {0}) EndErr → Type 0
  Spans r = EndSpans disk most s ws run run' old new r

  pub moments_ended : IsEndInStages disk most s ws run run' old new → Spans (Ok tt) → EndMoments disk most s ws run run' old new (Ok tt)
  moments_ended both spans = record { leaves = images_ended (run.sealer).keys run.params s ws run' (disk old) (disk new) (either_stage both); stages = both; spans = spans }

  pub moments_before : (f : Fault) → LeavesOnly (disk old) (disk new) was → Spans (Err (end.Before f)) → EndMoments disk most s ws run run' old new (Err (end.Before f))
  moments_before f leaves spans = record { leaves = images_refused (run.sealer).keys run.params s ws run' (disk old) (disk new) f leaves; stages = leaves; spans = spans }

  pub moments_closed : (writes : List Note) (ks : Keys) (q : Params) (ending : RingEnd) (rows : Type 0) (x : SetErr) → ClosesEnd disk writes ks q s ending mid new (Err x) → IfWritten rows (Err x)
      → (LeavesOnly (disk mid) (disk new) (Stands ks q s) → LeavesOnly (disk old) (disk new) was) → (rows → ClosesInStages disk writes ks q s ending mid new → IsEndInStages disk most s ws run run' old new) → Spans (Err (end_err_of x))
      → EndMoments disk most s ws run run' old new (Err (end_err_of x))
  moments_closed writes ks q ending rows (set.Before f) closes left refused both spans = moments_before f (refused closes) spans
  moments_closed writes ks q ending rows (set.Unsure f) closes left refused both spans = record {
    leaves = weakened (disk old) (disk new) either (EndImages (run.sealer).keys run.params s ws run' (Err (end.Unsure f))) (λ c is. is) (either_stage (both left closes));
    stages = both left closes;
    spans = spans;
  }
