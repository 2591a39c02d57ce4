-- A whole history whose driver saw a desk that was over.
use Rattle.std.proofs.Common.{◌≡◌, ◌∙◌, ℕ, false, All, List, ◌++◌, refl, sym, ap, subst, decimal}
use Rattle.ob_base.specs.declared.params.Params.{Params}
use Rattle.ob_report.specs.Report.{report}
use Rattle.ob_serial.specs.Serial.{EpochRecord}
use Rattle.ob_serial.specs.Vaults.{VaultCounts}
use Rattle.ob_serial.specs.VaultKinds.{Kind}
use Rattle.ob_desk.specs.Desk.{DeskState}
use Rattle.ob_desk.specs.Beats.{BeatKind}
use Rattle.ob_session.specs.Steps.{Leads}
use Rattle.ob_turn.specs.declared.turn.Entry.{Entry}
use Rattle.ob_turn.specs.History.{entries_of, LeadsByTurns}
use Rattle.ob_hall.specs.Turns.{IsTurn}
use Rattle.ob_hall.specs.Passes.{Steps, Hall, IsNew, opening_of, history_of, entries_by, calls_in, IsLegal}
use Rattle.ob_hall.specs.Closing.{HasPass}
use Rattle.ob_hall.proofs.Histories.{history_leads}
use Rattle.ob_conduct.specs.Acts.{calls, records}
use Rattle.ob_conduct.specs.Records.{AreAnswered, IsOver, IsWritten}
use Rattle.ob_driver.specs.Resting.{IsMild}
use Rattle.ob_driver.specs.Driven.{Side}
use Rattle.ob_driver.specs.Drives.{RunsOut}
use Rattle.ob_driver.proofs.Sound.{history_sound}
use Rattle.ob_run.specs.Woven.{Woven}
use Rattle.ob_run.specs.Ends.{AreQuiet, AnyActs}
use Rattle.ob_run.proofs.DeskShapes.{same_shape, over_too}
use Rattle.ob_run.proofs.Quiet.{same_calls}

-- the desk, of a history that begins with one that led to a desk that was over
still_over : (opened over d : DeskState) (seen rest : List (Entry Steps)) → IsNew opened → LeadsByTurns IsTurn opened (seen ++ rest) d → LeadsByTurns IsTurn opened seen over → IsOver over → entries_of 0 (seen ++ rest) ≡ entries_of 0 seen → All IsMild
    (calls_in (entries_of 0 seen)) → AreQuiet opened (seen ++ rest)
    → IsOver d
still_over opened over d seen rest fresh legal so_far is_over driven mild quiet =
    let p : Params = opened.setup.params in
    let same : calls_in (seen ++ rest) ≡ calls_in seen = same_calls opened over d seen rest fresh legal so_far is_over driven quiet in
    let leads : Leads opened (calls_in seen) d = subst (λ (s : Steps). Leads opened s d) same (history_leads opened (seen ++ rest) d legal) in
    over_too p over d (same_shape opened (calls_in seen) over d (history_leads opened seen over so_far) leads) is_over
    (history_sound p opened seen over refl fresh so_far mild).fit
    (history_sound p opened (seen ++ rest) d refl fresh legal (subst (λ (es : List (Entry Steps)). All IsMild (calls_in es)) (sym driven) mild)).fit

pub over_runs : {V : Type 0} (k : Kind V) (beat : BeatKind) (hall : Hall) (old : Side V) (c : VaultCounts) (new : Side V) (next : VaultCounts) (r : RunsOut k beat hall AnyActs old c new next) (log : List (Entry Steps)) (raised : List ℕ) (d : DeskState) →
    HasPass log raised new.pass → IsLegal hall log d
    → AreQuiet (opening_of hall) log → (w : Woven k beat (opening_of hall) d log old.vault new.vault r.done.acts) → AreAnswered (calls w.acts) × IsOver d × IsWritten (report decimal (records w.acts)) old.output new.output × (new.trace.broken ≡ false)
over_runs k beat hall old c new next r log raised d has legal quiet w =
    let done = r.done.done in
    let driver = done.rests.at.driver in
    let own : entries_of 0 log ≡ entries_by new.pass = subst (λ (n : ℕ). entries_of n log ≡ entries_by new.pass) driver.place has.own in
    let seen_own : entries_of 0 (history_of new.pass) ≡ entries_by new.pass = subst (λ (n : ℕ). entries_of n (history_of new.pass) ≡ entries_by new.pass) driver.place driver.own.own in
    let mild : All IsMild (calls_in (entries_of 0 (history_of new.pass))) = subst (λ (es : List (Entry Steps)). All IsMild (calls_in es)) (sym seen_own) driver.mild in
    let rest : List (Entry Steps) = has.seen.0 in
    let is : history_of new.pass ++ rest ≡ log = has.seen.1 in (
      subst AreAnswered (sym w.calls_are) done.answered,
      still_over (opening_of hall) r.over.desk d (history_of new.pass) rest driver.own.opens (subst (λ (es : List (Entry Steps)). LeadsByTurns IsTurn (opening_of hall) es d) (sym is) legal) r.over.legal r.over.over (ap (entries_of 0) is ∙ (own ∙ sym seen_own)) mild
          (subst (AreQuiet (opening_of hall)) (sym is) quiet),
      subst (λ (rs : List (EpochRecord ℕ)). IsWritten (report decimal rs) old.output new.output) (sym w.records_are) done.written,
      done.whole,
    )
