-- What came of the words, with a store and without one, command by command.
use Rattle.std.proofs.Common.{◌≡◌, ◌⊎◌, ◌≤◌, ℕ, List, Bool, Option, Some, None, length, take, refl, sym, ap, subst, ◌∙◌, inl, inr, ⊎_elim}
use Rattle.std.specs.Borrow.{Bor}
use Rattle.ob_base.specs.declared.params.Params.{Params}
use Rattle.ob_base.specs.declared.fault.Field.{Field}
use Rattle.ob_base.specs.declared.fault.Field.TheVariants.{LANES, COUNT}
use Rattle.ob_base.specs.declared.fault.Fault.{Fault}
use Rattle.ob_base.specs.declared.fault.Fault.TheVariants.{Memory, Usage, BadScript, BadParams, NotStore, Damaged, StoreFault, StashFull, Worn, SourceFault, SinkFault}
use Rattle.ob_base.specs.Causes.{Rose}
use Rattle.ob_io.specs.Flows.{appended}
use Rattle.ob_io.specs.Streams.{Flow}
use Rattle.ob_report.specs.Printed.{IsPrinted}
use Rattle.ob_seal.specs.declared.keys.Keys.{Keys}
use Rattle.ob_store.specs.Disk.{Disk}
use Rattle.ob_shares.specs.declared.shares.Shares.{Shares}
use Rattle.ob_desk.specs.Beats.{BeatKind}
use Rattle.ob_words.specs.Reading.{Asked, AskedShares, asked_by, format_asked, run_asked, audit_asked, drill_asked}
use Rattle.ob_audit.specs.declared.verdict.Audit as verdict
use Rattle.ob_audit.specs.declared.verdict.Audit.TheVariants.{Fits, Breaks}
use Rattle.ob_audit.specs.Traces.{IsAuditFault}
use Rattle.ob_words.specs.declared.work.Work.TheVariants.{Audit, Drill}
use Rattle.ob_words.specs.Work.{AskFor, AreParams, IsBadNumber, AreLanes, AreBadLanes, AreShares, IsCount, IsBadCount, HasKeys, IsKeysRefused}
use Rattle.ob_top.specs.Outside.{Given, Outside, IsFinished, IsOnlyTold}
use Rattle.ob_top.specs.Audits.{AuditDone, verdict_status}
use Rattle.ob_top.specs.Drills.{DrillDone}
use Rattle.ob_top.specs.Over.{OverStore, WithoutStore}
use Rattle.ob_top.proofs.Commands.{one_asked, nothing_asked, usage_done, audit_told, drill_told, format_does, run_does, no_store_usage, no_store_audit, no_store_drill, no_store_format, no_store_run}
use Rattle.ob_top.proofs.Completing.{Tell, FormatTells, RunTells}

not_format : (words : List (List ℕ)) (store keys : List ℕ) (numbers : List (List ℕ)) (trace : Option (List ℕ)) → asked_by words ≡ Some audit_asked → asked_by words ≡ Some (format_asked store keys numbers trace) → ⊥
not_format words store keys numbers trace first second = let same : audit_asked ≡ format_asked store keys numbers trace = one_asked words audit_asked (format_asked store keys numbers trace) first second in cc

not_run : (words : List (List ℕ)) (store keys : List ℕ) (lanes : Option (List ℕ)) (turns : Bool) (trace mirror : Option (List ℕ)) (limits : AskedShares) → asked_by words ≡ Some audit_asked → asked_by words ≡ Some (run_asked store keys lanes turns trace mirror limits) → ⊥
not_run words store keys lanes turns trace mirror limits first second = let same : audit_asked ≡ run_asked store keys lanes turns trace mirror limits = one_asked words audit_asked (run_asked store keys lanes turns trace mirror limits) first second in cc

-- an audit is no self-test, and neither is anything else
not_audit : (words : List (List ℕ)) (word : List ℕ) → asked_by words ≡ Some (drill_asked word) → asked_by words ≡ Some audit_asked → ⊥
not_audit words word first second = let same : drill_asked word ≡ audit_asked = one_asked words (drill_asked word) audit_asked first second in cc

drill_not_format : (words : List (List ℕ)) (word store keys : List ℕ) (numbers : List (List ℕ)) (trace : Option (List ℕ)) → asked_by words ≡ Some (drill_asked word) → asked_by words ≡ Some (format_asked store keys numbers trace) → ⊥
drill_not_format words word store keys numbers trace first second = let same : drill_asked word ≡ format_asked store keys numbers trace = one_asked words (drill_asked word) (format_asked store keys numbers trace) first second in cc

drill_not_run : (words : List (List ℕ)) (word store keys : List ℕ) (lanes : Option (List ℕ)) (turns : Bool) (trace mirror : Option (List ℕ)) (limits : AskedShares) → asked_by words ≡ Some (drill_asked word) → asked_by words ≡ Some (run_asked store keys lanes turns trace mirror limits) → ⊥
drill_not_run words word store keys lanes turns trace mirror limits first second = let same : drill_asked word ≡ run_asked store keys lanes turns trace mirror limits = one_asked words (drill_asked word) (run_asked store keys lanes turns trace mirror limits) first second in cc

same_word : (words : List (List ℕ)) (a b : List ℕ) → asked_by words ≡ Some (drill_asked a) → asked_by words ≡ Some (drill_asked b) → a ≡ b
same_word words a b first second = let same : drill_asked a ≡ drill_asked b = one_asked words (drill_asked a) (drill_asked b) first second in cc

-- what words ask for that ask for a self-test
pub drill_words : (words : List (List ℕ)) (n : ℕ) → AskFor words (Drill n) → (word : List ℕ) × (asked_by words ≡ Some (drill_asked word)) × IsCount word n
drill_words words n (asked, by, (word, is, count)) = (word, by ∙ ap (λ (a : Asked). Some a) is, count)

-- what words ask for that ask for an audit
pub audit_words : (words : List (List ℕ)) → AskFor words Audit → asked_by words ≡ Some audit_asked
audit_words words (asked, by, is) = by ∙ ap (λ (a : Asked). Some a) is

-- a front of a text was written when the output failed, and nothing behind it
pub front_printed : (before mid after : Flow) (text : List ℕ) → Rose before.faults mid.faults → after ≡ mid → (n : ℕ) × (n ≤ length text) × (mid.bytes ≡ appended before.bytes (take n text)) → IsPrinted before after text
front_printed before mid after text rose same (n, few, written) = subst (λ (f : Flow). IsPrinted before f text) (sym same) (record { count = n; within = few; written = written; whole = inr rose })

pub still_rose : (n : ℕ) (mid after : Flow) → Rose n mid.faults → after ≡ mid → Rose n after.faults
still_rose n mid after rose same = subst (λ (f : Flow). Rose n f.faults) (sym same) rose

-- ---- an audit answers

verdict_low : (audit : verdict.Audit) (status : ℕ) → status ≡ verdict_status audit → (status ≡ 0) ⊎ ((status ≡ 1) ⊎ (status ≡ 9))
verdict_low Fits status is = inl is
verdict_low (Breaks line wanted found) status is = inr (inl is)

refused_low : (before after : Outside) (status : ℕ) (fault : Fault) → IsAuditFault before.input.faults after.input.faults fault → IsFinished before.output after.output (Some fault) status
    → (Rose before.input.faults after.input.faults → ⊥) → status ≡ 9
refused_low before after status Memory cause done holds = done.status_is
refused_low before after status SourceFault cause done holds = absurd (holds cause)
refused_low before after status Usage cause done holds = absurd cause
refused_low before after status (BadScript line) cause done holds = absurd cause
refused_low before after status (BadParams field) cause done holds = absurd cause
refused_low before after status NotStore cause done holds = absurd cause
refused_low before after status (Damaged cell check kept computed) cause done holds = absurd cause
refused_low before after status (StoreFault unsure) cause done holds = absurd cause
refused_low before after status (StashFull rows) cause done holds = absurd cause
refused_low before after status (Worn number) cause done holds = absurd cause
refused_low before after status SinkFault cause done holds = absurd cause

done_low : (before after : Outside) (status : ℕ) → AuditDone before after status → (Rose before.input.faults after.input.faults → ⊥) → (Rose before.output.faults after.output.faults → ⊥)
    → (status ≡ 0) ⊎ ((status ≡ 1) ⊎ (status ≡ 9))
done_low before after status (inl told) input output = elim told.answered [
  | inl (is, all) ↦ verdict_low told.audit status is
  | inr (is, rose) ↦ absurd (output rose)
]
done_low before after status (inr refused) input output = inr (inr (refused_low before after status refused.fault refused.cause refused.finished input))

pub audit_low : (Kept : Type 0) (before after : Outside) (status : ℕ) → (Kept × IsOnlyTold Memory before after status) ⊎ (Kept × AuditDone before after status)
    → (Rose before.input.faults after.input.faults → ⊥) → (Rose before.output.faults after.output.faults → ⊥) → (status ≡ 0) ⊎ ((status ≡ 1) ⊎ (status ≡ 9))
audit_low Kept before after status (inl (kept, told)) input output = inr (inr told.status_is)
audit_low Kept before after status (inr (kept, done)) input output = done_low before after status done input output

-- ---- a self-test answers

drill_done_low : (n : ℕ) (before after : Outside) (status : ℕ) → DrillDone n before after status → (Rose before.output.faults after.output.faults → ⊥) → (status ≡ 0) ⊎ (status ≡ 9)
drill_done_low n before after status (inl told) output = elim told.answered [
  | inl (is, all) ↦ inl is
  | inr (is, rose) ↦ absurd (output rose)
]
drill_done_low n before after status (inr memory) output = inr memory.status_is

pub drill_low : (Kept : Type 0) (before after : Outside) (status : ℕ) (word : List ℕ) (n : ℕ) → IsCount word n
    → (Kept × IsOnlyTold Memory before after status) ⊎ ((IsBadCount word × (Kept × IsOnlyTold (BadParams COUNT) before after status)) ⊎ ((m : ℕ) × IsCount word m × Kept × DrillDone m before after status))
    → (Rose before.output.faults after.output.faults → ⊥) → (status ≡ 0) ⊎ (status ≡ 9)
drill_low Kept before after status word n count (inl (kept, told)) output = inr told.status_is
drill_low Kept before after status word n count (inr (inl (bad, (kept, told)))) output = absurd (bad n count.1 count.0)
drill_low Kept before after status word n count (inr (inr (m, is, kept, done))) output = drill_done_low m before after status done output

-- ---- with a store

module _ {S W : Type 0} (disk : S → Disk) (flow : W → Flow) (beat : BeatKind) (tape : Given) (words : List (List ℕ)) (text : Option (Bor (List ℕ))) (old new : S) (was is : Option W) (before after : Outside) (status : ℕ) where
  pub usage_over : OverStore disk flow beat tape words text old new before after was is status → asked_by words ≡ None
      → Tell disk flow beat tape words text old new was is before after status Usage ⊎ Tell disk flow beat tape words text old new was is before after status Memory
  usage_over (inl (kept, inl (asked, done))) nothing = absurd (nothing_asked words audit_asked nothing asked)
  usage_over (inl (kept, inr (word, n, asked, count, done))) nothing = absurd (nothing_asked words (drill_asked word) nothing asked)
  usage_over (inr (mid, err, does, input, done)) nothing = usage_done before mid after status input disk flow beat tape words text old new was is err does done nothing

  pub audit_over : OverStore disk flow beat tape words text old new before after was is status → asked_by words ≡ Some audit_asked
      → Tell disk flow beat tape words text old new was is before after status Memory ⊎ (((new ≡ old) × (is ≡ was)) × AuditDone before after status)
  audit_over (inl (kept, inl (asked, done))) asks = inr (kept, done)
  audit_over (inl (kept, inr (word, n, asked, count, done))) asks = absurd (not_audit words word asked asks)
  audit_over (inr (mid, err, does, input, done)) asks = inl (audit_told before mid after status input disk flow beat tape words text old new was is err does done asks)

  pub drill_over : OverStore disk flow beat tape words text old new before after was is status → (word : List ℕ) → asked_by words ≡ Some (drill_asked word)
      → Tell disk flow beat tape words text old new was is before after status Memory ⊎ ((IsBadCount word × Tell disk flow beat tape words text old new was is before after status (BadParams COUNT)) ⊎ ((n : ℕ) × IsCount word n × ((new ≡ old) × (is ≡ was)) × DrillDone n before after status))
  drill_over (inl (kept, inl (asked, done))) word asks = absurd (not_audit words word asks asked)
  drill_over (inl (kept, inr (other, n, asked, count, done))) word asks = inr (inr (n, subst (λ (w : List ℕ). IsCount w n) (same_word words other word asked asks) count, kept, done))
  drill_over (inr (mid, err, does, input, done)) word asks = ⊎_elim (λ memory. inl memory) (λ bad. inr (inl bad)) (drill_told before mid after status input disk flow beat tape words text old new was is err does done word asks)

  pub format_over : OverStore disk flow beat tape words text old new before after was is status → (store keys : List ℕ) (numbers : List (List ℕ)) (trace : Option (List ℕ)) → asked_by words ≡ Some (format_asked store keys numbers trace)
      → FormatTells disk flow beat tape words text old new was is before after status numbers trace
  format_over (inl (kept, inl (asked, done))) store keys numbers trace asks = absurd (not_format words store keys numbers trace asked asks)
  format_over (inl (kept, inr (word, n, asked, count, done))) store keys numbers trace asks = absurd (drill_not_format words word store keys numbers trace asked asks)
  format_over (inr (mid, err, does, input, done)) store keys numbers trace asks = format_does before mid after status input disk flow beat tape words text old new was is err does done store keys numbers trace asks

  pub run_over : OverStore disk flow beat tape words text old new before after was is status → (store keys : List ℕ) (lanes : Option (List ℕ)) (turns : Bool) (trace mirror : Option (List ℕ)) (limits : AskedShares) → asked_by words ≡ Some (run_asked store keys lanes turns trace mirror limits)
      → RunTells disk flow beat tape words text old new was is before after status lanes turns trace limits
  run_over (inl (kept, inl (asked, done))) store keys lanes turns trace mirror limits asks = absurd (not_run words store keys lanes turns trace mirror limits asked asks)
  run_over (inl (kept, inr (word, n, asked, count, done))) store keys lanes turns trace mirror limits asks = absurd (drill_not_run words word store keys lanes turns trace mirror limits asked asks)
  run_over (inr (mid, err, does, input, done)) store keys lanes turns trace mirror limits asks = run_does before mid after status input disk flow beat tape words text old new was is err does done store keys lanes turns trace mirror limits asks

-- ---- without one

module _ (Kept : Type 0) (kept : Kept) (words : List (List ℕ)) (text : Option (Bor (List ℕ))) (before after : Outside) (status : ℕ) where
  abbrev Alone : Fault → Type 0
  Alone f = (Unit {0} × Kept) × IsOnlyTold f before after status

  abbrev NoneAlone : Type 0
  NoneAlone = ((f : Fault) × IsKeysRefused text f × Alone f) ⊎ ((keys : Keys) × HasKeys text keys × (Kept × IsOnlyTold (StoreFault None) before after status))

  pub usage_alone : WithoutStore words text before after status → asked_by words ≡ None → Alone Usage ⊎ Alone Memory
  usage_alone (inl (inl (asked, done))) nothing = absurd (nothing_asked words audit_asked nothing asked)
  usage_alone (inl (inr (word, n, asked, count, done))) nothing = absurd (nothing_asked words (drill_asked word) nothing asked)
  usage_alone (inr (fault, refused, input, done)) nothing = no_store_usage before before after status input Kept kept words text fault refl done refused nothing

  pub audit_without : WithoutStore words text before after status → asked_by words ≡ Some audit_asked → Alone Memory ⊎ ((Unit {0} × Kept) × AuditDone before after status)
  audit_without (inl (inl (asked, done))) asks = inr ((tt, kept), done)
  audit_without (inl (inr (word, n, asked, count, done))) asks = absurd (not_audit words word asked asks)
  audit_without (inr (fault, refused, input, done)) asks = inl (no_store_audit before before after status input Kept kept words text fault refl done refused asks)

  pub drill_without : WithoutStore words text before after status → (word : List ℕ) → asked_by words ≡ Some (drill_asked word)
      → Alone Memory ⊎ ((IsBadCount word × Alone (BadParams COUNT)) ⊎ ((n : ℕ) × IsCount word n × (Unit {0} × Kept) × DrillDone n before after status))
  drill_without (inl (inl (asked, done))) word asks = absurd (not_audit words word asks asked)
  drill_without (inl (inr (other, n, asked, count, done))) word asks = inr (inr (n, subst (λ (w : List ℕ). IsCount w n) (same_word words other word asked asks) count, (tt, kept), done))
  drill_without (inr (fault, refused, input, done)) word asks = ⊎_elim (λ memory. inl memory) (λ bad. inr (inl bad)) (no_store_drill before before after status input Kept kept words text fault refl done refused word asks)

  pub format_alone : WithoutStore words text before after status → (store keys : List ℕ) (numbers : List (List ℕ)) (trace : Option (List ℕ)) → asked_by words ≡ Some (format_asked store keys numbers trace)
      → Alone Memory ⊎ (((field : Field) × IsBadNumber numbers field × Alone (BadParams field)) ⊎ ((p : Params) × AreParams numbers p × NoneAlone))
  format_alone (inl (inl (asked, done))) store keys numbers trace asks = absurd (not_format words store keys numbers trace asked asks)
  format_alone (inl (inr (word, n, asked, count, done))) store keys numbers trace asks = absurd (drill_not_format words word store keys numbers trace asked asks)
  format_alone (inr (fault, refused, input, done)) store keys numbers trace asks = no_store_format before before after status input Kept kept words text fault refl done refused store keys numbers trace asks

  pub run_alone : WithoutStore words text before after status → (store keys : List ℕ) (lanes : Option (List ℕ)) (turns : Bool) (trace mirror : Option (List ℕ)) (limits : AskedShares) → asked_by words ≡ Some (run_asked store keys lanes turns trace mirror limits)
      → Alone Memory ⊎ ((AreBadLanes lanes × Alone (BadParams LANES)) ⊎ ((k : ℕ) × AreLanes lanes k × (shares : Shares) × AreShares limits shares × NoneAlone))
  run_alone (inl (inl (asked, done))) store keys lanes turns trace mirror limits asks = absurd (not_run words store keys lanes turns trace mirror limits asked asks)
  run_alone (inl (inr (word, n, asked, count, done))) store keys lanes turns trace mirror limits asks = absurd (drill_not_run words word store keys lanes turns trace mirror limits asked asks)
  run_alone (inr (fault, refused, input, done)) store keys lanes turns trace mirror limits asks = no_store_run before before after status input Kept kept words text fault refl done refused store keys lanes turns trace mirror limits asks
