-- The traces of a row of runs are the texts of its lines.
use Rattle.std.proofs.Common.{◌≡◌, ◌∙◌, ◌≤◌, ◌⊎◌, ◌+◌, ◌^◌, ℕ, false, List, [], ◌∷◌, ◌++◌, length, map, Option, Some, ap, arith, inl, inr, refl, subst, sym}
use Rattle.std.specs.List.{flat_map}
use Rattle.std.proofs.lemmas.List.{take_all}
use Rattle.std.proofs.lemmas.List.Concat.{flat_map-append}
use Rattle.ob_audit.specs.Traces.{FitsWhole, IsVerdict}
use Rattle.ob_audit.specs.Verdict.{verdict_text}
use Rattle.ob_audit.specs.declared.verdict.Audit.{Audit}
use Rattle.ob_audit.specs.declared.verdict.Audit.TheVariants.{Fits}
use Rattle.ob_base.specs.Causes.{Rose}
use Rattle.ob_base.specs.declared.fault.Fault.TheVariants.{SinkFault}
use Rattle.ob_base.specs.declared.params.Params.{Params}
use Rattle.ob_io.specs.Flows.{IsInput, appended}
use Rattle.ob_io.specs.Streams.{Flow}
use Rattle.ob_report.specs.Faults.{fault_status}
use Rattle.ob_schedule.specs.Schedule.{format_notes}
use Rattle.ob_schedule.specs.declared.line.Line.{Line}
use Rattle.ob_schedule.specs.declared.line.Line.TheVariants as L
use Rattle.ob_store.specs.Disk.{Disk}
use Rattle.ob_store.specs.Lines.{Shows, Trace, line_of, lines_of, open_line, start_line}
use Rattle.ob_store.specs.declared.watch.Note.{Note}
use Rattle.ob_histories.proofs.Written.{lines_are}
use Rattle.ob_histories.specs.Histories.{lines_of_notes}
use Rattle.ob_histories.specs.Laws.{AreAdmitted}
use Rattle.ob_histories.specs.Texts.{with_feed}
use Rattle.ob_admitted.specs.Rows.{lines_of_runs}
use Rattle.ob_top.proofs.Refusing.{refused_runs_fit}
use Rattle.ob_top.proofs.Rowing.{rows_fit}
use Rattle.ob_top.proofs.Writing.{written_lines}
use Rattle.ob_top.specs.Audits.{AuditDone, IsAuditRefused, IsAuditTold, verdict_status}
use Rattle.ob_top.specs.Fitting.{AnswersFits, AreTracesFit, AreTracesWhole, IsFitting, IsTraceWhole, RefusedTracesFit, TraceSink, TracesFit, WasWritten, WereWritten}
use Rattle.ob_top.specs.Outside.{Outside}
use Rattle.ob_top.specs.Rows.{AreRowsTold, TracedRun}

-- ---- texts of lines

abbrev run_text : List Note → List ℕ
run_text notes = open_line false ++ lines_of notes

pub notes_text : (notes : List Note) → flat_map with_feed (lines_of_notes notes) ≡ lines_of notes
notes_text [] = refl
notes_text (note ∷ notes) = ap (λ (text : List ℕ). line_of note ++ text) (notes_text notes)

rows_text : (rows : List (List Note)) → flat_map with_feed (flat_map (λ notes. L.Open false ∷ lines_of_notes notes) rows) ≡ flat_map (λ text. text) (map run_text rows)
rows_text [] = refl
rows_text (notes ∷ rows) =
    flat_map-append with_feed (L.Open false ∷ lines_of_notes notes) (flat_map (λ notes. L.Open false ∷ lines_of_notes notes) rows)
    ∙ (λ i. (open_line false ++ notes_text notes i) ++ rows_text rows i)

lines_text : (p : Params) (rows : List (List Note)) → flat_map with_feed (lines_of_runs p rows) ≡ (start_line p ++ lines_of (format_notes p)) ++ flat_map (λ text. text) (map run_text rows)
lines_text p rows =
    flat_map-append with_feed (L.Start p ∷ lines_of_notes (format_notes p)) (flat_map (λ notes. L.Open false ∷ lines_of_notes notes) rows)
    ∙ (λ i. (start_line p ++ notes_text (format_notes p) i) ++ rows_text rows i)

-- ---- what the sinks have

module _ {W : Type 0} (flow : W → Flow) where
  was_written : (first : List ℕ) (sink : TraceSink W) (t u : Trace) (notes : List Note) → IsTraceWhole flow first sink t u → Shows notes t u → WasWritten flow sink (first ++ lines_of notes)
  was_written first sink t u notes whole shows =
      let has = whole.has in
      record {
        before = has.before;
        after = has.after;
        was_is = has.was_is;
        is_is = has.is_is;
        bytes = (written_lines first notes (flow has.before) (flow has.after) has.start t u has.tells has.whole has.line whole.begun shows has.told).all whole.unbroken;
      }

  were_written : {S : Type 0} (runs : List (TracedRun S)) (sinks : List (TraceSink W)) (rows : List (List Note)) → AreTracesWhole flow runs sinks → AreRowsTold runs rows → WereWritten flow sinks (map run_text rows)
  were_written [] [] [] are told = tt
  were_written (r ∷ runs) (sink ∷ sinks) (notes ∷ rows) (one, later) (shown, more) = (was_written (open_line false) sink r.first r.last notes one shown, were_written runs sinks rows later more)
  were_written [] [] (notes ∷ rows) are told = absurd told
  were_written [] (sink ∷ sinks) rows are told = absurd are
  were_written (r ∷ runs) [] rows are told = absurd are
  were_written (r ∷ runs) (sink ∷ sinks) [] are told = absurd told

-- ---- what an audit answers to it

abbrev IsAnswered : (before after : Outside) (status : ℕ) → Audit → Type 0
IsAnswered before after status audit =
    ((status ≡ verdict_status audit) × (after.output.bytes ≡ appended before.output.bytes (verdict_text audit))) ⊎ ((status ≡ fault_status SinkFault) × Rose before.output.faults after.output.faults)

told_fits : (bytes : List ℕ) (before after : Outside) (status : ℕ) → FitsWhole (2 ^ 32) bytes → before.input.bytes ≡ Some bytes → IsAuditTold before after status → AnswersFits before after status
told_fits bytes before after status fits came told =
    let (input, is, verdict) = told.audited in
    let taken : IsInput (Some bytes) (2 ^ 32) input = subst (λ (left : Option (List ℕ)). IsInput left (2 ^ 32) input) came is in
    let few : length bytes ≤ 2 ^ 32 + 1 = omega (arith, fits.within) in
    let same : input ≡ bytes = taken ∙ take_all (2 ^ 32 + 1) bytes few in
    let alone : told.audit ≡ Fits = lines_are.alone (2 ^ 32) bytes told.audit fits (subst (λ (all : List ℕ). IsVerdict (2 ^ 32) all told.audit) same verdict) in
    subst (IsAnswered before after status) alone told.answered

done_fits : (bytes : List ℕ) (before after : Outside) (status : ℕ) → FitsWhole (2 ^ 32) bytes → before.input.bytes ≡ Some bytes → AuditDone before after status → AnswersFits before after status ⊎ IsAuditRefused before after status
done_fits bytes before after status fits came (inl told) = inl (told_fits bytes before after status fits came told)
done_fits bytes before after status fits came (inr refused) = inr refused

fitting : (lines : List Line) (bytes : List ℕ) → AreAdmitted lines → flat_map with_feed lines ≡ bytes → length bytes ≤ 2 ^ 32 → IsFitting bytes
fitting lines bytes admitted same few =
    let fits : FitsWhole (2 ^ 32) bytes = subst (FitsWhole (2 ^ 32)) same (lines_are.fits lines admitted (subst (λ (text : List ℕ). length text ≤ 2 ^ 32) (sym same) few)) in
    record { fits = fits; answered = λ before after status came done. done_fits bytes before after status fits came done }

-- ---- the laws

rows_fitting : {S W : Type 0} (flow : W → Flow) (p : Params) (runs : List (TracedRun S)) (rows : List (List Note)) → AreRowsTold runs rows → AreAdmitted (lines_of_runs p rows) → AreTracesFit flow p runs
rows_fitting flow p runs rows told admitted sink t u shown whole sinks wholes = (
  start_line p ++ lines_of (format_notes p),
  was_written flow (start_line p) sink t u (format_notes p) whole shown.0,
  map run_text rows,
  were_written flow runs sinks rows wholes told,
  λ few. fitting (lines_of_runs p rows) ((start_line p ++ lines_of (format_notes p)) ++ flat_map (λ text. text) (map run_text rows)) admitted (lines_text p rows) few,
)

pub traces_fit : {S W : Type 0} (disk : S → Disk) (flow : W → Flow) → TracesFit disk flow
traces_fit disk flow keys p made_by blank made runs formatted tells are word_of tapes =
    let (rows, told, history, admitted) = rows_fit disk keys p made_by blank made runs formatted tells are word_of tapes in
    rows_fitting flow p runs rows told admitted

pub refused_traces_fit : {S W : Type 0} (disk : S → Disk) (flow : W → Flow) → RefusedTracesFit disk flow
refused_traces_fit disk flow keys p made_by blank made runs formatted tells are sure word_of tapes =
    let (rows, told, history, admitted) = refused_runs_fit disk keys p made_by blank made runs formatted tells are sure word_of tapes in
    rows_fitting flow p runs rows told admitted
