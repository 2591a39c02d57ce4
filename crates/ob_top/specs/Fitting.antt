-- What an audit answers to the traces of a row of runs, one behind the other.
use Rattle.std.specs.Prelude.{◌≡◌, ◌≤◌, ◌⊎◌, ◌^◌, ℕ, false, List, [], ◌∷◌, ◌++◌, codes, length, Option, Some}
use Rattle.std.specs.List.{flat_map}
use Rattle.ob_audit.specs.Traces.{FitsWhole}
use Rattle.ob_base.specs.Causes.{Rose}
use Rattle.ob_base.specs.declared.fault.Fault.TheVariants.{SinkFault}
use Rattle.ob_base.specs.declared.params.Params.{Params}
use Rattle.ob_io.specs.Flows.{appended}
use Rattle.ob_io.specs.Streams.{Flow}
use Rattle.ob_recover.specs.Life.{WordId}
use Rattle.ob_report.specs.Faults.{fault_status}
use Rattle.ob_seal.specs.declared.keys.Keys.{Keys}
use Rattle.ob_store.specs.Disk.{Disk}
use Rattle.ob_store.specs.Lines.{Trace, open_line, start_line}
use Rattle.ob_vault.specs.RingKind.{ring_kind}
use Rattle.ob_vault.specs.RingLives.{ring_lives}
use Rattle.ob_top.specs.Audited.{ring_audits}
use Rattle.ob_top.specs.Audits.{AuditDone, IsAuditRefused}
use Rattle.ob_top.specs.Formats.{IsFormatted, ShowsFormat}
use Rattle.ob_top.specs.Outside.{Given, HasTrace, Outside}
use Rattle.ob_top.specs.Refusals.{AreGatesSure, AreRunsOrRefusals}
use Rattle.ob_top.specs.Rows.{AreRowRuns, AreTapesOf, TracedRun}

-- The sink of a trace, as it was handed in and as it is left.
pub record TraceSink (W : Type 0) : Type 0 where
  pub was : Option W
  pub is : Option W

module _ {W : Type 0} (flow : W → Flow) where
  -- A watch over it wrote this first line, told this behind that and that at the end, and never broke.
  pub record IsTraceWhole (first : List ℕ) (sink : TraceSink W) (t u : Trace) : Type 0 where
    pub has : HasTrace flow first sink.was sink.is t u
    pub begun : t.broken ≡ false
    pub unbroken : u.broken ≡ false

  -- so did one of each run
  abbrev pub AreTracesWhole : {S : Type 0} → List (TracedRun S) → List (TraceSink W) → Type 0
  AreTracesWhole [] [] = Unit {0}
  AreTracesWhole (r ∷ runs) (sink ∷ sinks) = IsTraceWhole (open_line false) sink r.first r.last × AreTracesWhole runs sinks
  AreTracesWhole _ _ = ⊥

  -- this text stands behind what the sink had
  pub record WasWritten (sink : TraceSink W) (text : List ℕ) : Type 0 where
    pub before : W
    pub after : W
    pub was_is : sink.was ≡ Some before
    pub is_is : sink.is ≡ Some after
    pub bytes : (flow after).bytes ≡ appended (flow before).bytes text

  -- and these texts in these
  abbrev pub WereWritten : List (TraceSink W) → List (List ℕ) → Type 0
  WereWritten [] [] = Unit {0}
  WereWritten (sink ∷ sinks) (text ∷ texts) = WasWritten sink text × WereWritten sinks texts
  WereWritten _ _ = ⊥

-- `fits` is answered, or the output failed.
abbrev pub AnswersFits : (before after : Outside) (status : ℕ) → Type 0
AnswersFits before after status = ((status ≡ 0) × (after.output.bytes ≡ appended before.output.bytes (codes "fits\n"))) ⊎ ((status ≡ fault_status SinkFault) × Rose before.output.faults after.output.faults)

-- The whole of it fits, from nothing known on; so `audit` answers that wherever it comes in, unless the input failed or memory was wanting.
pub record IsFitting (bytes : List ℕ) : Type 0 where
  pub fits : FitsWhole (2 ^ 32) bytes
  pub answered : (before after : Outside) (status : ℕ) → before.input.bytes ≡ Some bytes → AuditDone before after status → AnswersFits before after status ⊎ IsAuditRefused before after status

-- Where the watches of a format and of these runs behind it wrote traces and never broke, each sink has a text behind what it had, and the format's text
-- and theirs, one behind the other, fit, if they have at most 2^32 bytes.
abbrev pub AreTracesFit : {S W : Type 0} → (W → Flow) → Params → List (TracedRun S) → Type 0
AreTracesFit {S} {W} flow p runs = (sink : TraceSink W) (t u : Trace) → ShowsFormat ring_kind p t u false → IsTraceWhole flow (start_line p) sink t u → (sinks : List (TraceSink W)) → AreTracesWhole flow runs sinks
    → (text : List ℕ) × WasWritten flow sink text × (texts : List (List ℕ)) × WereWritten flow sinks texts × (length (text ++ flat_map (λ more. more) texts) ≤ 2 ^ 32 → IsFitting (text ++ flat_map (λ more. more) texts))

-- So it is of a row of runs over a store that a format made;
abbrev pub TracesFit : {S W : Type 0} → (S → Disk) → (W → Flow) → Type 0
TracesFit {S} {W} disk flow = (keys : Keys) (p : Params) (made_by : Given) (blank made : S) (runs : List (TracedRun S)) → IsFormatted ring_kind ring_lives ring_audits disk made_by keys p blank made → (disk blank).tells → AreRowRuns disk keys p (disk made).may_leave runs
    → (word_of : WordId → ℕ) → AreTapesOf word_of runs → AreTracesFit flow p runs

-- and of one in which runs were refused, but for the case that an audit leaves out.
abbrev pub RefusedTracesFit : {S W : Type 0} → (S → Disk) → (W → Flow) → Type 0
RefusedTracesFit {S} {W} disk flow = (keys : Keys) (p : Params) (made_by : Given) (blank made : S) (runs : List (TracedRun S)) → IsFormatted ring_kind ring_lives ring_audits disk made_by keys p blank made → (disk blank).tells
    → (are : AreRunsOrRefusals disk keys p (disk made).may_leave runs) → AreGatesSure disk keys p (disk made).may_leave runs are
    → (word_of : WordId → ℕ) → AreTapesOf word_of runs → AreTracesFit flow p runs
