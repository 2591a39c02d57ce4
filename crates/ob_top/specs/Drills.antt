-- What a self-test comes to, and what it does with the store that was handed in.
use Rattle.std.specs.Prelude.{ℕ, ◌≡◌, ◌⊎◌, List, [], ◌∷◌, Option, Some}
use Rattle.ob_base.specs.Causes.{Rose}
use Rattle.ob_base.specs.declared.fault.Fault.TheVariants.{Memory, SinkFault}
use Rattle.ob_io.specs.Flows.{appended}
use Rattle.ob_report.specs.Faults.{fault_status}
use Rattle.ob_report.specs.Printed.{IsPrinted}
use Rattle.ob_drill.specs.declared.map.MapDigest.{MapDigest}
use Rattle.ob_drill.specs.Rows.{digest_of, rows_below}
use Rattle.ob_outcomes.specs.Sums.{count_value}
use Rattle.ob_report.specs.declared.summary.Summary.{Summary}
use Rattle.ob_report.specs.Summaries.{summary_text}
use Rattle.ob_script.specs.Drill.{counter}
use Rattle.ob_words.specs.Reading.{asked_by, audit_asked, drill_asked}
use Rattle.ob_words.specs.Work.{IsCount}
use Rattle.ob_top.specs.Audits.{AuditDone}
use Rattle.ob_top.specs.Outside.{Outside, IsOnlyTold}

-- the parameters of its store, in the order N L Z S R BR BW E T
abbrev pub drill_numbers : List ℕ
drill_numbers = 256 ∷ 8 ∷ 4 ∷ 6 ∷ 4 ∷ 4 ∷ 8 ∷ 8 ∷ 256 ∷ []

-- A key's value behind so many transactions: how many of them add to it, in decimal; it isn't there where none does.
abbrev pub counted_value : ℕ → ℕ → Option (List ℕ)
counted_value n key = count_value (counter n key)

-- the digest of these
abbrev pub drill_digest : ℕ → MapDigest
drill_digest n = digest_of (rows_below (counted_value n) 256)

-- the summary of so many transactions, each of them committed, in an epoch of its own
abbrev pub drill_summary : ℕ → Summary
drill_summary n = record { count = n; epochs = n; committed = n; keys = (drill_digest n).keys; map = (drill_digest n).map }

abbrev pub drill_text : ℕ → List ℕ
drill_text n = summary_text (drill_summary n)

-- The summary is written; or a front of it, where the output failed. The input is untouched.
pub record IsSummaryTold (n : ℕ) (before after : Outside) (status : ℕ) : Type 0 where
  pub untouched : after.input ≡ before.input
  pub printed : IsPrinted before.output after.output (drill_text n)
  pub answered : ((status ≡ 0) × (after.output.bytes ≡ appended before.output.bytes (drill_text n)))
      ⊎ ((status ≡ fault_status SinkFault) × Rose before.output.faults after.output.faults)

-- or memory was wanting, which is told
abbrev pub DrillDone : ℕ → Outside → Outside → ℕ → Type 0
DrillDone n before after status = IsSummaryTold n before after status ⊎ IsOnlyTold Memory before after status

-- what the words ask for of no store that was handed in: an audit, or a self-test
abbrev pub ApartDoes : List (List ℕ) → Outside → Outside → ℕ → Type 0
ApartDoes words before after status = ((asked_by words ≡ Some audit_asked) × AuditDone before after status)
    ⊎ ((word : List ℕ) × (n : ℕ) × (asked_by words ≡ Some (drill_asked word)) × IsCount word n × DrillDone n before after status)
