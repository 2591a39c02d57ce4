-- What `audit` does.
use Rattle.std.specs.Prelude.{ℕ, ◌≡◌, ◌⊎◌, ◌^◌, Some}
use Rattle.ob_base.specs.declared.fault.Fault.{Fault}
use Rattle.ob_base.specs.declared.fault.Fault.TheVariants.{SinkFault}
use Rattle.ob_base.specs.Causes.{Rose}
use Rattle.ob_io.specs.Flows.{appended}
use Rattle.ob_report.specs.Printed.{IsPrinted}
use Rattle.ob_report.specs.Faults.{fault_status}
use Rattle.ob_audit.specs.declared.verdict.Audit.{Audit}
use Rattle.ob_audit.specs.declared.verdict.Audit.TheVariants.{Fits, Breaks}
use Rattle.ob_audit.specs.Traces.{IsAudited, IsAuditFault}
use Rattle.ob_audit.specs.Verdict.{verdict_text}
use Rattle.ob_top.specs.Outside.{Outside, IsFinished}

abbrev pub verdict_status : Audit → ℕ
verdict_status Fits = 0
verdict_status (Breaks line wanted found) = 1

-- The trace that came in, up to `2^32` bytes, is answered so, and the answer's line is written; or a front of it, where the output failed.
pub record IsAuditTold (before after : Outside) (status : ℕ) : Type 0 where
  pub audit : Audit
  pub audited : IsAudited before.input.bytes (2 ^ 32) audit
  pub printed : IsPrinted before.output after.output (verdict_text audit)
  pub answered : ((status ≡ verdict_status audit) × (after.output.bytes ≡ appended before.output.bytes (verdict_text audit)))
      ⊎ ((status ≡ fault_status SinkFault) × Rose before.output.faults after.output.faults)

-- The input failed, or memory was wanting.
pub record IsAuditRefused (before after : Outside) (status : ℕ) : Type 0 where
  pub fault : Fault
  pub cause : IsAuditFault before.input.faults after.input.faults fault
  pub finished : IsFinished before.output after.output (Some fault) status

abbrev pub AuditDone : Outside → Outside → ℕ → Type 0
AuditDone before after status = IsAuditTold before after status ⊎ IsAuditRefused before after status
