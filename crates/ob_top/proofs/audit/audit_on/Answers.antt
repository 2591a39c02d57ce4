use Rattle.std.proofs.Common.{inl, inr}
use Rattle.ob_audit.specs.Verdict.{verdict_text}
use Rattle.ob_top.proofs.Finishing.{whole}
use Rattle.ob_top.proofs.Over.{front_printed, still_rose}
use Rattle.ob_top.proofs.audit.audit_on.Goals as goal

pub returns-in-Err : goal.returns-in-Err
returns-in-Err g c = inr (record { fault = c.in-Err.fault; cause = c.in-Err.ensures.cause; finished = c.finish.ensures })

pub returns-in-Ok-verdict_text : goal.returns-in-Ok-verdict_text
returns-in-Ok-verdict_text g c = inl (record {
  audit = c.in-Ok.audit;
  audited = c.in-Ok.ensures.audited;
  printed = whole _ _ (verdict_text c.in-Ok.audit) c.in-Ok-verdict_text.ensures.all;
  answered = inl (c.verdict_status.ensures, c.in-Ok-verdict_text.ensures.all);
})

pub returns-in-Err-verdict_text : goal.returns-in-Err-verdict_text
returns-in-Err-verdict_text g c = inl (record {
  audit = c.in-Ok.audit;
  audited = c.in-Ok.ensures.audited;
  printed = front_printed _ _ _ (verdict_text c.in-Ok.audit) c.in-Err-verdict_text.ensures.cause.failed c.finish-in-Err-verdict_text.ensures.line c.in-Err-verdict_text.ensures.front;
  answered = inr (c.finish-in-Err-verdict_text.ensures.status_is, still_rose _ _ _ c.in-Err-verdict_text.ensures.cause.failed c.finish-in-Err-verdict_text.ensures.line);
})
