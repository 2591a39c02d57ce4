use Rattle.std.proofs.Common.{◌++◌, ℕ, List, Option, sym, subst, arith}
use Rattle.ob_io.proofs.Pieces.{prepended-of}
use Rattle.ob_audit.specs.Traces.{IsAudited}
use Rattle.ob_audit.proofs.reading.audit_up_to.Goals as goal

pub loop-audit-preserved : goal.loop-audit-preserved
loop-audit-preserved g c =
    let e = c.in-Ok-None.field-0-is in
    let (bytes, left, read) = c.loop-audit.invariant.read in
    let told = rw e at (c.in-Ok-None.ensures.read bytes read) in
    record {
      within = c.in-Ok-None.ensures.within e;
      few = c.in-Ok-None.ensures.few e;
      seen = c.in-Ok-None.ensures.seen e;
      later = omega (arith, c.loop-audit.invariant.later, c.in-Ok-None.ensures.later);
      read = (bytes ++ told.0, prepended-of _ _ _ bytes told.0 left told.1, told.2);
    }

pub returns-in-Ok-Some-clause-audited : goal.returns-in-Ok-Some-clause-audited
returns-in-Ok-Some-clause-audited g c =
    let (bytes, left, read) = c.loop-audit.invariant.read in
    subst (λ (o : Option (List ℕ)). IsAudited o c.args.limit c.in-Ok-Some.audit) (sym left) (rw c.in-Ok-Some.field-0-is at (c.in-Ok-Some.ensures.read bytes read))

pub returns-in-Ok-Some-clause-front : goal.returns-in-Ok-Some-clause-front
returns-in-Ok-Some-clause-front g c =
    let (bytes, left, read) = c.loop-audit.invariant.read in
    let front = c.in-Ok-Some.ensures.front in
    (bytes ++ front.0, prepended-of _ _ _ bytes front.0 left front.1)

pub returns-in-Err-clause-front : goal.returns-in-Err-clause-front
returns-in-Err-clause-front g c =
    let (bytes, left, read) = c.loop-audit.invariant.read in
    let front = c.in-Err.ensures.front in
    (bytes ++ front.0, prepended-of _ _ _ bytes front.0 left front.1)
