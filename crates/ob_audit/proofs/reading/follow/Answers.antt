use Rattle.std.proofs.Common.{sym, ◌∙◌}
use Rattle.std.proofs.lemmas.Result.{IfOk-weaker}
use Rattle.ob_audit.proofs.Judging.{next_told, first_told, first_refused}
use Rattle.ob_audit.proofs.reading.follow.Goals as goal

pub returns-in-Some : goal.returns-in-Some
returns-in-Some c =
    IfOk-weaker c.next-answer.result _ _ (λ answer told. next_told c.args.known.now c.in-Some.present _ c.next-answer.new.self c.args.line.now answer (sym c.take.ensures.value ∙ c.in-Some.is) c.deref_mut.ensures.value told) c.next-answer.ensures

pub returns-in-Ok-Some : goal.returns-in-Ok-Some
returns-in-Ok-Some c =
    first_told c.args.known.now c.in-Ok-Some.begun c.args.line.now (sym c.take.ensures.value ∙ c.in-None.is) (rw c.in-Ok-Some.field-0-is at c.in-Ok-Some.ensures)

pub returns-in-Ok-None : goal.returns-in-Ok-None
returns-in-Ok-None c = first_refused c.args.known.now c.args.line.now (sym c.take.ensures.value ∙ c.in-None.is) (rw c.in-Ok-None.field-0-is at c.in-Ok-None.ensures)
