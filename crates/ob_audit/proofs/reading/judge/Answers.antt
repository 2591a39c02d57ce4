use Rattle.std.proofs.Common.{refl}
use Rattle.ob_audit.proofs.Judging.{line_behind}
use Rattle.ob_audit.proofs.reading.judge.Goals as goal

pub returns-in-Ok-None : goal.returns-in-Ok-None
returns-in-Ok-None c = λ text is. (_, line_behind text c.args.kept.now _ is c.line_of-found.ensures, rw c.in-Ok-None.field-0-is at c.in-Ok-None.ensures)

pub returns-in-Ok-Some : goal.returns-in-Ok-Some
returns-in-Ok-Some c = λ text is. (_, (_, refl, line_behind text c.args.kept.now _ is c.line_of-found.ensures, rw c.in-Ok-Some.field-0-is at c.in-Ok-Some.ensures))
