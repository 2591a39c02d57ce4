use Rattle.std.proofs.Common.{arith}
use Rattle.ob_audit.specs.Reader.{known_behind}
use Rattle.ob_audit.proofs.Steps.{ends_whole, last_taken, last_refused}
use Rattle.ob_audit.proofs.reader.Reader.finish.Goals as goal

pub returns-then-self-eq0 : goal.returns-then-self-eq0
returns-then-self-eq0 c = λ limit bytes h few. ends_whole c.args.self.now limit bytes h c.if-self-eq0.true few

pub returns-in-Ok-Some : goal.returns-in-Ok-Some
returns-in-Ok-Some c = λ limit bytes h few.
    last_refused c.args.self.now limit bytes c.in-Ok-Some.audit h (omega (arith, c.if-self-eq0.false)) c.requires.within few (rw c.in-Ok-Some.field-0-is at (c.in-Ok-Some.ensures h.begun h.kept))

pub returns-in-Ok-None : goal.returns-in-Ok-None
returns-in-Ok-None c = λ limit bytes h few.
    last_taken c.args.self.now limit bytes (known_behind c.judge.new.known) h (omega (arith, c.if-self-eq0.false)) c.requires.within few (rw c.in-Ok-None.field-0-is at (c.in-Ok-None.ensures h.begun h.kept))
