use Rattle.std.proofs.Common.{arith}
use Rattle.ob_audit.proofs.Steps.{pushed, passed_over}
use Rattle.ob_audit.proofs.reader.Reader.push.Goals as goal

pub returns-then-self-lt-KEPT-clause-read : goal.returns-then-self-lt-KEPT-clause-read
returns-then-self-lt-KEPT-clause-read c = λ bytes h. pushed c.args.self.now bytes c.args.byte c.requires.other c.if-self-lt-KEPT.true h

pub returns-else-self-lt-KEPT-clause-read : goal.returns-else-self-lt-KEPT-clause-read
returns-else-self-lt-KEPT-clause-read c = λ bytes h. passed_over c.args.self.now bytes c.args.byte c.requires.other (omega (arith, c.if-self-lt-KEPT.false, c.requires.within)) h
