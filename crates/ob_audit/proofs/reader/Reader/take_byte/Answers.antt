use Rattle.ob_audit.proofs.Steps.{limit_passed}
use Rattle.ob_audit.proofs.reader.Reader.take_byte.Goals as goal

pub returns-then-self-limit-clause-read : goal.returns-then-self-limit-clause-read
returns-then-self-limit-clause-read c = λ bytes h. limit_passed c.args.self.now c.args.limit bytes c.args.byte h c.if-self-limit.true

pub returns-then-byte-eq10-clause-read : goal.returns-then-byte-eq10-clause-read
returns-then-byte-eq10-clause-read c = λ bytes h. rw c.if-byte-eq10.true (c.end_line.ensures.read bytes h)

pub returns-clause-read : goal.returns-clause-read
returns-clause-read c = λ bytes h. c.push.ensures.read bytes h
