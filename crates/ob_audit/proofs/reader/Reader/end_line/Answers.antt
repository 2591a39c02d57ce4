use Rattle.ob_audit.proofs.Steps.{line_taken, line_refused}
use Rattle.ob_audit.proofs.reader.Reader.end_line.Goals as goal

pub returns-in-Ok-Some-clause-read : goal.returns-in-Ok-Some-clause-read
returns-in-Ok-Some-clause-read c = λ bytes h. line_refused c.args.self.now c.args.limit bytes c.in-Ok-Some.audit h c.requires.seen (rw c.in-Ok-Some.field-0-is at (c.in-Ok-Some.ensures h.begun h.kept))

pub returns-in-Ok-None-clause-read : goal.returns-in-Ok-None-clause-read
returns-in-Ok-None-clause-read c = λ bytes h. line_taken c.args.self.now bytes c.judge.new.known h (rw c.in-Ok-None.field-0-is at (c.in-Ok-None.ensures h.begun h.kept))

pub returns-in-Err-clause-read : goal.returns-in-Err-clause-read
returns-in-Err-clause-read c = λ bytes h. tt
