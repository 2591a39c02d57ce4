use Rattle.ob_audit.proofs.Written.{are_the_writers}
use Rattle.ob_audit.proofs.spelling.lines_are_the_writers.Goals as goal

pub returns : goal.returns
returns c = are_the_writers
