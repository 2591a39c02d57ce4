use Rattle.ob_top.proofs.Writing.{written_lines, written_runs}
use Rattle.ob_top.proofs.traces.traces_are_printed.Goals as goal

pub returns-clause-one : goal.returns-clause-one
returns-clause-one c = written_lines

pub returns-clause-two : goal.returns-clause-two
returns-clause-two c = written_runs
