use Rattle.ob_cells.proofs.RunReads as runs
use Rattle.ob_cells.proofs.run.reads_back.Goals as goal

pub returns : goal.returns
returns c = runs.reads_back
