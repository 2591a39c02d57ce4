use Rattle.std.proofs.Common.{◌+◌, ◌*◌}
use Rattle.ob_cells.proofs.sealing.+threads.Given as goal

abbrev pub decreases-seal_apart-here : goal.decreases-seal_apart-here
decreases-seal_apart-here g l = 3 * l.task.now.threads + 1

abbrev pub decreases-seal_apart : goal.decreases-seal_apart
decreases-seal_apart g l = 3 * l.task.now.threads + 2

abbrev pub decreases-seal_rows : goal.decreases-seal_rows
decreases-seal_rows g l = 3 * l.task.now.threads
