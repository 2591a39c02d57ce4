use Rattle.ob_schedule.proofs.Split.{rest_reads, rest_writes}
use Rattle.ob_schedule.proofs.run.Run.rest.Goals as goal

pub returns-in-Reads : goal.returns-in-Reads
returns-in-Reads c = rw c.in-Reads.is (rest_reads c.in-Reads.first c.in-Reads.last c.if-first-last.true)

pub returns-in-Writes : goal.returns-in-Writes
returns-in-Writes c = rw c.in-Writes.is (rest_writes c.in-Writes.first c.in-Writes.last c.if-first-last-2.true)
