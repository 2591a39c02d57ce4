use Rattle.ob_report.proofs.report.put_outcome.Goals as goal

pub returns-in-Committed : goal.returns-in-Committed
returns-in-Committed g c = rw c.in-Committed.is c.put_bytes.ensures

pub returns-in-Aborted : goal.returns-in-Aborted
returns-in-Aborted g c = rw c.in-Aborted.is c.put_why.ensures

pub returns-in-Unsure : goal.returns-in-Unsure
returns-in-Unsure g c = rw c.in-Unsure.is c.put_bytes-in-Unsure.ensures
