use Rattle.std.proofs.Common.{append_assoc}
use Rattle.ob_report.proofs.fault.put_store.Goals as goal

pub returns-in-None : goal.returns-in-None
returns-in-None g c = rw c.in-None.is c.put_bytes.ensures

pub returns-in-Some : goal.returns-in-Some
returns-in-Some g c = rw c.in-Some.is (simp append_assoc c.put_number.ensures)
