use Rattle.ob_report.proofs.report.put_op.Goals as goal

pub returns-in-Get : goal.returns-in-Get
returns-in-Get g c = rw c.in-Get.is c.put_get.ensures

pub returns-in-Put : goal.returns-in-Put
returns-in-Put g c = rw c.in-Put.is c.put_value.ensures

pub returns-in-Del : goal.returns-in-Del
returns-in-Del g c = rw c.in-Del.is (rw c.from.ensures at c.put_number.ensures)
