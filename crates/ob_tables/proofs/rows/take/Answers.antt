use Rattle.std.proofs.Common.{◌∙◌}
use Rattle.ob_tables.proofs.RowLaws.{found, missing, remove_is, stays}
use Rattle.ob_tables.proofs.rows.take.Goals as goal

pub returns-in-Ok-clause-value : goal.returns-in-Ok-clause-value
returns-in-Ok-clause-value c = rw c.remove.ensures.value (found c.args.k c.args.rows.now.items c.in-Ok.i c.remove.result (rw c.as_slice.ensures.value at c.in-Ok.ensures))

pub returns-in-Ok-clause-rows : goal.returns-in-Ok-clause-rows
returns-in-Ok-clause-rows c = c.remove.ensures.items ∙ remove_is c.args.k c.args.rows.now.items c.in-Ok.i c.requires (rw c.as_slice.ensures.value at c.in-Ok.ensures)

pub returns-in-Err-clause-value : goal.returns-in-Err-clause-value
returns-in-Err-clause-value c = missing c.args.k c.args.rows.now.items c.in-Err.field-0 (rw c.as_slice.ensures.value at c.in-Err.ensures)

pub returns-in-Err-clause-rows : goal.returns-in-Err-clause-rows
returns-in-Err-clause-rows c = stays c.args.k c.args.rows.now.items c.in-Err.field-0 (rw c.as_slice.ensures.value at c.in-Err.ensures)
