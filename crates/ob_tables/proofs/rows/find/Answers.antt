use Rattle.ob_tables.proofs.RowLaws.{found, missing}
use Rattle.ob_tables.proofs.rows.find.Goals as goal

pub returns-in-Ok : goal.returns-in-Ok
returns-in-Ok c = found c.args.k c.args.rows.now c.in-Ok.i c.index-rows-i.result c.in-Ok.ensures

pub returns-in-Err : goal.returns-in-Err
returns-in-Err c = missing c.args.k c.args.rows.now c.in-Err.field-0 c.in-Err.ensures
