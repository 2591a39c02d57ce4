use Rattle.std.proofs.Common.{◌≡◌, ◌<◌, IsOk, length, sym, ap, vec_capacity, arith}
use Rattle.std.proofs.lemmas.Grind.{common_steps}
use Rattle.ob_tables.proofs.RowLaws.{missing, set_is, insert_is}
use Rattle.ob_tables.proofs.rows.put.Goals as goal

pub returns-in-Ok-clause-rows : goal.returns-in-Ok-clause-rows
returns-in-Ok-clause-rows c = set_is c.args.k c.args.v c.args.rows.now.items c.in-Ok.i (rw c.as_slice.ensures.value at c.in-Ok.ensures)

pub returns-in-Err-clause-rows : goal.returns-in-Err-clause-rows
returns-in-Err-clause-rows c =
    let room : length c.args.rows.now.items < vec_capacity c.args.rows.now = c.requires.room (sym (missing c.args.k c.args.rows.now.items c.in-Err.i (rw c.as_slice.ensures.value at c.in-Err.ensures))) in
    let long : length c.as_slice.result.now ≡ length c.args.rows.now.items = ap length c.as_slice.ensures.value in
    let done : IsOk c.insert.result = c.insert.ensures.succeeds (omega (arith, c.as_slice.ensures.len)) in
    grind (arith, common_steps, insert_is c.args.k c.args.v c.args.rows.now.items c.in-Err.i (rw c.as_slice.ensures.value at c.in-Err.ensures))
