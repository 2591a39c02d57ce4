use Rattle.std.proofs.Common.{◌≡◌, ◌<◌, ◌≤◌, ◌^◌, ℕ, List, [], Option, None, ◌++◌, true, ◌∙◌, ap, subst, arith, rules, ◌+◌, length, replicate}
use Rattle.std.proofs.lemmas.List.{length-replicate}
use Rattle.ob_store.specs.Calls.{IsFailed, Holds}
use Rattle.ob_store.proofs.Serving.{on_ok, goes_then, serves_then, if_ok}
use Rattle.ob_store.proofs.Doing.{does_refused, does_then, first_more, first_behind}
use Rattle.ob_twin.specs.Orders.{through_notes, set_notes}
use Rattle.ob_seal.specs.declared.keys.Keys.{Keys}
use Rattle.ob_flat.specs.Rows.{row_cells}
use Rattle.ob_flat.proofs.RowCells.{blanks_short}
use Rattle.ob_start.specs.Orders.{lay_notes}
use Rattle.ob_start.proofs.Clearing.{no_head_left}
use Rattle.ob_flat.specs.Heads.{head_cell}
use Rattle.ob_flat.specs.Orders.{rows_notes, format_notes}
use Rattle.ob_flat.proofs.Moved.{rows_written}
use Rattle.ob_flat.proofs.Formats.{formatted, as_cleared, still_cleared, laid, head_written}
use Rattle.ob_flat.proofs.formatting.lay.Goals as goal

pub lay_registers-requires-clause-behind : goal.lay_registers-requires-clause-behind
lay_registers-requires-clause-behind g c = λ i lt. absurd (omega arith)

pub returns-in_err-lay_registers-clause-does : goal.returns-in_err-lay_registers-clause-does
returns-in_err-lay_registers-clause-does g c =
    let n = c.args.params.now.keys in
    does_refused _ _ _ _ (format_notes n) c.from_residual.result c.from_residual.ensures.0
    (first_more _ _ _ _ (lay_notes []) ((rows_notes 9 n ++ set_notes true 5 0) ++ through_notes 0) c.in_err-lay_registers.ensures.does.first)

pub returns-in_err-lay_rows-clause-does : goal.returns-in_err-lay_rows-clause-does
returns-in_err-lay_rows-clause-does g c =
    let n = c.args.params.now.keys in
    does_refused _ _ _ _ (format_notes n) c.from_residual-in_err-lay_rows.result c.from_residual-in_err-lay_rows.ensures.0
    (first_behind _ _ _ _ _ _ (lay_notes []) ((rows_notes 9 n ++ set_notes true 5 0) ++ through_notes 0) c.in_ok-lay_registers.ensures.does.all
    (first_more _ _ _ _ (rows_notes 9 n ++ set_notes true 5 0) (through_notes 0) c.in_err-lay_rows.ensures.does.first))

pub returns-clause-does : goal.returns-clause-does
returns-clause-does g c =
    let n = c.args.params.now.keys in
    does_then _ _ _ _ _ _ (lay_notes []) ((rows_notes 9 n ++ set_notes true 5 0) ++ through_notes 0) c.write_through.result c.in_ok-lay_registers.ensures.does.all
    (does_then _ _ _ _ _ _ (rows_notes 9 n ++ set_notes true 5 0) (through_notes 0) c.write_through.result c.in_ok-lay_rows.ensures.does.all c.write_through.ensures.does)

pub returns-clause-serves : goal.returns-clause-serves
returns-clause-serves g c =
    let a = c.in_ok-lay_registers.ensures.serves in
    let b = c.in_ok-lay_rows.ensures.serves in
    serves_then IsFailed (g.S.Store.disk c.args.store.now) (g.S.Store.disk c.lay_rows.new.store) (g.S.Store.disk c.write_through.new.store) c.write_through.result
    (goes_then _ _ _ a.goes b.goes) (let x = a.out in let y = b.out in omega arith) (λ t. b.tells (a.tells t)) c.write_through.ensures.serves

pub returns-clause-stands : goal.returns-clause-stands
returns-clause-stands g c = λ tells.
    let before = c.args.sealer.now in
    let n = c.args.params.now.keys in
    let a = c.in_ok-lay_registers.ensures in
    let b = c.in_ok-lay_rows.ensures in
    let one = a.serves.tells tells in
    let two = b.serves.tells one in
    let cells = (g.S.Store.disk c.lay_rows.new.store).cells in
    let small : before.generation < 2 ^ 62 = omega (arith, c.requires.generation) in
    let few : n ≤ 65536 = search rules in
    let room : before.next + length (replicate {A = Option (List ℕ)} n None) ≤ 2 ^ 62 = omega (arith, c.requires.none_sealed, few, length-replicate {A = Option (List ℕ)} n None) in
    let head : c.head_cell.result ≡ head_cell before.keys c.args.params.now = c.head_cell.ensures ∙ ap (λ (k : Keys). head_cell k c.args.params.now) b.same_keys in
    on_ok _ _ c.write_through.result
    (λ written. formatted before.keys c.args.params.now (g.S.Store.disk c.lay_registers.new.store).cells cells (g.S.Store.disk c.write_through.new.store).cells
    (a.generation tells) (b.low one) (b.epoch one) (rows_written before 9 cells (replicate n None) small room (blanks_short n) (b.rows one)) (c.write_through.ensures.rest two) (written ∙ head))
    (c.write_through.ensures.written two)

pub returns-clause-head : goal.returns-clause-head
returns-clause-head g c = λ tells.
    let two = c.in_ok-lay_rows.ensures.serves.tells (c.in_ok-lay_registers.ensures.serves.tells tells) in
    let head : c.head_cell.result ≡ head_cell c.args.sealer.now.keys c.args.params.now = c.head_cell.ensures ∙ ap (λ (k : Keys). head_cell k c.args.params.now) c.in_ok-lay_rows.ensures.same_keys in
    on_ok _ _ c.write_through.result (λ written. written ∙ head) (c.write_through.ensures.written two)

pub returns-clause-rows : goal.returns-clause-rows
returns-clause-rows g c = λ tells.
    let before = c.args.sealer.now in
    let n = c.args.params.now.keys in
    let one = c.in_ok-lay_registers.ensures.serves.tells tells in
    let b = c.in_ok-lay_rows.ensures in
    let here = subst (λ m. Holds 9 (row_cells before.keys 9 1 m (replicate n None)) (g.S.Store.disk c.lay_rows.new.store).cells) c.requires.none_sealed
    (subst (λ m. Holds 9 (row_cells before.keys 9 m before.next (replicate n None)) (g.S.Store.disk c.lay_rows.new.store).cells) c.requires.generation (b.rows one)) in
    if_ok _ c.write_through.result (λ i lt. c.write_through.ensures.rest (b.serves.tells one) (9 + i) (omega arith) ∙ here i lt)

pub returns-in_err-lay_registers-clause-crash : goal.returns-in_err-lay_registers-clause-crash
returns-in_err-lay_registers-clause-crash g c = λ tells.
    as_cleared c.args.sealer.now.keys c.args.params.now.keys (g.S.Store.disk c.args.store.now) (g.S.Store.disk c.lay_registers.new.store) (c.lay_registers.ensures.crash tells)

pub returns-in_err-lay_rows-clause-crash : goal.returns-in_err-lay_rows-clause-crash
returns-in_err-lay_rows-clause-crash g c = λ tells.
    let mid = g.S.Store.disk c.lay_registers.new.store in
    let new = g.S.Store.disk c.lay_rows.new.store in
    let a = c.in_ok-lay_registers.ensures in
    still_cleared c.args.sealer.now.keys c.args.params.now.keys (g.S.Store.disk c.args.store.now) mid new (c.lay_registers.ensures.crash tells)
    (no_head_left mid new (g.met.S.Store.only_now c.lay_registers.new.store) (a.blank tells) (a.durable tells) c.lay_rows.ensures.passes)

pub returns-clause-crash : goal.returns-clause-crash
returns-clause-crash g c = λ tells.
    let before = c.args.sealer.now in
    let keys = before.keys in
    let n = c.args.params.now.keys in
    let old = g.S.Store.disk c.args.store.now in
    let mid = g.S.Store.disk c.lay_registers.new.store in
    let rows = g.S.Store.disk c.lay_rows.new.store in
    let new = g.S.Store.disk c.write_through.new.store in
    let a = c.in_ok-lay_registers.ensures in
    let b = c.in_ok-lay_rows.ensures in
    let one = a.serves.tells tells in
    let here = subst (λ m. Holds 9 (row_cells keys 9 1 m (replicate n None)) rows.cells) c.requires.none_sealed
    (subst (λ m. Holds 9 (row_cells keys 9 m before.next (replicate n None)) rows.cells) c.requires.generation (b.rows one)) in
    head_written keys n old rows new
    (still_cleared keys n old mid rows (c.lay_registers.ensures.crash tells) (no_head_left mid rows (g.met.S.Store.only_now c.lay_registers.new.store) (a.blank tells) (a.durable tells) c.lay_rows.ensures.passes))
    (laid keys n old mid.cells rows.cells (a.generation tells) (b.low one) (b.epoch one) here)
    (c.write_through.ensures.any_moment (b.durable one))
