use Rattle.std.proofs.Common.{◌+◌, [], ◌∷◌, ◌++◌, true, inr, ◌∙◌, arith}
use Rattle.ob_store.specs.declared.watch.Note.TheVariants.{Sync}
use Rattle.ob_store.specs.Runs.{write_notes}
use Rattle.ob_store.proofs.Serving.{if_ok}
use Rattle.ob_store.proofs.Moments.{passed_still}
use Rattle.ob_store.proofs.Doing.{tells_then, does_refused, does_then, first_more, first_behind, sync_cut}
use Rattle.ob_twin.specs.Orders.{set_notes}
use Rattle.ob_start.specs.Laying.{SameHead}
use Rattle.ob_start.proofs.Clearing.{head_then, outside_head}
use Rattle.ob_flat.specs.Orders.{rows_notes}
use Rattle.ob_flat.proofs.Formats.{off_head}
use Rattle.ob_flat.proofs.formatting.lay_rows.Goals as goal

pub returns-clause-rows : goal.returns-clause-rows
returns-clause-rows g c = λ tells.
    let a = c.in_ok-write_blanks.ensures in
    let told = a.rows.serves.tells tells in
    let keeps = c.sync_noted.ensures.keeps in
    if_ok _ c.set_first.result (λ i lt. c.set_first.ensures.rest (keeps.tells told) (9 + i) (inr (omega arith)) ∙ keeps.cells told (9 + i) ∙ a.rows.written tells i lt)

pub returns-in_err-write_blanks-clause-passes : goal.returns-in_err-write_blanks-clause-passes
returns-in_err-write_blanks-clause-passes g c =
    off_head 9 _ (g.S.Store.disk c.args.store.now) (g.S.Store.disk c.write_blanks.new.store) (omega arith) c.write_blanks.ensures.rows.within.passes

pub returns-in_err-sync_noted-clause-passes : goal.returns-in_err-sync_noted-clause-passes
returns-in_err-sync_noted-clause-passes g c =
    let old = g.S.Store.disk c.args.store.now in
    let mid = g.S.Store.disk c.write_blanks.new.store in
    passed_still SameHead old mid (g.S.Store.disk c.sync_noted.new.store) (off_head 9 _ old mid (omega arith) c.write_blanks.ensures.rows.within.passes)
    c.sync_noted.ensures.serves.goes c.sync_noted.ensures.time c.sync_noted.ensures.crash c.sync_noted.ensures.keeps

pub returns-clause-passes : goal.returns-clause-passes
returns-clause-passes g c =
    let old = g.S.Store.disk c.args.store.now in
    let mid = g.S.Store.disk c.write_blanks.new.store in
    let sure = g.S.Store.disk c.sync_noted.new.store in
    let new = g.S.Store.disk c.set_first.new.store in
    head_then old sure new
    (passed_still SameHead old mid sure (off_head 9 _ old mid (omega arith) c.write_blanks.ensures.rows.within.passes) c.sync_noted.ensures.serves.goes c.sync_noted.ensures.time c.sync_noted.ensures.crash c.sync_noted.ensures.keeps)
    (outside_head 5 sure new (omega arith) c.set_first.ensures.passes)

pub returns-in_err-write_blanks-clause-does : goal.returns-in_err-write_blanks-clause-does
returns-in_err-write_blanks-clause-does g c =
    does_refused _ _ _ _ (rows_notes 9 c.args.keys ++ set_notes true 5 0) c.from_residual.result c.from_residual.ensures.0
    (first_more _ _ _ _ (rows_notes 9 c.args.keys) (set_notes true 5 0) (first_more _ _ _ _ (write_notes 9 c.args.keys) (Sync ∷ []) c.in_err-write_blanks.ensures.does.first))

pub returns-in_err-sync_noted-clause-does : goal.returns-in_err-sync_noted-clause-does
returns-in_err-sync_noted-clause-does g c =
    does_refused _ _ _ _ (rows_notes 9 c.args.keys ++ set_notes true 5 0) c.from_residual-in_err-sync_noted.result c.from_residual-in_err-sync_noted.ensures.0
    (first_more _ _ _ _ (rows_notes 9 c.args.keys) (set_notes true 5 0)
    (first_behind _ _ _ _ _ _ (write_notes 9 c.args.keys) (Sync ∷ []) c.in_ok-write_blanks.ensures.does.all (sync_cut [] _ _ _ _ c.in_err-sync_noted.ensures.told)))

pub returns-clause-does : goal.returns-clause-does
returns-clause-does g c =
    does_then _ _ _ _ _ _ (rows_notes 9 c.args.keys) (set_notes true 5 0) c.set_first.result
    (tells_then (write_notes 9 c.args.keys) (write_notes 9 c.args.keys) (Sync ∷ []) (Sync ∷ []) _ _ _ _ _ _ c.in_ok-write_blanks.ensures.does.all c.in_ok-sync_noted.ensures.told)
    c.set_first.ensures.does
