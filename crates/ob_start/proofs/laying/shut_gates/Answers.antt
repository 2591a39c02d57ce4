use Rattle.std.proofs.Common.{[], ◌∷◌, ◌++◌, get_or, ◌∙◌, arith}
use Rattle.ob_store.specs.declared.watch.Note.TheVariants.{Sync}
use Rattle.ob_store.specs.Calls.{IsFailed}
use Rattle.ob_store.proofs.Serving.{if_ok, goes_then, serves_then}
use Rattle.ob_store.proofs.Moments.{passed_still}
use Rattle.ob_store.proofs.Doing.{does_refused, does_then, does_sync, first_more, first_behind}
use Rattle.ob_start.specs.Laying.{SameHead}
use Rattle.ob_start.specs.Orders.{writes_of, register_gates, shut_notes}
use Rattle.ob_twin.proofs.Clear.{both_clear, clear_all, none_clear}
use Rattle.ob_start.proofs.InClear.{all_shut, err_clear, low_kept, some_shut}
use Rattle.ob_start.proofs.Clearing.{head_then, failed_then, shut_again, register_behind, further, registers_apart, head_apart}
use Rattle.ob_start.proofs.laying.shut_gates.Goals as goal

pub shut-requires-clause-behind : goal.shut-requires-clause-behind
shut-requires-clause-behind g c = register_behind

pub shut-requires-2-clause-behind : goal.shut-requires-2-clause-behind
shut-requires-2-clause-behind g c = further 0 c.args.more.now c.requires.behind (omega arith)

pub returns-in_err-shut-clause-does : goal.returns-in_err-shut-clause-does
returns-in_err-shut-clause-does g c =
    does_refused _ _ _ _ (shut_notes c.args.more.now) c.from_residual.result c.from_residual.ensures.0
    (first_more _ _ _ _ (writes_of register_gates) (writes_of c.args.more.now ++ Sync ∷ []) c.in_err-shut.ensures.does.first)

pub returns-in_err-shut-2-clause-does : goal.returns-in_err-shut-2-clause-does
returns-in_err-shut-2-clause-does g c =
    does_refused _ _ _ _ (shut_notes c.args.more.now) c.from_residual-in_err-shut-2.result c.from_residual-in_err-shut-2.ensures.0
    (first_behind _ _ _ _ _ _ (writes_of register_gates) (writes_of c.args.more.now ++ Sync ∷ []) c.in_ok-shut.ensures.does.all
    (first_more _ _ _ _ (writes_of c.args.more.now) (Sync ∷ []) c.in_err-shut-2.ensures.does.first))

pub returns-clause-does : goal.returns-clause-does
returns-clause-does g c =
    does_then _ _ _ _ _ _ (writes_of register_gates) (writes_of c.args.more.now ++ Sync ∷ []) c.sync_noted.result c.in_ok-shut.ensures.does.all
    (does_sync _ _ _ _ _ _ (writes_of c.args.more.now) c.sync_noted.result c.in_ok-shut-2.ensures.does.all c.sync_noted.ensures.told)

pub returns-in_err-shut-2-clause-serves : goal.returns-in_err-shut-2-clause-serves
returns-in_err-shut-2-clause-serves g c =
    let a = c.in_ok-shut.ensures.serves in
    failed_then _ _ _ c.in_err-shut-2.field-0.0 c.from_residual-in_err-shut-2.result a.goes a.out c.from_residual-in_err-shut-2.ensures.0 c.in_err-shut-2.ensures.serves

pub returns-clause-serves : goal.returns-clause-serves
returns-clause-serves g c =
    let a = c.in_ok-shut.ensures.serves in
    let b = c.in_ok-shut-2.ensures.serves in
    serves_then IsFailed (g.S.Store.disk c.args.store.now) (g.S.Store.disk c.shut-2.new.store) (g.S.Store.disk c.sync_noted.new.store) c.sync_noted.result
    (goes_then _ _ _ a.goes b.goes) (let x = a.out in let y = b.out in omega arith) (λ t. b.tells (a.tells t)) c.sync_noted.ensures.serves

pub returns-clause-registers : goal.returns-clause-registers
returns-clause-registers g c = λ tells.
    let one = g.S.Store.disk c.shut.new.store in
    let two = g.S.Store.disk c.shut-2.new.store in
    let new = g.S.Store.disk c.sync_noted.new.store in
    let t1 = c.in_ok-shut.ensures.serves.tells tells in
    let t2 = c.in_ok-shut-2.ensures.serves.tells t1 in
    if_ok _ c.sync_noted.result
    (shut_again register_gates two.cells new.cells (λ i lt. c.sync_noted.ensures.keeps.cells t2 (get_or register_gates i 0))
    (registers_apart c.args.more.now one.cells two.cells c.requires.behind (c.shut-2.ensures.rest t1) (c.in_ok-shut.ensures.shut tells)))

pub returns-clause-more : goal.returns-clause-more
returns-clause-more g c = λ tells.
    let two = g.S.Store.disk c.shut-2.new.store in
    let new = g.S.Store.disk c.sync_noted.new.store in
    let t1 = c.in_ok-shut.ensures.serves.tells tells in
    let t2 = c.in_ok-shut-2.ensures.serves.tells t1 in
    if_ok _ c.sync_noted.result
    (shut_again c.args.more.now two.cells new.cells (λ i lt. c.sync_noted.ensures.keeps.cells t2 (get_or c.args.more.now i 0)) (c.in_ok-shut-2.ensures.shut t1))

pub returns-clause-head : goal.returns-clause-head
returns-clause-head g c = λ tells.
    let old = g.S.Store.disk c.args.store.now in
    let one = g.S.Store.disk c.shut.new.store in
    let two = g.S.Store.disk c.shut-2.new.store in
    let t1 = c.in_ok-shut.ensures.serves.tells tells in
    let t2 = c.in_ok-shut-2.ensures.serves.tells t1 in
    if_ok _ c.sync_noted.result
    (c.sync_noted.ensures.keeps.cells t2 0 ∙ head_apart c.args.more.now one.cells two.cells (further 0 c.args.more.now c.requires.behind (omega arith)) (c.shut-2.ensures.rest t1)
    ∙ head_apart register_gates old.cells one.cells register_behind (c.shut.ensures.rest tells))

pub returns-in_err-shut-2-clause-passes : goal.returns-in_err-shut-2-clause-passes
returns-in_err-shut-2-clause-passes g c =
    head_then (g.S.Store.disk c.args.store.now) (g.S.Store.disk c.shut.new.store) (g.S.Store.disk c.shut-2.new.store) c.shut.ensures.passes c.shut-2.ensures.passes

pub returns-clause-passes : goal.returns-clause-passes
returns-clause-passes g c =
    let old = g.S.Store.disk c.args.store.now in
    let two = g.S.Store.disk c.shut-2.new.store in
    passed_still SameHead old two (g.S.Store.disk c.sync_noted.new.store) (head_then old (g.S.Store.disk c.shut.new.store) two c.shut.ensures.passes c.shut-2.ensures.passes)
    c.sync_noted.ensures.serves.goes c.sync_noted.ensures.time c.sync_noted.ensures.crash c.sync_noted.ensures.keeps

-- ---- in the clear

pub returns-in_err-shut-clause-clear : goal.returns-in_err-shut-clause-clear
returns-in_err-shut-clause-clear g c = λ tag tells.
    let old = g.S.Store.disk c.args.store.now in
    let new = g.S.Store.disk c.shut.new.store in
    let here = c.shut.ensures.serves.goes.told tells in
    err_clear tag new.seen old.cells new.cells c.from_residual.result c.from_residual.ensures.0
    (some_shut tag old.cells new.cells (c.shut.ensures.rest here) new.seen (c.in_err-shut.ensures.clear tells))

pub returns-in_err-shut-2-clause-clear : goal.returns-in_err-shut-2-clause-clear
returns-in_err-shut-2-clause-clear g c = λ tag tells.
    let old = g.S.Store.disk c.args.store.now in
    let one = g.S.Store.disk c.shut.new.store in
    let new = g.S.Store.disk c.shut-2.new.store in
    let there = c.shut-2.ensures.serves.goes.told tells in
    let here = c.shut.ensures.serves.goes.told there in
    clear_all tag new.seen old.cells new.cells c.from_residual-in_err-shut-2.result
    (both_clear tag old.cells one.cells new.cells (all_shut tag old.cells one.cells (c.shut.ensures.rest here) (c.in_ok-shut.ensures.clear there))
    (none_clear tag one.cells new.cells (low_kept c.args.more.now one.cells new.cells c.requires.behind (c.shut-2.ensures.rest there))))

pub returns-clause-clear : goal.returns-clause-clear
returns-clause-clear g c = λ tag tells.
    let old = g.S.Store.disk c.args.store.now in
    let one = g.S.Store.disk c.shut.new.store in
    let two = g.S.Store.disk c.shut-2.new.store in
    let new = g.S.Store.disk c.sync_noted.new.store in
    let t2 = c.sync_noted.ensures.serves.goes.told tells in
    let t1 = c.shut-2.ensures.serves.goes.told t2 in
    let here = c.shut.ensures.serves.goes.told t1 in
    clear_all tag new.seen old.cells new.cells c.sync_noted.result
    (both_clear tag old.cells one.cells new.cells (all_shut tag old.cells one.cells (c.shut.ensures.rest here) (c.in_ok-shut.ensures.clear t1))
    (none_clear tag one.cells new.cells (λ cell low. c.sync_noted.ensures.keeps.cells t2 cell ∙ low_kept c.args.more.now one.cells two.cells c.requires.behind (c.shut-2.ensures.rest t1) cell low)))
