use Rattle.std.proofs.Common.{[], ◌∷◌, ◌∙◌, inl, inr}
use Rattle.std.proofs.lemmas.Result.{IfOk-from_err}
use Rattle.ob_store.specs.declared.watch.Note.TheVariants.{Write, Sync}
use Rattle.ob_store.proofs.Doing.{does_sync, does_refused, first_more, first_all}
use Rattle.ob_store.specs.Calls.{IsFailed}
use Rattle.ob_store.specs.Images.{SameBut}
use Rattle.ob_store.proofs.Serving.{serves_then, if_ok, if_err}
use Rattle.ob_store.proofs.Keeping.{serves_failed}
use Rattle.ob_store.proofs.Moments.{torn_once, torn_alone, passed_still}
use Rattle.ob_twin.specs.Clear.{IsWritten}
use Rattle.ob_twin.specs.Orders.{through_notes}
use Rattle.ob_twin.proofs.Clear.{last_written}
use Rattle.ob_twin.proofs.Sets.{write_tells, write_refused}
use Rattle.ob_twin.proofs.writing.write_out.Goals as goal

pub returns-clause-does : goal.returns-clause-does
returns-clause-does g c = does_sync _ _ _ _ _ _ (Write c.args.cell ∷ []) c.sync_noted.result c.in_ok-write_noted.ensures.told c.sync_noted.ensures.told

pub returns-in_err-write_noted-clause-does : goal.returns-in_err-write_noted-clause-does
returns-in_err-write_noted-clause-does g c = does_refused _ _ _ _ (through_notes c.args.cell) c.from_residual.result c.from_residual.ensures.0
    (first_more _ _ _ _ (Write c.args.cell ∷ []) (Sync ∷ []) (first_all _ _ _ _ (Write c.args.cell ∷ []) c.in_err-write_noted.ensures.told))

pub returns-clause-told : goal.returns-clause-told
returns-clause-told g c = write_tells _ _ _ _ _ _ c.args.cell c.sync_noted.result c.in_ok-write_noted.ensures.told c.sync_noted.ensures.told

pub returns-in_err-write_noted-clause-told : goal.returns-in_err-write_noted-clause-told
returns-in_err-write_noted-clause-told g c = write_refused _ _ _ _ c.args.cell c.from_residual.result c.from_residual.ensures.0 c.in_err-write_noted.ensures.told

pub returns-in_err-write_noted-clause-serves : goal.returns-in_err-write_noted-clause-serves
returns-in_err-write_noted-clause-serves g c = serves_failed _ _ _ c.from_residual.result c.from_residual.ensures.0 c.in_err-write_noted.ensures.serves

pub returns-in_err-write_noted-clause-written : goal.returns-in_err-write_noted-clause-written
returns-in_err-write_noted-clause-written g c = λ tells. IfOk-from_err c.from_residual.result _ c.from_residual.ensures.0

pub returns-in_err-write_noted-clause-durable : goal.returns-in_err-write_noted-clause-durable
returns-in_err-write_noted-clause-durable g c = λ tells. IfOk-from_err c.from_residual.result _ c.from_residual.ensures.0

-- the write was the last call
pub returns-in_err-write_noted-clause-refused : goal.returns-in_err-write_noted-clause-refused
returns-in_err-write_noted-clause-refused g c = λ tells.
    let new = g.S.Store.disk c.write_noted.new.store in
    if_err (IsWritten c.args.cell c.args.bytes.now new.seen new.cells) c.from_residual.result
    (inr (last_written c.args.cell (g.S.Store.disk c.args.store.now).seen new.seen c.in_err-write_noted.ensures.told.seen))

pub returns-clause-refused : goal.returns-clause-refused
returns-clause-refused g c = λ tells.
    let mid = c.sync_noted.ensures.serves.goes.told tells in
    let new = g.S.Store.disk c.sync_noted.new.store in
    if_err (IsWritten c.args.cell c.args.bytes.now new.seen new.cells) c.sync_noted.result
    (inl (c.sync_noted.ensures.keeps.cells mid c.args.cell ∙ c.in_ok-write_noted.ensures.written (c.write_noted.ensures.serves.goes.told mid)))

pub returns-clause-serves : goal.returns-clause-serves
returns-clause-serves g c =
    let written = c.in_ok-write_noted.ensures.serves in
    serves_then IsFailed _ (g.S.Store.disk c.write_noted.new.store) _ c.sync_noted.result written.goes written.out written.tells c.sync_noted.ensures.serves

pub returns-clause-written : goal.returns-clause-written
returns-clause-written g c = λ tells.
    if_ok _ c.sync_noted.result (c.sync_noted.ensures.keeps.cells (c.in_ok-write_noted.ensures.serves.tells tells) c.args.cell ∙ c.in_ok-write_noted.ensures.written tells)

pub returns-clause-rest : goal.returns-clause-rest
returns-clause-rest g c = λ tells k off. c.sync_noted.ensures.keeps.cells (c.in_ok-write_noted.ensures.serves.tells tells) k ∙ c.write_noted.ensures.rest tells k off

pub returns-clause-durable : goal.returns-clause-durable
returns-clause-durable g c = λ tells. c.sync_noted.ensures.durable (c.in_ok-write_noted.ensures.serves.tells tells)

pub returns-clause-passes : goal.returns-clause-passes
returns-clause-passes g c =
    let written = c.write_noted.ensures in
    let synced = c.sync_noted.ensures in
    let old = g.S.Store.disk c.args.store.now in
    let mid = g.S.Store.disk c.write_noted.new.store in
    passed_still (SameBut c.args.cell) old mid _ (torn_once c.args.cell old mid written.serves.goes written.time written.crash written.rest) synced.serves.goes synced.time synced.crash synced.keeps

pub returns-in_err-write_noted-clause-passes : goal.returns-in_err-write_noted-clause-passes
returns-in_err-write_noted-clause-passes g c =
    let written = c.write_noted.ensures in
    torn_once c.args.cell (g.S.Store.disk c.args.store.now) (g.S.Store.disk c.write_noted.new.store) written.serves.goes written.time written.crash written.rest

pub returns-in_err-write_noted-clause-any_moment : goal.returns-in_err-write_noted-clause-any_moment
returns-in_err-write_noted-clause-any_moment g c = λ settled.
    torn_alone c.args.cell (g.S.Store.disk c.args.store.now) (g.S.Store.disk c.write_noted.new.store) (g.met.S.Store.only_now c.args.store.now)
    (returns-in_err-write_noted-clause-passes g c) settled

pub returns-clause-any_moment : goal.returns-clause-any_moment
returns-clause-any_moment g c = λ settled.
    torn_alone c.args.cell (g.S.Store.disk c.args.store.now) (g.S.Store.disk c.sync_noted.new.store) (g.met.S.Store.only_now c.args.store.now)
    (returns-clause-passes g c) settled
