use Rattle.std.proofs.Common.{[], ◌∷◌, ◌++◌}
use Rattle.ob_store.specs.declared.watch.Note.TheVariants.{Sync}
use Rattle.ob_store.specs.Runs.{write_notes}
use Rattle.ob_store.proofs.Doing.{does_refused, does_sync, first_more}
use Rattle.ob_cells.proofs.Written.{refused_run, run_synced}
use Rattle.std.proofs.lemmas.Result.{IfOk-from_err}
use Rattle.ob_store.specs.Calls.{IsFailed}
use Rattle.ob_store.proofs.Serving.{serves_then}
use Rattle.ob_store.proofs.Keeping.{serves_failed}
use Rattle.ob_log.proofs.appending.write_sure.Goals as goal

pub returns-in_err-write_sealed-clause-run : goal.returns-in_err-write_sealed-clause-run
returns-in_err-write_sealed-clause-run g c =
    let run = c.write_sealed.ensures.run in
    refused_run c.args.base c.args.many (g.P.Pieces.plain c.args.pieces.now) c.args.sealer.now c.write_sealed.new.sealer (g.S.Store.disk c.args.store.now) (g.S.Store.disk c.write_sealed.new.store) c.from_residual.result c.from_residual.ensures.0
    run.seals.some run.within

pub returns-clause-run : goal.returns-clause-run
returns-clause-run g c =
    let mid = g.S.Store.disk c.write_sealed.new.store in
    let e = c.sync_noted.ensures in
    run_synced c.args.base c.args.many (g.P.Pieces.plain c.args.pieces.now) c.args.sealer.now c.write_sealed.new.sealer (g.S.Store.disk c.args.store.now) mid (g.S.Store.disk c.sync_noted.new.store) c.sync_noted.result
    c.in_ok-write_sealed.ensures.run c.in_ok-write_sealed.ensures.serves.tells e.keeps e.serves.goes e.time e.crash

pub returns-in_err-write_sealed-clause-does : goal.returns-in_err-write_sealed-clause-does
returns-in_err-write_sealed-clause-does g c =
    let notes = write_notes c.args.base c.args.many in
    does_refused _ _ _ _ (notes ++ Sync ∷ []) c.from_residual.result c.from_residual.ensures.0 (first_more _ _ _ _ notes (Sync ∷ []) c.in_err-write_sealed.ensures.does.first)

pub returns-clause-does : goal.returns-clause-does
returns-clause-does g c = does_sync _ _ _ _ _ _ (write_notes c.args.base c.args.many) c.sync_noted.result c.in_ok-write_sealed.ensures.does.all c.sync_noted.ensures.told

pub returns-in_err-write_sealed-clause-serves : goal.returns-in_err-write_sealed-clause-serves
returns-in_err-write_sealed-clause-serves g c = serves_failed _ _ _ c.from_residual.result c.from_residual.ensures.0 c.in_err-write_sealed.ensures.serves

pub returns-in_err-write_sealed-clause-durable : goal.returns-in_err-write_sealed-clause-durable
returns-in_err-write_sealed-clause-durable g c = λ tells. IfOk-from_err c.from_residual.result _ c.from_residual.ensures.0

pub returns-clause-serves : goal.returns-clause-serves
returns-clause-serves g c =
    let written = c.in_ok-write_sealed.ensures.serves in
    serves_then IsFailed _ (g.S.Store.disk c.write_sealed.new.store) _ c.sync_noted.result written.goes written.out written.tells c.sync_noted.ensures.serves

pub returns-clause-durable : goal.returns-clause-durable
returns-clause-durable g c = λ tells. c.sync_noted.ensures.durable (c.in_ok-write_sealed.ensures.serves.tells tells)
