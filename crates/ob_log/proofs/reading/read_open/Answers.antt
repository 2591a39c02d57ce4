use Rattle.std.proofs.Common.{◌≢◌, List, Result, IfErr, refl, subst}
use Rattle.ob_base.specs.declared.fault.Fault.{Fault}
use Rattle.ob_base.specs.declared.fault.Fault.TheVariants.{Memory}
use Rattle.ob_store.proofs.Doing.{does_err}
use Rattle.ob_store.proofs.Events.{none_noted}
use Rattle.ob_store.proofs.Lanes.{first_none}
use Rattle.ob_log.specs.Logs.{BatchRecord}
use Rattle.ob_log.specs.Reads.{area_notes}
use Rattle.ob_log.proofs.Accepting.{accepted_back}
use Rattle.ob_log.proofs.ReadBack.{read_back}
use Rattle.ob_store.specs.Calls.{IsStoreFault}
use Rattle.ob_store.proofs.Keeping.{serves_none, keeps_none, same_none}
use Rattle.ob_log.proofs.reading.read_open.Goals as goal

pub returns-in-Err-clause-does : goal.returns-in-Err-clause-does
returns-in-Err-clause-does g c = does_err _ _ _ _ (area_notes c.args.p.now c.args.epoch) Memory (first_none (area_notes c.args.p.now c.args.epoch) _ _ _ (none_noted _))

pub returns-in-Err-blank_cells-clause-does : goal.returns-in-Err-blank_cells-clause-does
returns-in-Err-blank_cells-clause-does g c = does_err _ _ _ _ (area_notes c.args.p.now c.args.epoch) Memory (first_none (area_notes c.args.p.now c.args.epoch) _ _ _ (none_noted _))

pub returns-clause-as_written : goal.returns-clause-as_written
returns-clause-as_written g c = λ rs tells held.
    read_back c.args.sealer.now.keys c.args.p.now c.args.epoch rs (g.S.Store.disk c.args.store.now).cells c.ranges.epoch.fits held c.read_area.result (c.read_area.ensures.value tells)

pub returns-clause-accepted : goal.returns-clause-accepted
returns-clause-accepted g c = λ rs tells held. accepted_back c.args.sealer.now.keys c.args.p.now c.args.epoch rs (g.S.Store.disk c.args.store.now).cells held c.read_area.result (c.read_area.ensures.value tells)

-- ---- nothing was read

pub returns-in-Err-clause-serves : goal.returns-in-Err-clause-serves
returns-in-Err-clause-serves g c = serves_none IsStoreFault (g.S.Store.disk c.args.store.now) _ (λ blamed. blamed)

pub returns-in-Err-clause-keeps : goal.returns-in-Err-clause-keeps
returns-in-Err-clause-keeps g c = keeps_none (g.S.Store.disk c.args.store.now)

pub returns-in-Err-clause-passes : goal.returns-in-Err-clause-passes
returns-in-Err-clause-passes g c = same_none (g.S.Store.disk c.args.store.now)

pub returns-in-Err-blank_cells-clause-serves : goal.returns-in-Err-blank_cells-clause-serves
returns-in-Err-blank_cells-clause-serves g c = serves_none IsStoreFault (g.S.Store.disk c.args.store.now) _ (λ blamed. blamed)

pub returns-in-Err-blank_cells-clause-keeps : goal.returns-in-Err-blank_cells-clause-keeps
returns-in-Err-blank_cells-clause-keeps g c = keeps_none (g.S.Store.disk c.args.store.now)

pub returns-in-Err-blank_cells-clause-passes : goal.returns-in-Err-blank_cells-clause-passes
returns-in-Err-blank_cells-clause-passes g c = same_none (g.S.Store.disk c.args.store.now)

pub returns-clause-memory : goal.returns-clause-memory
returns-clause-memory g c = λ is. absurd (subst (λ (r : Result (List BatchRecord) Fault). IfErr r (λ told. told ≢ Memory)) is c.read_area.ensures.no_memory refl)
