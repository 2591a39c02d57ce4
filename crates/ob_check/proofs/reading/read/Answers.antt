use Rattle.std.specs.Prelude.{IfErr}
use Rattle.std.proofs.Common.{refl, subst, ◌∙◌, Result}
use Rattle.ob_base.specs.declared.fault.Fault.{Fault}
use Rattle.ob_base.specs.declared.fault.Fault.TheVariants.{Memory}
use Rattle.ob_tables.specs.Buckets.{Buckets}
use Rattle.ob_tables.specs.declared.tables.Tables.{Tables}
use Rattle.ob_check.specs.ReadBack.{IsCheckReadFault}
use Rattle.ob_check.proofs.ReadLaws.{check_faults}
use Rattle.ob_base.specs.Layout.{checkpoint_cells}
use Rattle.ob_store.proofs.Doing.{does_err}
use Rattle.ob_store.proofs.Events.{none_noted}
use Rattle.ob_store.proofs.Lanes.{first_none}
use Rattle.ob_cells.specs.Orders.{read_notes}
use Rattle.ob_check.specs.Written.{area_of}
use Rattle.ob_check.proofs.Accepted.{accepted_back}
use Rattle.ob_store.specs.Calls.{IsStoreFault}
use Rattle.ob_store.proofs.Keeping.{serves_none, keeps_none, same_none}
use Rattle.ob_check.proofs.reading.read.Goals as goal

pub returns-in-Err-clause-does : goal.returns-in-Err-clause-does
returns-in-Err-clause-does g c =
    let steps = read_notes (area_of c.args.p.now c.args.epoch) (checkpoint_cells c.args.p.now) in
    does_err _ _ _ _ steps Memory (first_none steps _ _ _ (none_noted _))

pub returns-in-Err-no_marks-clause-does : goal.returns-in-Err-no_marks-clause-does
returns-in-Err-no_marks-clause-does g c =
    let steps = read_notes (area_of c.args.p.now c.args.epoch) (checkpoint_cells c.args.p.now) in
    does_err _ _ _ _ steps Memory (first_none steps _ _ _ (none_noted _))

pub returns-clause-accepted : goal.returns-clause-accepted
returns-clause-accepted g c = λ t tells held. accepted_back c.args.sealer.now.keys c.args.p.now c.args.epoch (g.S.Store.disk c.args.store.now).cells t held c.read_into.result (c.read_into.ensures.value tells)

-- ---- nothing was read

pub returns-in-Err-clause-serves : goal.returns-in-Err-clause-serves
returns-in-Err-clause-serves g c = serves_none IsStoreFault (g.S.Store.disk c.args.store.now) _ (λ blamed. blamed)

pub returns-in-Err-clause-keeps : goal.returns-in-Err-clause-keeps
returns-in-Err-clause-keeps g c = keeps_none (g.S.Store.disk c.args.store.now)

pub returns-in-Err-clause-passes : goal.returns-in-Err-clause-passes
returns-in-Err-clause-passes g c = same_none (g.S.Store.disk c.args.store.now)

pub returns-in-Err-no_marks-clause-serves : goal.returns-in-Err-no_marks-clause-serves
returns-in-Err-no_marks-clause-serves g c = serves_none IsStoreFault (g.S.Store.disk c.args.store.now) _ (λ blamed. blamed)

pub returns-in-Err-no_marks-clause-keeps : goal.returns-in-Err-no_marks-clause-keeps
returns-in-Err-no_marks-clause-keeps g c = keeps_none (g.S.Store.disk c.args.store.now)

pub returns-in-Err-no_marks-clause-passes : goal.returns-in-Err-no_marks-clause-passes
returns-in-Err-no_marks-clause-passes g c = same_none (g.S.Store.disk c.args.store.now)

pub returns-in-Err-clause-memory : goal.returns-in-Err-clause-memory
returns-in-Err-clause-memory g c = λ same. (refl, refl)

pub returns-in-Err-no_marks-clause-memory : goal.returns-in-Err-no_marks-clause-memory
returns-in-Err-no_marks-clause-memory g c = λ same. (refl, refl)

-- ---- all was read

pub read_into-requires-clause-placed : goal.read_into-requires-clause-placed
read_into-requires-clause-placed g c = c.as_mut_slice.ensures.value ∙ c.in-Ok-no_marks.ensures

pub returns-clause-serves : goal.returns-clause-serves
returns-clause-serves g c = c.read_into.ensures.serves

pub returns-clause-value : goal.returns-clause-value
returns-clause-value g c = c.read_into.ensures.value

pub returns-clause-faults : goal.returns-clause-faults
returns-clause-faults g c = check_faults c.args.p.now c.args.epoch c.read_into.result c.read_into.ensures.faults

pub returns-clause-memory : goal.returns-clause-memory
returns-clause-memory g c = λ same. absurd (subst (λ (r : Result (Tables Buckets) Fault). IfErr r (IsCheckReadFault c.args.p.now c.args.epoch)) same c.read_into.ensures.faults)

pub returns-clause-obeys : goal.returns-clause-obeys
returns-clause-obeys g c = c.read_into.ensures.obeys

pub returns-clause-keeps : goal.returns-clause-keeps
returns-clause-keeps g c = c.read_into.ensures.keeps

pub returns-clause-passes : goal.returns-clause-passes
returns-clause-passes g c = c.read_into.ensures.passes

pub returns-clause-does : goal.returns-clause-does
returns-clause-does g c = c.read_into.ensures.does
