use Rattle.std.proofs.Common.{◌∙◌, [], ◌∷◌, refl}
use Rattle.ob_desk.specs.Desk as desk
use Rattle.ob_driver.proofs.Turning.{call_leads, turn_made}
use Rattle.ob_driver.proofs.Resting.{in_turn}
use Rattle.ob_driver.proofs.Whole.{whole_turn, may_land}
use Rattle.ob_driver.proofs.Standing.{ends_left, goes_on_ended, made_entered}
use Rattle.ob_driver.proofs.fetching.deliver.Goals as goal

pub deliver_batch-requires : goal.deliver_batch-requires
deliver_batch-requires g c = record { may = may_land c.args.hall.now c.args.pass.now c.enter_behind-desk.new.pass c.enter_behind-desk.result.0 c.requires.out.0 c.args.asks.now.items c.args.found.now.items c.requires.out.1 c.enter_behind-desk.ensures.entered c.requires.whole }

pub leave-requires-clause-desk : goal.leave-requires-clause-desk
leave-requires-clause-desk g c =
    rw (c.of-keys.ensures, c.of-values.ensures)
    (call_leads c.args.hall.now c.enter_behind-desk.new.pass c.enter_behind-desk.result.0 c.deliver_batch.new.desk (desk.Deliver c.args.asks.now.items c.args.found.now.items, desk.Done)
    (in_turn c.args.hall.now c.args.pass.now c.enter_behind-desk.new.pass c.enter_behind-desk.result.0 c.requires.out.1.driver c.enter_behind-desk.ensures.entered c.enter_behind-desk.ensures.own)
    (may_land c.args.hall.now c.args.pass.now c.enter_behind-desk.new.pass c.enter_behind-desk.result.0 c.requires.out.0 c.args.asks.now.items c.args.found.now.items c.requires.out.1 c.enter_behind-desk.ensures.entered c.requires.whole)
    c.deliver_batch.ensures.delivered refl)

pub returns-clause-made : goal.returns-clause-made
returns-clause-made g c =
    rw (c.of-keys.ensures, c.of-values.ensures)
    at (whole_turn c.args.hall.now c.args.pass.now c.enter_behind-desk.new.pass c.leave.new.pass c.enter_behind-desk.result.0 ((desk.Deliver c.of-keys.result.value.items c.of-values.result.value.items, desk.Done) ∷ []) c.requires.out.1.driver c.enter_behind-desk.ensures.entered
    (turn_made c.enter_behind-desk.new.pass c.leave.new.pass (desk.Deliver c.of-keys.result.value.items c.of-values.result.value.items, desk.Done) c.leave.ensures.left))

pub returns-clause-ear : goal.returns-clause-ear
returns-clause-ear g c = c.leave.ensures.left.beside.ear ∙ c.enter_behind-desk.ensures.entered.beside.ear

pub returns-clause-stand : goal.returns-clause-stand
returns-clause-stand g c =
    let b = c.enter_behind-desk.ensures.behind in
    made_entered c.args.hall.now c.args.pass.now c.enter_behind-desk.new.pass c.leave.new.pass c.enter_behind-desk.result.0 c.args.turns.now c.enter_behind-desk.result.1 c.enter_behind-desk.result.1 c.enter_behind-desk.ensures.entered b
    (goes_on_ended c.enter_behind-desk.new.pass c.leave.new.pass c.enter_behind-desk.result.1 b.1 (ends_left c.enter_behind-desk.new.pass c.leave.new.pass _ c.leave.ensures.left))

pub enter_behind-desk-requires-clause-own : goal.enter_behind-desk-requires-clause-own
enter_behind-desk-requires-clause-own g c = c.requires.out.1.driver.own

pub enter_behind-desk-requires-clause-idle : goal.enter_behind-desk-requires-clause-idle
enter_behind-desk-requires-clause-idle g c = c.requires.out.1.idle

pub leave-requires-clause-own : goal.leave-requires-clause-own
leave-requires-clause-own g c = c.enter_behind-desk.ensures.own

pub leave-requires-clause-inside : goal.leave-requires-clause-inside
leave-requires-clause-inside g c = c.enter_behind-desk.ensures.entered.enters.inside
