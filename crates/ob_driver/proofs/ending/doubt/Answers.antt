use Rattle.std.proofs.Common.{◌∙◌, [], ◌∷◌, refl}
use Rattle.ob_desk.specs.Desk as desk
use Rattle.ob_driver.proofs.Turning.{call_leads, turn_made}
use Rattle.ob_driver.proofs.Resting.{in_turn}
use Rattle.ob_driver.proofs.Whole.{whole_turn}
use Rattle.ob_driver.proofs.Shutting.{still_closed}
use Rattle.ob_driver.proofs.Standing.{ends_left, goes_on_ended, made_entered}
use Rattle.ob_driver.proofs.ending.doubt.Goals as goal

pub enter_behind-desk-requires-clause-own : goal.enter_behind-desk-requires-clause-own
enter_behind-desk-requires-clause-own g c = c.requires.ending.2.driver.own

pub enter_behind-desk-requires-clause-idle : goal.enter_behind-desk-requires-clause-idle
enter_behind-desk-requires-clause-idle g c = c.requires.ending.2.idle

pub unsure-requires : goal.unsure-requires
unsure-requires g c =
    let (counts, writes, e) = c.requires.ending in
    still_closed c.args.hall.now c.args.pass.now c.enter_behind-desk.new.pass c.enter_behind-desk.result.0 counts writes e.driver e.rounds c.enter_behind-desk.ensures.entered

pub leave-requires-clause-own : goal.leave-requires-clause-own
leave-requires-clause-own g c = c.enter_behind-desk.ensures.own

pub leave-requires-clause-inside : goal.leave-requires-clause-inside
leave-requires-clause-inside g c = c.enter_behind-desk.ensures.entered.enters.inside

pub leave-requires-clause-desk : goal.leave-requires-clause-desk
leave-requires-clause-desk g c =
    let (counts, writes, e) = c.requires.ending in
    call_leads c.args.hall.now c.enter_behind-desk.new.pass c.enter_behind-desk.result.0 c.unsure.new.self (desk.Unsure c.args.fault, desk.Done)
    (in_turn c.args.hall.now c.args.pass.now c.enter_behind-desk.new.pass c.enter_behind-desk.result.0 c.requires.ending.2.driver c.enter_behind-desk.ensures.entered c.enter_behind-desk.ensures.own)
    (still_closed c.args.hall.now c.args.pass.now c.enter_behind-desk.new.pass c.enter_behind-desk.result.0 counts writes e.driver e.rounds c.enter_behind-desk.ensures.entered) c.unsure.ensures refl

pub returns-clause-made : goal.returns-clause-made
returns-clause-made g c =
    whole_turn c.args.hall.now c.args.pass.now c.enter_behind-desk.new.pass c.leave.new.pass c.enter_behind-desk.result.0 ((desk.Unsure c.args.fault, desk.Done) ∷ []) c.requires.ending.2.driver c.enter_behind-desk.ensures.entered
    (turn_made c.enter_behind-desk.new.pass c.leave.new.pass (desk.Unsure c.args.fault, desk.Done) c.leave.ensures.left)

pub returns-clause-ear : goal.returns-clause-ear
returns-clause-ear g c = c.leave.ensures.left.beside.ear ∙ c.enter_behind-desk.ensures.entered.beside.ear

pub returns-clause-stand : goal.returns-clause-stand
returns-clause-stand g c =
    let b = c.enter_behind-desk.ensures.behind in
    made_entered c.args.hall.now c.args.pass.now c.enter_behind-desk.new.pass c.leave.new.pass c.enter_behind-desk.result.0 c.args.turns.now c.enter_behind-desk.result.1 c.enter_behind-desk.result.1 c.enter_behind-desk.ensures.entered b
    (goes_on_ended c.enter_behind-desk.new.pass c.leave.new.pass c.enter_behind-desk.result.1 b.1 (ends_left c.enter_behind-desk.new.pass c.leave.new.pass _ c.leave.ensures.left))

pub returns-clause-own : goal.returns-clause-own
returns-clause-own g c = c.leave.ensures.own

pub returns-clause-idle : goal.returns-clause-idle
returns-clause-idle g c = c.leave.ensures.idle
