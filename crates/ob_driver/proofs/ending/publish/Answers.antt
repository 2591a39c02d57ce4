use Rattle.std.proofs.Common.{◌≡◌, ◌∙◌, ◌+◌, ◌≤◌, ℕ, suc, [], ◌∷◌, refl, sym, ap, subst, arith}
use Rattle.atomic_table.specs.declared.shared.Seat.{Seat}
use Rattle.ob_base.specs.declared.params.Params.{Params}
use Rattle.ob_turn.specs.declared.bell.Heard.{Heard}
use Rattle.ob_turn.specs.BellCalls.{Raises}
use Rattle.ob_serial.specs.Views.{record_of}
use Rattle.ob_desk.specs.Desk as desk
use Rattle.ob_hall.specs.Passes.{told_by}
use Rattle.ob_driver.proofs.Turning.{call_leads, turn_made}
use Rattle.ob_driver.proofs.Resting.{in_turn}
use Rattle.ob_driver.proofs.Whole.{whole_turn}
use Rattle.ob_driver.proofs.Shutting.{may_publish, due_told, driver_rung, rounds_rung, turn_of_rung, entries_of_rung}
use Rattle.ob_driver.proofs.Standing.{ends_left, goes_on_ended, made_entered}
use Rattle.ob_driver.proofs.ending.publish.Goals as goal

pub raise-requires-clause-own : goal.raise-requires-clause-own
raise-requires-clause-own g c = c.requires.ending.2.driver.own

pub raise-requires-clause-driver : goal.raise-requires-clause-driver
raise-requires-clause-driver g c = c.requires.ending.2.driver.raises

pub raise-requires-clause-rising : goal.raise-requires-clause-rising
raise-requires-clause-rising g c = let (counts, writes, e, is) = c.requires.ending in let low : told_by c.args.pass.now ≤ counts.epoch = e.told in omega (arith, low, is)

pub enter_behind-desk-requires-clause-own : goal.enter_behind-desk-requires-clause-own
enter_behind-desk-requires-clause-own g c = c.raise.ensures.own

pub enter_behind-desk-requires-clause-idle : goal.enter_behind-desk-requires-clause-idle
enter_behind-desk-requires-clause-idle g c = rw c.raise.ensures.raised.seat c.requires.ending.2.idle

pub publish-record-requires : goal.publish-record-requires
publish-record-requires g c =
    let (counts, writes, e, is) = c.requires.ending in
    may_publish c.args.hall.now c.raise.new.pass c.enter_behind-desk.new.pass c.enter_behind-desk.result.0 counts writes (driver_rung c.args.hall.now c.args.pass.now c.raise.new.pass c.args.ended c.raise.ensures.raised c.raise.ensures.own e.driver)
    (rounds_rung c.args.hall.now c.args.pass.now c.raise.new.pass c.args.ended c.raise.ensures.raised ∙ e.rounds) c.enter_behind-desk.ensures.entered c.args.ended c.args.params.now.batches is c.requires.few (ap (λ (p : Params). p.batches) c.requires.params)

pub leave-requires-clause-own : goal.leave-requires-clause-own
leave-requires-clause-own g c = c.enter_behind-desk.ensures.own

pub leave-requires-clause-inside : goal.leave-requires-clause-inside
leave-requires-clause-inside g c = c.enter_behind-desk.ensures.entered.enters.inside

pub leave-requires-clause-desk : goal.leave-requires-clause-desk
leave-requires-clause-desk g c =
    let (counts, writes, e, is) = c.requires.ending in
    rw c.of-told.ensures
    (call_leads c.args.hall.now c.enter_behind-desk.new.pass c.enter_behind-desk.result.0 c.publish-record.new.self (desk.Publish (c.args.ended + 1) c.args.params.now.batches, desk.Published (record_of c.publish-record.result))
    (in_turn c.args.hall.now c.raise.new.pass c.enter_behind-desk.new.pass c.enter_behind-desk.result.0
    (driver_rung c.args.hall.now c.args.pass.now c.raise.new.pass c.args.ended c.raise.ensures.raised c.raise.ensures.own c.requires.ending.2.driver) c.enter_behind-desk.ensures.entered c.enter_behind-desk.ensures.own)
    (may_publish c.args.hall.now c.raise.new.pass c.enter_behind-desk.new.pass c.enter_behind-desk.result.0 counts writes (driver_rung c.args.hall.now c.args.pass.now c.raise.new.pass c.args.ended c.raise.ensures.raised c.raise.ensures.own e.driver)
    (rounds_rung c.args.hall.now c.args.pass.now c.raise.new.pass c.args.ended c.raise.ensures.raised ∙ e.rounds) c.enter_behind-desk.ensures.entered c.args.ended c.args.params.now.batches is c.requires.few (ap (λ (p : Params). p.batches) c.requires.params))
    c.publish-record.ensures refl)

pub returns-clause-due : goal.returns-clause-due
returns-clause-due g c = λ counts writes e.
    due_told c.args.hall.now c.raise.new.pass c.enter_behind-desk.new.pass c.enter_behind-desk.result.0 counts writes (driver_rung c.args.hall.now c.args.pass.now c.raise.new.pass c.args.ended c.raise.ensures.raised c.raise.ensures.own e.driver)
    (rounds_rung c.args.hall.now c.args.pass.now c.raise.new.pass c.args.ended c.raise.ensures.raised ∙ e.rounds) c.enter_behind-desk.ensures.entered (record_of c.publish-record.result) c.publish-record.new.self c.publish-record.ensures

pub returns-clause-made : goal.returns-clause-made
returns-clause-made g c =
    rw c.of-told.ensures
    at (turn_of_rung c.args.hall.now c.args.pass.now c.raise.new.pass c.args.ended c.raise.ensures.raised c.leave.new.pass _
    (whole_turn c.args.hall.now c.raise.new.pass c.enter_behind-desk.new.pass c.leave.new.pass c.enter_behind-desk.result.0 ((desk.Publish (c.args.ended + 1) c.args.params.now.batches, desk.Published (record_of c.of-told.result.value)) ∷ [])
    (driver_rung c.args.hall.now c.args.pass.now c.raise.new.pass c.args.ended c.raise.ensures.raised c.raise.ensures.own c.requires.ending.2.driver) c.enter_behind-desk.ensures.entered
    (turn_made c.enter_behind-desk.new.pass c.leave.new.pass (desk.Publish (c.args.ended + 1) c.args.params.now.batches, desk.Published (record_of c.of-told.result.value)) c.leave.ensures.left)))

pub returns-clause-stand : goal.returns-clause-stand
returns-clause-stand g c =
    let b = c.enter_behind-desk.ensures.behind in
    entries_of_rung c.args.hall.now c.args.pass.now c.raise.new.pass c.args.ended c.raise.ensures.raised c.leave.new.pass c.args.turns.now c.enter_behind-desk.result.1
    (made_entered c.args.hall.now c.raise.new.pass c.enter_behind-desk.new.pass c.leave.new.pass c.enter_behind-desk.result.0 c.args.turns.now c.enter_behind-desk.result.1 c.enter_behind-desk.result.1 c.enter_behind-desk.ensures.entered b
    (goes_on_ended c.enter_behind-desk.new.pass c.leave.new.pass c.enter_behind-desk.result.1 b.1 (ends_left c.enter_behind-desk.new.pass c.leave.new.pass _ c.leave.ensures.left)))

pub returns-clause-raised : goal.returns-clause-raised
returns-clause-raised g c = subst (λ (e : Seat (Unit {0}) Heard). Raises c.args.pass.now.ear e c.args.ended) (sym (c.leave.ensures.left.beside.ear ∙ c.enter_behind-desk.ensures.entered.beside.ear)) c.raise.ensures.raised.raises

pub returns-clause-own : goal.returns-clause-own
returns-clause-own g c = c.leave.ensures.own

pub returns-clause-idle : goal.returns-clause-idle
returns-clause-idle g c = c.leave.ensures.idle
