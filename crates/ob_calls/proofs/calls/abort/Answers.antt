use Rattle.std.proofs.Common.{refl, ◌∙◌, ◌≡◌, [], ◌∷◌}
use Rattle.ob_desk.specs.Desk as desk
use Rattle.ob_session.specs.Steps.{steps_of}
use Rattle.ob_hall.specs.Calling.{TellsCalls}
use Rattle.ob_hall.proofs.Turning as turning
use Rattle.ob_calls.proofs.Afterwards.{abort_stands}
use Rattle.ob_calls.proofs.calls.abort.Goals as goal

pub abort-why-requires : goal.abort-why-requires
abort-why-requires g c = turning.abort_allowed c.args.hall.now c.args.pass.now c.enter-desk.new.pass c.enter-desk.result c.requires.ready c.enter-desk.ensures.entered c.in-Some.txn (turning.is_in c.args.pass.now c.in-Some.txn c.in-Some.is c.requires.inside)

pub leave_client-requires-clause-desk : goal.leave_client-requires-clause-desk
leave_client-requires-clause-desk g c =
    let i = (turning.is_in c.args.pass.now c.in-Some.txn c.in-Some.is c.requires.inside) in
    turning.leave_one c.args.hall.now c.args.pass.now c.enter-desk.new.pass c.enter-desk.result c.requires.ready c.enter-desk.ensures.entered c.abort-why.new.self (steps_of c.one.result) (desk.Abort c.in-Some.txn) (desk.Aborted c.abort-why.result)
    c.one.ensures (turning.abort_allowed c.args.hall.now c.args.pass.now c.enter-desk.new.pass c.enter-desk.result c.requires.ready c.enter-desk.ensures.entered c.in-Some.txn i) c.abort-why.ensures.step i.client

pub returns-clause-one_history : goal.returns-clause-one_history
returns-clause-one_history g c =
    let i = (turning.is_in c.args.pass.now c.in-Some.txn c.in-Some.is c.requires.inside) in
    turning.of_any c.args.pass.now c.in-Some.txn (λ x. TellsCalls c.args.hall.now c.args.pass.now c.leave_client.new.pass (λ calls. calls ≡ (desk.Abort x, desk.Aborted c.abort-why.result) ∷ [])) c.in-Some.is
    (turning.tells_one c.args.hall.now c.args.pass.now c.enter-desk.new.pass c.enter-desk.result c.requires.ready c.enter-desk.ensures.entered c.leave_client.new.pass c.abort-why.new.self (steps_of c.one.result) (desk.Abort c.in-Some.txn)
    (desk.Aborted c.abort-why.result) (λ calls. calls ≡ (desk.Abort c.in-Some.txn, desk.Aborted c.abort-why.result) ∷ [])
    c.one.ensures (turning.abort_allowed c.args.hall.now c.args.pass.now c.enter-desk.new.pass c.enter-desk.result c.requires.ready c.enter-desk.ensures.entered c.in-Some.txn i) c.abort-why.ensures.step i.client c.leave_client.ensures.left refl)

pub returns-clause-stands : goal.returns-clause-stands
returns-clause-stands g c =
    let i = (turning.is_in c.args.pass.now c.in-Some.txn c.in-Some.is c.requires.inside) in
    abort_stands c.args.hall.now c.args.pass.now c.leave_client.new.pass c.in-Some.txn c.abort-why.result i
    (turning.tells_one c.args.hall.now c.args.pass.now c.enter-desk.new.pass c.enter-desk.result c.requires.ready c.enter-desk.ensures.entered c.leave_client.new.pass c.abort-why.new.self (steps_of c.one.result) (desk.Abort c.in-Some.txn)
    (desk.Aborted c.abort-why.result) (λ calls. calls ≡ (desk.Abort c.in-Some.txn, desk.Aborted c.abort-why.result) ∷ [])
    c.one.ensures (turning.abort_allowed c.args.hall.now c.args.pass.now c.enter-desk.new.pass c.enter-desk.result c.requires.ready c.enter-desk.ensures.entered c.in-Some.txn i) c.abort-why.ensures.step i.client c.leave_client.ensures.left refl)

pub enter-desk-requires-clause-own : goal.enter-desk-requires-clause-own
enter-desk-requires-clause-own g c = c.requires.ready.own

pub enter-desk-requires-clause-idle : goal.enter-desk-requires-clause-idle
enter-desk-requires-clause-idle g c = c.requires.ready.idle

pub leave_client-requires-clause-own : goal.leave_client-requires-clause-own
leave_client-requires-clause-own g c = c.enter-desk.ensures.own

pub leave_client-requires-clause-inside : goal.leave_client-requires-clause-inside
leave_client-requires-clause-inside g c = c.enter-desk.ensures.entered.enters.inside

pub returns-clause-last : goal.returns-clause-last
returns-clause-last g c = c.leave_client.ensures.left.beside.last ∙ c.enter-desk.ensures.entered.beside.last

pub returns-clause-ready : goal.returns-clause-ready
returns-clause-ready g c = turning.ready_after c.args.hall.now c.args.pass.now c.enter-desk.new.pass c.enter-desk.result c.requires.ready c.enter-desk.ensures.entered c.leave_client.new.pass (steps_of c.one.result) c.leave_client.ensures.left
