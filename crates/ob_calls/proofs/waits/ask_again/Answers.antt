use Rattle.std.proofs.Common.{refl, ◌∙◌, ◌≡◌, [], ◌∷◌}
use Rattle.ob_desk.specs.Desk as desk
use Rattle.ob_desk.specs.Calls.{got_reply}
use Rattle.ob_session.specs.Steps.{steps_of}
use Rattle.ob_hall.proofs.Turning as turning
use Rattle.ob_calls.proofs.Asking.{poll_allowed}
use Rattle.ob_calls.proofs.waits.ask_again.Goals as goal

pub poll-reply-requires : goal.poll-reply-requires
poll-reply-requires g c = poll_allowed c.args.hall.now c.args.pass.now c.enter-desk.new.pass c.enter-desk.result c.requires.ready c.enter-desk.ensures.entered c.args.txn.now c.requires.waiting

pub leave_client-requires-clause-desk : goal.leave_client-requires-clause-desk
leave_client-requires-clause-desk g c = turning.leave_one c.args.hall.now c.args.pass.now c.enter-desk.new.pass c.enter-desk.result c.requires.ready c.enter-desk.ensures.entered c.poll-reply.new.self (steps_of c.got_again.result) (desk.Poll c.args.txn.now)
    (got_reply c.poll-reply.result) c.got_again.ensures (poll_allowed c.args.hall.now c.args.pass.now c.enter-desk.new.pass c.enter-desk.result c.requires.ready c.enter-desk.ensures.entered c.args.txn.now c.requires.waiting) c.poll-reply.ensures.step c.requires.waiting.is.client

pub returns-clause-one_history : goal.returns-clause-one_history
returns-clause-one_history g c =
    turning.tells_one c.args.hall.now c.args.pass.now c.enter-desk.new.pass c.enter-desk.result c.requires.ready c.enter-desk.ensures.entered c.leave_client.new.pass c.poll-reply.new.self (steps_of c.got_again.result) (desk.Poll c.args.txn.now)
    (got_reply c.poll-reply.result) (λ calls. calls ≡ (desk.Poll c.args.txn.now, got_reply c.poll-reply.result) ∷ []) c.got_again.ensures
    (poll_allowed c.args.hall.now c.args.pass.now c.enter-desk.new.pass c.enter-desk.result c.requires.ready c.enter-desk.ensures.entered c.args.txn.now c.requires.waiting) c.poll-reply.ensures.step c.requires.waiting.is.client c.leave_client.ensures.left refl

pub enter-desk-requires-clause-own : goal.enter-desk-requires-clause-own
enter-desk-requires-clause-own g c = c.requires.ready.own

pub enter-desk-requires-clause-idle : goal.enter-desk-requires-clause-idle
enter-desk-requires-clause-idle g c = c.requires.ready.idle

pub leave_client-requires-clause-own : goal.leave_client-requires-clause-own
leave_client-requires-clause-own g c = c.enter-desk.ensures.own

pub leave_client-requires-clause-inside : goal.leave_client-requires-clause-inside
leave_client-requires-clause-inside g c = c.enter-desk.ensures.entered.enters.inside

pub returns-clause-last : goal.returns-clause-last
returns-clause-last g c = c.leave_client.ensures.left.beside.last ∙ c.enter-desk.ensures.entered.beside.last

pub returns-clause-ready : goal.returns-clause-ready
returns-clause-ready g c = turning.ready_after c.args.hall.now c.args.pass.now c.enter-desk.new.pass c.enter-desk.result c.requires.ready c.enter-desk.ensures.entered c.leave_client.new.pass (steps_of c.got_again.result) c.leave_client.ensures.left
