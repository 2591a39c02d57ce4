use Rattle.ob_session.specs.Steps.{steps_of}
use Rattle.ob_runner.proofs.Steps.{may_poll_it, poll_in, poll_steps}
use Rattle.ob_runner.specs.RunnerViews.{runner_state}
use Rattle.ob_runner.proofs.runner.ScriptRunner.poll.Goals as goal

pub poll-reply-requires : goal.poll-reply-requires
poll-reply-requires c = may_poll_it (runner_state c.args.self.now) c.args.desk.now c.args.desk.now c.args.txn.now c.requires.may c.args.read.now c.requires.place

pub take_got-stand-requires : goal.take_got-stand-requires
take_got-stand-requires c = poll_in (runner_state c.args.self.now) c.args.desk.now c.args.desk.now c.args.txn.now c.requires.may c.args.read.now c.requires.place

pub returns : goal.returns
returns c = poll_steps (runner_state c.args.self.now) c.args.desk.now c.poll-reply.new.self c.args.txn.now c.requires.may c.args.read.now c.requires.place c.poll-reply.result c.take_got-stand.result (steps_of c.one.result)
    (runner_state c.take_got-stand.new.self) c.poll-reply.ensures.step c.take_got-stand.ensures.stand c.one.ensures c.take_got-stand.ensures.state
