use Rattle.ob_runner.proofs.runner.ScriptRunner.call.Goals as goal

pub returns-in-Between : goal.returns-in-Between
returns-in-Between c = c.between.ensures

pub returns-in-Next : goal.returns-in-Next
returns-in-Next c = c.go_on.ensures

pub returns-in-Waiting : goal.returns-in-Waiting
returns-in-Waiting c = c.poll.ensures

pub returns-in-Adding : goal.returns-in-Adding
returns-in-Adding c = c.add.ensures

pub returns-in-Asked : goal.returns-in-Asked
returns-in-Asked c = c.settle.ensures

pub returns-in-Stopped : goal.returns-in-Stopped
returns-in-Stopped c = c.sign_off.ensures

pub between-requires-clause-place : goal.between-requires-clause-place
between-requires-clause-place c = c.in-Between.is

pub go_on-requires-clause-place : goal.go_on-requires-clause-place
go_on-requires-clause-place c = c.in-Next.is

pub poll-requires-clause-place : goal.poll-requires-clause-place
poll-requires-clause-place c = c.in-Waiting.is

pub add-requires-clause-place : goal.add-requires-clause-place
add-requires-clause-place c = c.in-Adding.is

pub settle-requires-clause-place : goal.settle-requires-clause-place
settle-requires-clause-place c = c.in-Asked.is
