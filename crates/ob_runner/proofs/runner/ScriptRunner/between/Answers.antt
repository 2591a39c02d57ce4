use Rattle.ob_runner.proofs.runner.ScriptRunner.between.Goals as goal

pub returns-then-self-len : goal.returns-then-self-len
returns-then-self-len c = c.begin.ensures

pub returns-else-self-len : goal.returns-else-self-len
returns-else-self-len c = c.sign_off.ensures
