use Rattle.ob_script.specs.ScriptViews.{script_of}
use Rattle.ob_runner.proofs.Turns.{client_fits}
use Rattle.ob_runner.proofs.runner.ScriptRunner.new.Goals as goal

pub returns-clause-fits : goal.returns-clause-fits
returns-clause-fits c = client_fits c.args.client c.args.scripts.now.keys c.keys.result (script_of c.copy_by.new.own.items) (script_of c.txns.result.now) c.args.scripts.now.txns
    c.keys.ensures c.in_ok-copy_by.ensures c.txns.ensures.txns c.txns.ensures.sound.below
