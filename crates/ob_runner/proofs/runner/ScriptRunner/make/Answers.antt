use Rattle.std.proofs.Common.{◌<◌, subst}
use Rattle.ob_script.specs.declared.line.Ask.{Ask}
use Rattle.ob_script.specs.Script.{key_of}
use Rattle.ob_runner.specs.RunnerViews.{runner_state}
use Rattle.ob_runner.proofs.Steps.{ask_key, ask_takes, put_completes, del_completes}
use Rattle.ob_runner.proofs.runner.ScriptRunner.make.Goals as goal

pub put-requires-clause-key : goal.put-requires-clause-key
put-requires-clause-key c = subst (λ (a : Ask). key_of a < c.args.self.now.keys) c.in-Put.is
    (ask_key (runner_state c.args.self.now) c.args.desk.now c.args.txn.now c.args.ask.now c.args.at c.args.next c.requires.may c.requires.place c.requires.ask)

pub put-requires-clause-put : goal.put-requires-clause-put
put-requires-clause-put c = put_completes (runner_state c.args.self.now) c.args.ask.now c.args.at c.args.next c.in-Put.key c.in-Put.value c.in-Put.is c.requires.ask

pub del-requires-clause-key : goal.del-requires-clause-key
del-requires-clause-key c = subst (λ (a : Ask). key_of a < c.args.self.now.keys) c.in-Del.is
    (ask_key (runner_state c.args.self.now) c.args.desk.now c.args.txn.now c.args.ask.now c.args.at c.args.next c.requires.may c.requires.place c.requires.ask)

pub del-requires-clause-del : goal.del-requires-clause-del
del-requires-clause-del c = del_completes (runner_state c.args.self.now) c.args.ask.now c.args.at c.args.next c.in-Del.key c.in-Del.is c.requires.ask

pub get-requires-clause-takes : goal.get-requires-clause-takes
get-requires-clause-takes c = ask_takes (runner_state c.args.self.now) c.args.desk.now c.args.txn.now c.args.ask.now c.args.at c.args.next c.requires.may c.requires.place c.requires.ask

pub put-requires-clause-takes : goal.put-requires-clause-takes
put-requires-clause-takes c = ask_takes (runner_state c.args.self.now) c.args.desk.now c.args.txn.now c.args.ask.now c.args.at c.args.next c.requires.may c.requires.place c.requires.ask

pub del-requires-clause-takes : goal.del-requires-clause-takes
del-requires-clause-takes c = ask_takes (runner_state c.args.self.now) c.args.desk.now c.args.txn.now c.args.ask.now c.args.at c.args.next c.requires.may c.requires.place c.requires.ask

pub get-requires-in-Add-clause-takes : goal.get-requires-in-Add-clause-takes
get-requires-in-Add-clause-takes c = ask_takes (runner_state c.args.self.now) c.args.desk.now c.args.txn.now c.args.ask.now c.args.at c.args.next c.requires.may c.requires.place c.requires.ask

pub returns-in-Get : goal.returns-in-Get
returns-in-Get c = c.get.ensures

pub returns-in-Put : goal.returns-in-Put
returns-in-Put c = c.put.ensures

pub returns-in-Del : goal.returns-in-Del
returns-in-Del c = c.del.ensures
