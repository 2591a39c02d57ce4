use Rattle.ob_calls.proofs.Asking.{IsAsking}
use Rattle.ob_calls.proofs.waits.get.Given as goal

abbrev pub invariant-loop : goal.invariant-loop
invariant-loop g l = IsAsking l.fn.hall l.fn.pass l.pass l.txn l.fn.key l.reply
