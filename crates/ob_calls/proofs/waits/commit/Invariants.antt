use Rattle.ob_calls.proofs.Asking.{IsEnding}
use Rattle.ob_calls.proofs.waits.commit.Given as goal

abbrev pub invariant-loop : goal.invariant-loop
invariant-loop g l = IsEnding l.fn.hall l.fn.pass l.pass l.txn
