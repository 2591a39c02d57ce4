use Rattle.std.proofs.Common.{arith}
use Rattle.ob_ring_vault_tests.proofs.CallLaws.{rising_more}
use Rattle.ob_ring_vault_tests.proofs.calls.are_rising.Goals as goal

pub loop-i-preserved : goal.loop-i-preserved
loop-i-preserved c = rising_more c.args.writes.now c.loop-i.i c.index-writes-i.result c.index-writes-i-in-loop-i.result (omega (arith, c.loop-i.auto.i)) c.loop-i-test.true c.index-writes-i.is c.index-writes-i-in-loop-i.is (c.is_below.ensures c.if-not-is_below.false) c.loop-i.invariant
