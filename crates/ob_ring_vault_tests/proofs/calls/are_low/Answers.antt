use Rattle.std.proofs.Common.{arith}
use Rattle.ob_ring_vault_tests.proofs.CallLaws.{low_all, low_more}
use Rattle.ob_ring_vault_tests.proofs.calls.are_low.Goals as goal

pub loop-write-preserved : goal.loop-write-preserved
loop-write-preserved c = low_more c.args.keys c.args.writes.now c.loop-write.write-index c.write-item.result c.loop-write-test.true c.write-item.is (omega (arith, c.if-write-keys.false)) c.loop-write.invariant

pub returns : goal.returns
returns c = λ _. low_all c.args.keys c.args.writes.now c.loop-write.write-index (omega (arith, c.loop-write-test.false)) c.loop-write.invariant
