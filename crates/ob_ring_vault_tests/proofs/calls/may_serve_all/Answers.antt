use Rattle.ob_ring_vault_tests.proofs.CallLaws.{next_taken}
use Rattle.ob_ring_vault_tests.proofs.calls.may_serve_all.Goals as goal

pub loop-request-preserved : goal.loop-request-preserved
loop-request-preserved c = λ rest epoch. c.loop-request.invariant (next_taken c.args.p.now c.loop-request.left c.left_after-left.result c.request-item.result c.args.requests.now
    c.loop-request.request-index c.loop-request-test.true c.request-item.is (c.may_serve.ensures c.if-not-may_serve.false) c.left_after-left.ensures rest) epoch
