use Rattle.std.proofs.Common.{◌∙◌, length, length-append, refl, ap, arith}
use Rattle.ob_runner.proofs.Makings.{runner_more}
use Rattle.ob_runner.proofs.starting.runners_of.Goals as goal

pub loop-client-preserved : goal.loop-client-preserved
loop-client-preserved c =
    let made = c.in_ok-runner.ensures in
    let more = runner_more c.args.scripts.now c.args.clients.now c.loop-client.client-index _ _ _ _ (omega arith) refl made.client made.bound made.plan made.fits c.push_reserved.ensures.items c.loop-client.invariant.are in
    let longer = ap length c.push_reserved.ensures.items ∙ length-append c.loop-client.runners.items _ in
    let many = c.loop-client.invariant.many in
    let kept = c.push_reserved.ensures.capacity in
    let room = c.loop-client.invariant.room in
    record { are = more; many = omega (arith, longer, many); room = omega (arith, kept, room) }
