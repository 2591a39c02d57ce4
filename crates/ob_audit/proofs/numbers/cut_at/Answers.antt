use Rattle.std.proofs.Common.{◌∙◌, arith}
use Rattle.ob_audit.proofs.Cuts.{cut_begun, cut_further, cut_nowhere}
use Rattle.ob_audit.proofs.numbers.cut_at.Goals as goal

pub loop-i-init : goal.loop-i-init
loop-i-init c = cut_begun c.args.at c.args.bytes.now

pub loop-i-preserved : goal.loop-i-preserved
loop-i-preserved c = c.loop-i.invariant ∙ cut_further c.args.at c.args.bytes.now c.loop-i.i (omega arith) (λ same. c.if-bytes-i.false same)

pub returns : goal.returns
returns c = cut_nowhere c.args.at c.args.bytes.now c.loop-i.i (omega (arith, c.loop-i-test.false)) c.loop-i.invariant
