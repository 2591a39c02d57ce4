use Rattle.std.proofs.Common.{length, arith}
use Rattle.ob_check.proofs.SpellLaws.{zeros_are}
use Rattle.ob_check.proofs.spell.clear.Goals as goal

pub returns : goal.returns
returns c = zeros_are c.loop-byte.out (length c.args.out.now) c.loop-byte.auto.out (λ k h. c.loop-byte.invariant k (omega arith))
