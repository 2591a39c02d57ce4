use Rattle.std.proofs.Common.{◌≡◌, ℕ, arith, subst}
use Rattle.ob_base.proofs.TreeLaws.{Turns, turns_more, turns_all}
use Rattle.ob_base.proofs.tree.reverse.Goals as goal

pub loop-bit-preserved : goal.loop-bit-preserved
loop-bit-preserved c = turns_more c.args.p.now.levels c.loop-bit._bit c.loop-bit.turned c.loop-bit.rest c.args.c c.loop-bit.invariant

pub returns-clause-leaf : goal.returns-clause-leaf
returns-clause-leaf c =
    let done : c.loop-bit._bit ≡ c.args.p.now.levels = omega arith in
    turns_all c.args.p.now.levels c.loop-bit.turned c.loop-bit.rest c.args.c
    (subst (λ (b : ℕ). Turns c.args.p.now.levels b c.loop-bit.turned c.loop-bit.rest c.args.c) done c.loop-bit.invariant)
