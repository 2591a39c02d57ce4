use Rattle.std.proofs.Common.{◌≡◌, ◌+◌, ◌++◌, ◌∙◌, ℕ, map, ap, sym, append-nil, arith}
use Rattle.ob_base.specs.Tree.{bucket_of, below}
use Rattle.ob_wants.proofs.Lists.{one_behind}
use Rattle.ob_wants.proofs.tree.push_path.Goals as goal

pub loop-level-init : goal.loop-level-init
loop-level-init c = sym (append-nil c.args.list.now.items)

pub returns : goal.returns
returns c =
    let p = c.args.p.now in
    let all : c.loop-level.level ≡ p.levels + 1 = omega (arith, c.loop-level-test.false, c.loop-level.auto.level-end) in
    c.loop-level.invariant ∙ ap (λ (n : ℕ). c.args.list.now.items ++ map (λ level. bucket_of p level c.args.leaf) (below n)) all

pub loop-level-preserved : goal.loop-level-preserved
loop-level-preserved c = one_behind (λ level. bucket_of c.args.p.now level c.args.leaf) _ _ _ _ c.loop-level.level c.loop-level.invariant c.in_ok-push.ensures.items c.bucket_on.ensures
