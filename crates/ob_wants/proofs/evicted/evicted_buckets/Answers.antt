use Rattle.std.proofs.Common.{◌≡◌, ◌+◌, ◌++◌, ℕ, ap, sym, ◌∙◌, arith}
use Rattle.std.specs.List.{flat_map}
use Rattle.ob_base.specs.Tree.{path, reversed, below}
use Rattle.ob_wants.proofs.Lists.{paths_more}
use Rattle.ob_wants.proofs.evicted.evicted_buckets.Goals as goal

pub loop-i-init : goal.loop-i-init
loop-i-init c = c.new-list.ensures.items

pub returns : goal.returns
returns c =
    let p = c.args.p.now in
    let all : c.loop-i.i ≡ p.evictions = omega (arith, c.loop-i-test.false, c.loop-i.auto.i-end) in
    c.loop-i.invariant ∙ ap (λ (n : ℕ). flat_map (λ i. path p (reversed p.levels (c.args.counter + i))) (below n)) all

pub loop-i-preserved : goal.loop-i-preserved
loop-i-preserved c =
    c.in_ok-push_path.ensures
    ∙ (λ j. c.loop-i.invariant j ++ ap (path c.args.p.now) c.leaf_evicted.ensures j)
    ∙ sym (paths_more c.args.p.now c.args.counter c.loop-i.i)
