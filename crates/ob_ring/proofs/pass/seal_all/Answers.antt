use Rattle.std.proofs.Common.{ℕ, List, arith, ◌∙◌, ap, subst, sym, length, get_or, take, drop}
use Rattle.std.specs.Prelude.{◌≡◌, ◌<◌, ◌+◌, ◌-◌, ◌*◌}
use Rattle.ob_base.specs.Tree.{buckets}
use Rattle.ob_ring.specs.Filling.{base_of, words_of}
use Rattle.ob_ring.specs.Loops.{SealsOne, SealsTo}
use Rattle.ob_ring.proofs.Listed.{listed_within}
use Rattle.ob_ring.proofs.SealLaws.{seals_none, seals_more}
use Rattle.ob_ring.proofs.pass.seal_all.Goals as goal

pub seal_one-requires-clause-whole : goal.seal_one-requires-clause-whole
seal_one-requires-clause-whole c = c.loop-i.invariant.whole

pub seal_one-requires-clause-bucket : goal.seal_one-requires-clause-bucket
seal_one-requires-clause-bucket c = listed_within c.args.p.now c.args.metas.now _ c.loop-i.i c.requires.listed (c.order.ensures ∙ c.loop-i.invariant.order) (omega (arith, c.loop-i-test.true, ap length c.order-i-end.ensures))

pub clear-requires : goal.clear-requires
clear-requires c =
    let within : get_or c.order.result.now c.loop-i.i 0 < buckets c.args.p.now = listed_within c.args.p.now c.args.metas.now _ c.loop-i.i c.requires.listed (c.order.ensures ∙ c.loop-i.invariant.order) (omega (arith, c.loop-i-test.true, ap length c.order-i-end.ensures)) in
    omega (arith, within, c.loop-i.invariant.long, c.requires.index)

pub loop-i-init : goal.loop-i-init
loop-i-init c = seals_none c.args.p.now c.args.metas.now c.args.index.now c.args.words.now c.args.first c.requires.whole

pub loop-i-preserved : goal.loop-i-preserved
loop-i-preserved c =
    let w : ℕ = c.args.p.now.real + c.args.p.now.dummies in
    let many : (c.loop-i.i * w + w) - c.loop-i.i * w ≡ w = omega arith in
    let u : ℕ = get_or c.order.result.now c.loop-i.i 0 in
    let lt : c.loop-i.i < length c.args.metas.now.order = omega (arith, c.loop-i-test.true, ap length c.order-i-end.ensures) in
    let within : u < buckets c.args.p.now = listed_within c.args.p.now c.args.metas.now _ c.loop-i.i c.requires.listed (c.order.ensures ∙ c.loop-i.invariant.order) lt in
    let seals : SealsOne c.args.p.now c.loop-i.metas c.seal_one.new.metas u (words_of c.args.p.now c.args.words.now c.loop-i.i) c.args.first.0 (base_of c.args.p.now c.args.first c.loop-i.i) =
    subst (λ (m : ℕ). SealsOne c.args.p.now c.loop-i.metas c.seal_one.new.metas u (take m (drop (c.loop-i.i * w) c.args.words.now)) c.args.first.0 (base_of c.args.p.now c.args.first c.loop-i.i)) many c.seal_one.ensures in
    subst (λ (counts : List ℕ). SealsTo c.args.p.now c.args.metas.now c.seal_one.new.metas c.args.index.now counts c.args.words.now c.args.first (c.loop-i.i + 1)) (sym c.clear.ensures)
    (seals_more c.args.p.now c.args.metas.now c.loop-i.metas c.seal_one.new.metas c.args.index.now c.loop-i.index c.args.words.now c.args.first c.loop-i.i u c.requires.listed lt (ap (λ xs. get_or xs c.loop-i.i 0) (c.order.ensures ∙ c.loop-i.invariant.order)) c.loop-i.invariant seals
    (omega (arith, within, c.requires.index)))

pub returns : goal.returns
returns c =
    subst (λ (m : ℕ). SealsTo c.args.p.now c.args.metas.now c.loop-i.metas c.args.index.now c.loop-i.index c.args.words.now c.args.first m) (omega (arith, c.loop-i-test.false, c.loop-i.auto.i-end, ap length c.order-i-end.ensures)) c.loop-i.invariant
