use Rattle.std.proofs.Common.{ℕ, List, take, sym, ap, ◌∙◌, get_or}
use Rattle.std.proofs.lemmas.List.{take_more}
use Rattle.ob_ring.specs.Plain.{without, without_buckets}
use Rattle.ob_ring.proofs.Forgetting.{buckets_more}
use Rattle.ob_ring.proofs.plain.forget_buckets.Goals as goal

pub loop-i-preserved : goal.loop-i-preserved
loop-i-preserved c = (
  c.forget_keys.ensures.low,
  c.forget_keys.ensures.room ∙ c.loop-i.invariant.1,
  c.forget_keys.ensures.rows ∙ (λ i. without (c.loop-i.invariant.2 i) ((c.keys.ensures.keys ∙ ap (λ v. v.keys) c.get.ensures) i))
      ∙ sym (ap (λ (xs : List ℕ). without_buckets c.args.stash.now.rows c.args.metas.now.versions xs) (take_more c.order-order.result.now c.loop-i.i 0 c.loop-i-test.true) ∙ buckets_more c.args.stash.now.rows c.args.metas.now.versions
      (take c.loop-i.i c.order-order.result.now) (get_or c.order-order.result.now c.loop-i.i 0)),
)
