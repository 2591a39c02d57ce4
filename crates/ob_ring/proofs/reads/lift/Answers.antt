use Rattle.std.proofs.Common.{ℕ, List, ◌∙◌, subst, sym, ap, length, take}
use Rattle.std.specs.Prelude.{◌≡◌, ◌<◌, slice_index}
use Rattle.ob_base.specs.Tree.{width}
use Rattle.ob_tables.specs.Version.{Version}
use Rattle.ob_tables.specs.Buckets.{version_at}
use Rattle.ob_ring.specs.Order.{order_of}
use Rattle.ob_ring.specs.Picked.{IsEmptied}
use Rattle.ob_ring.proofs.PlanLaws.{order_low, lifted_plans}
use Rattle.ob_ring.proofs.reads.lift.Goals as goal

pub read_all-requires-clause-indexes : goal.read_all-requires-clause-indexes
read_all-requires-clause-indexes c =
    let v : Version = version_at c.args.metas.now.versions c.args.bucket in
    let is : take c.lift_order-n.result c.lift_order-n.new.out ≡ order_of v.keys v.used = c.lift_order-n.ensures.order ∙ (λ i. order_of ((c.keys.ensures.keys ∙ ap (λ x. x.keys) c.get-meta.ensures) i) ((c.used.ensures.used ∙ ap (λ x. x.used) c.get-meta.ensures) i)) in
    subst (λ (xs : List ℕ). (i : ℕ) → i < length xs → slice_index xs i < width c.args.p.now) (sym is)
    (order_low c.args.p.now v (c.requires.whole.slots c.args.bucket c.requires.bucket))

pub returns-clause-plans : goal.returns-clause-plans
returns-clause-plans c =
    lifted_plans c.args.p.now c.args.metas.now c.lift.new.self c.args.bucket c.get-meta.result.now c.clear_keys.new.meta (take c.lift_order-n.result c.lift_order-n.new.out) c.args.jobs.now c.read_all.new.jobs
    c.requires.whole c.requires.bucket c.get-meta.ensures (c.lift_order-n.ensures.order ∙ (λ i. order_of (c.keys.ensures.keys i) (c.used.ensures.used i)))
    (subst (λ (x : Version). IsEmptied x c.clear_keys.new.meta) c.get_mut.ensures.value c.clear_keys.ensures) c.lift.ensures c.read_all.ensures
