use Rattle.std.proofs.Common.{ℕ, arith, ◌∙◌, subst, sym, ap}
use Rattle.std.specs.Prelude.{◌<◌, ◌≡◌, length}
use Rattle.ob_base.specs.Tree.{width}
use Rattle.ob_tables.specs.Version.{HasSlots}
use Rattle.ob_tables.specs.Buckets.{version_at}
use Rattle.ob_ring.specs.Picked.{shown_of, job_of}
use Rattle.ob_ring.proofs.PlanLaws.{shown_low, shown_plans}
use Rattle.ob_ring.proofs.reads.show.Goals as goal

pub job_of-requires-clause-index : goal.job_of-requires-clause-index
job_of-requires-clause-index c =
    subst (λ (i : ℕ). i < width c.args.p.now) (sym (c.index_shown-index.ensures ∙ ap (λ v. shown_of v c.args.own) c.get.ensures))
    (shown_low c.args.p.now (version_at c.args.metas.now.versions c.args.bucket) c.args.own (c.requires.whole.slots c.args.bucket c.requires.bucket) c.requires.own)

pub mark_used-requires : goal.mark_used-requires
mark_used-requires c =
    let slots : HasSlots c.args.p.now (version_at c.args.metas.now.versions c.args.bucket) = c.requires.whole.slots c.args.bucket c.requires.bucket in
    let low : shown_of (version_at c.args.metas.now.versions c.args.bucket) c.args.own < width c.args.p.now = shown_low c.args.p.now (version_at c.args.metas.now.versions c.args.bucket) c.args.own slots c.requires.own in
    let at : c.index_shown-index.result ≡ shown_of (version_at c.args.metas.now.versions c.args.bucket) c.args.own = c.index_shown-index.ensures ∙ ap (λ v. shown_of v c.args.own) c.get.ensures in
    let long : length c.get_mut.result.now.used ≡ width c.args.p.now = ap (λ v. length v.used) c.get_mut.ensures.value ∙ slots.used in
    omega arith

pub returns-clause-plans : goal.returns-clause-plans
returns-clause-plans c =
    shown_plans c.args.p.now c.args.metas.now c.args.bucket c.args.own c.args.ask c.args.jobs.now c.push.new.self c.get_mut.result.now c.mark_used.new.self c.index_shown-index.result c.job_of.result
    c.requires.whole c.requires.bucket c.requires.own c.get_mut.ensures.value (c.index_shown-index.ensures ∙ ap (λ v. shown_of v c.args.own) (c.get.ensures ∙ sym c.get_mut.ensures.value)) c.mark_used.ensures
    (c.job_of.ensures ∙ ap (λ k. job_of c.args.p.now c.args.metas.now.versions (record { bucket = c.args.bucket; index = c.index_shown-index.result; key = k })) c.key_shown.ensures) c.push.ensures
