use Rattle.std.proofs.Common.{arith, ap, ◌∙◌, List, ℕ}
use Rattle.ob_base.specs.LittleEndian.{with_part}
use Rattle.ob_base.specs.Layout.{meta_len}
use Rattle.ob_tables.specs.Version.{version_bytes}
use Rattle.ob_tables.specs.Buckets.{version_at, no_version}
use Rattle.ob_check.specs.Fields.{bucket_place}
use Rattle.ob_check.proofs.SpellLaws.{items_more, place_at, version_wide}
use Rattle.ob_check.proofs.spell.put_metas.Goals as goal

pub loop-u-preserved : goal.loop-u-preserved
loop-u-preserved c =
    let p = c.args.p.now in
    c.put_meta.ensures ∙ ap (λ (x : List ℕ). with_part x c.bucket_place.result (version_bytes c.get.result.now)) c.loop-u.invariant
    ∙ items_more version_bytes (meta_len p) no_version c.args.out.now (bucket_place p 0) c.args.metas.now.versions c.loop-u.u c.bucket_place.result (version_bytes c.get.result.now) (omega (arith, c.requires.many))
    (λ i lt. version_wide p (version_at c.args.metas.now.versions i) (c.requires.slots i (omega (arith, c.requires.many))))
    (c.bucket_place.ensures.place ∙ place_at p c.loop-u.u) (omega (arith, c.bucket_place.ensures.within, c.requires.long)) (ap version_bytes c.get.ensures)
