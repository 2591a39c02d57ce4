use Rattle.std.proofs.Common.{refl, ap, arith, ◌∙◌, List}
use Rattle.ob_base.specs.Tree.{buckets}
use Rattle.ob_tables.specs.Version.{Version}
use Rattle.ob_tables.specs.Buckets.{no_version}
use Rattle.ob_check.specs.Reading.{version_in}
use Rattle.ob_check.proofs.BuildLaws.{filled_none, filled_all, metas_more}
use Rattle.ob_check.proofs.building.read_metas.Goals as goal

pub loop-u-init : goal.loop-u-init
loop-u-init c = record { filled = filled_none (version_in c.args.p.now c.args.bytes.now) no_version (buckets c.args.p.now) c.args.metas.now.versions c.requires.many; same = refl }

pub loop-u-preserved : goal.loop-u-preserved
loop-u-preserved c =
    let more = metas_more (version_in c.args.p.now c.args.bytes.now) (buckets c.args.p.now) c.loop-u.u c.args.metas.now c.loop-u.metas c.set.new.self c.read_meta.result (omega arith) c.read_meta.ensures c.loop-u.invariant.filled c.loop-u.invariant.same c.set.ensures in
    record { filled = more.0; same = more.1 }

pub returns : goal.returns
returns c = c.loop-u.invariant.same
    ∙ ap (λ (vs : List Version). record c.args.metas.now { versions = vs }) (filled_all (version_in c.args.p.now c.args.bytes.now) no_version (buckets c.args.p.now) c.loop-u.u c.loop-u.metas.versions (omega arith) c.loop-u.invariant.filled)
