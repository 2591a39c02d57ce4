use Rattle.std.proofs.Common.{◌≡◌}
use Rattle.ob_base.specs.Tree.{buckets}
use Rattle.ob_tables.specs.Buckets.{no_version}
use Rattle.ob_check.specs.Reading.{version_in}
use Rattle.ob_check.proofs.BuildLaws.{Filled}
use Rattle.ob_check.proofs.building.read_metas.Given as goal

abbrev pub invariant-loop-u : goal.invariant-loop-u
invariant-loop-u l = record {
  filled : Filled (version_in l.p l.bytes) no_version (buckets l.p) l.u l.metas.versions;
  same : l.metas ≡ record l.initial.metas { versions = l.metas.versions };
}
