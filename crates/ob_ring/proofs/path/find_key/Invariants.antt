use Rattle.std.specs.Prelude.{◌≢◌, ℕ, ◌<◌}
use Rattle.std.specs.declared.option.Option.TheVariants.{Some}
use Rattle.ob_base.specs.Tree.{bucket_of}
use Rattle.ob_tables.specs.Version.{key_at}
use Rattle.ob_tables.specs.Buckets.{version_at}
use Rattle.ob_ring.proofs.path.find_key.Given as goal

abbrev pub invariant-loop-level : goal.invariant-loop-level
invariant-loop-level l = (i j : ℕ) → i < l.level → key_at (version_at l.metas.versions (bucket_of l.p i l.leaf)) j ≢ Some l.key
