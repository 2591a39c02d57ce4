use Rattle.std.specs.Prelude.{◌≡◌, take}
use Rattle.std.specs.List.{flat_map}
use Rattle.ob_base.specs.LittleEndian.{with_part}
use Rattle.ob_tables.specs.Version.{version_bytes}
use Rattle.ob_check.specs.Fields.{bucket_place}
use Rattle.ob_check.proofs.spell.put_metas.Given as goal

abbrev pub invariant-loop-u : goal.invariant-loop-u
invariant-loop-u l = l.out ≡ with_part l.initial.out (bucket_place l.p 0) (flat_map version_bytes (take l.u l.metas.versions))
