use Rattle.ob_check.proofs.BuildLaws.{decode_not, decode_is}
use Rattle.ob_check.specs.Reading.{version_in}
use Rattle.ob_check.proofs.building.read_meta.Goals as goal

pub unreachable-requires : goal.unreachable-requires
unreachable-requires c = decode_not c.args.p.now c.args.bytes.now (version_in c.args.p.now c.args.bytes.now c.args.u) c.args.u _ _ c.bucket_place-at.ensures.place c.meta_len.ensures.len c.requires.spelled c.in-None.ensures

pub returns : goal.returns
returns c = decode_is c.args.p.now c.args.bytes.now (version_in c.args.p.now c.args.bytes.now c.args.u) c.in-Some.meta c.args.u _ _ c.bucket_place-at.ensures.place c.meta_len.ensures.len c.requires.spelled c.in-Some.ensures
