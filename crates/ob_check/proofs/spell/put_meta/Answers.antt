use Rattle.std.proofs.Common.{◌∙◌, sym}
use Rattle.ob_tables.specs.Version.{version_bytes}
use Rattle.ob_check.proofs.SpellLaws.{put_is, version_long}
use Rattle.ob_check.proofs.spell.put_meta.Goals as goal

pub returns : goal.returns
returns c = put_is c.args.out.now c.encode.new.out (version_bytes c.args.meta.now) c.args.at c.args.len c.encode.ensures (version_long c.args.meta.now c.requires.marks ∙ sym c.requires.len)
