use Rattle.std.proofs.Common.{◌∙◌, drop, arith, length-drop}
use Rattle.std.proofs.lemmas.List.{take_all}
use Rattle.ob_twin.proofs.zero_tag.tag_in.Goals as goal

pub returns : goal.returns
returns c = c.copy_from_slice.ensures.after ∙ take_all 16 (drop 112 c.args.bytes.now) (omega (arith, length-drop 112 c.args.bytes.now))
