use Rattle.std.proofs.Common.{◌∙◌}
use Rattle.ob_twin.proofs.Tags.{stamped_is}
use Rattle.ob_twin.proofs.keyed.SealerStamper.stamp.Goals as goal

pub returns : goal.returns
returns c = c.stamp.ensures ∙ stamped_is c.args.self.now.keys c.args.cell c.args.plain.now
