use Rattle.std.proofs.Common.{refl}
use Rattle.ob_seal.specs.Seals.{stamped}
use Rattle.ob_seal.proofs.sealer.Sealer.stamp.Goals as goal

pub returns : goal.returns
unfolding stamped
returns c = rw (← c.self.view_is, c.with_tag.ensures, c.tag_of.ensures) refl
