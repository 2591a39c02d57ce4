use Rattle.std.proofs.Common.{rules}
use Rattle.ob_seal.specs.Seals.{tag_of}
use Rattle.ob_seal.proofs.cells.tag_of.Goals as goal

pub returns : goal.returns
unfolding tag_of
returns c = search rules
