use Rattle.ob_recover.proofs.Pads as pads
use Rattle.ob_recover.proofs.lives.pads_differ.Goals as goal

pub returns : goal.returns
returns c = pads.pads_differ
