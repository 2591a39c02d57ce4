use Rattle.ob_blind.proofs.FormatLaws.{formats_are_alike}
use Rattle.ob_blind.proofs.formats.formats_are_alike.Goals as goal

pub returns : goal.returns
returns c = formats_are_alike
