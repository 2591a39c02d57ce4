use Rattle.ob_stand.proofs.Standing as laws
use Rattle.ob_stand.proofs.contents.tables_obey.Goals as goal

pub returns : goal.returns
returns c = laws.tables_obey
