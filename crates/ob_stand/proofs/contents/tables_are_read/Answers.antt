use Rattle.ob_stand.proofs.Reading as laws
use Rattle.ob_stand.proofs.contents.tables_are_read.Goals as goal

pub returns : goal.returns
returns c = laws.tables_are_read
