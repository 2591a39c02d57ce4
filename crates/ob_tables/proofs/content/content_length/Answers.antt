use Rattle.ob_tables.proofs.TextLaws as laws
use Rattle.ob_tables.proofs.content.content_length.Goals as goal

pub returns : goal.returns
returns c = laws.content_length
