use Rattle.ob_tables.proofs.SpellingLaws as laws
use Rattle.ob_tables.proofs.meta.spelled_once.Goals as goal

pub returns : goal.returns
returns c = laws.spelled_once
