use Rattle.ob_log.proofs.OnceLaws.{records_same}
use Rattle.ob_log.proofs.laws.records_same.Goals as goal

pub returns : goal.returns
returns c = records_same
