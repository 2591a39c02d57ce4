use Rattle.ob_log.proofs.OnceLaws.{record_same}
use Rattle.ob_log.proofs.laws.record_same.Goals as goal

pub returns : goal.returns
returns c = record_same
