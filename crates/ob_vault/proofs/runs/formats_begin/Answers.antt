use Rattle.ob_vault.proofs.Formatted.{formats}
use Rattle.ob_vault.proofs.runs.formats_begin.Goals as goal

pub returns : goal.returns
returns g c = λ keys p drawn new many life. formats p drawn many keys (g.S.Store.disk new) life
