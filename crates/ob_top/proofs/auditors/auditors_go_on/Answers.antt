use Rattle.ob_top.proofs.Auditing.{formats_read, runs_read, runs_read_from}
use Rattle.ob_top.proofs.auditors.auditors_go_on.Goals as goal

pub returns-clause-formats : goal.returns-clause-formats
returns-clause-formats g c = formats_read (λ x. g.S.Store.disk x)

pub returns-clause-runs : goal.returns-clause-runs
returns-clause-runs g c = runs_read (λ x. g.S.Store.disk x)

pub returns-clause-anywhere : goal.returns-clause-anywhere
returns-clause-anywhere g c = runs_read_from (λ x. g.S.Store.disk x)
