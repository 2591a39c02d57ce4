use Rattle.ob_top.proofs.CutRuns.{cuts_lead_on, cuts_read, cuts_read_from}
use Rattle.ob_top.proofs.cuts.cuts_are_read.Goals as goal

pub returns-clause-runs : goal.returns-clause-runs
returns-clause-runs g c = cuts_read (λ x. g.S.Store.disk x)

pub returns-clause-anywhere : goal.returns-clause-anywhere
returns-clause-anywhere g c = cuts_read_from (λ x. g.S.Store.disk x)

pub returns-clause-onward : goal.returns-clause-onward
returns-clause-onward g c = cuts_lead_on (λ x. g.S.Store.disk x)
