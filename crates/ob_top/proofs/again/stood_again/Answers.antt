use Rattle.ob_top.proofs.Meeting.{crashes_stand, formats_stand, runs_stand}
use Rattle.ob_top.proofs.again.stood_again.Goals as goal

pub returns-clause-formats : goal.returns-clause-formats
returns-clause-formats g c = formats_stand g.S.Store.disk (λ x tells leaves. g.met.S.Store.includes_reads x tells leaves)

pub returns-clause-runs : goal.returns-clause-runs
returns-clause-runs g c = runs_stand g.S.Store.disk

pub returns-clause-crashes : goal.returns-clause-crashes
returns-clause-crashes g c = crashes_stand g.S.Store.disk
