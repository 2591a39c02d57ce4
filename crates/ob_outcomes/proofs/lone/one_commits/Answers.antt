use Rattle.ob_outcomes.proofs.Lasts as lasts
use Rattle.ob_outcomes.proofs.lone.one_commits.Goals as goal

pub returns-clause-last : goal.returns-clause-last
returns-clause-last c = lasts.lone_commits_last

pub returns-clause-one : goal.returns-clause-one
returns-clause-one c = lasts.one_an_epoch
