use Rattle.ob_outcomes.proofs.Adders.{adds_are_counted}
use Rattle.ob_outcomes.proofs.Counted.{lone_counts_up}
use Rattle.ob_outcomes.proofs.lone.lone_counts_up.Goals as goal

pub returns-clause-counts : goal.returns-clause-counts
returns-clause-counts c = lone_counts_up

pub returns-clause-adds : goal.returns-clause-adds
returns-clause-adds c = adds_are_counted
