use Rattle.ob_stand.proofs.Plans as laws
use Rattle.ob_stand.proofs.contents.refill_plans.Goals as goal

pub returns : goal.returns
returns c = laws.refill_plans
