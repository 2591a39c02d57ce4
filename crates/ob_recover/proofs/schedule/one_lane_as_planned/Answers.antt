use Rattle.ob_recover.proofs.Dealing as laws
use Rattle.ob_recover.proofs.schedule.one_lane_as_planned.Goals as goal

pub returns : goal.returns
returns c = laws.one_lane_as_planned
