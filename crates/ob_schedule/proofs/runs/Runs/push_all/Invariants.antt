use Rattle.std.proofs.Common.{◌≡◌, ◌++◌, take}
use Rattle.ob_schedule.proofs.runs.Runs.push_all.Given as goal

abbrev pub invariant-loop-want : goal.invariant-loop-want
invariant-loop-want l = l.self ≡ l.initial.self ++ take l.want-index l.wants
