use Rattle.std.proofs.Common.{◌≡◌, ◌≤◌, take}
use Rattle.std.specs.List.{count_by}
use Rattle.ob_order.specs.Works as works
use Rattle.ob_desk.proofs.part.count_live.Given as goal

-- the tickets so far are counted
abbrev pub invariant-loop-t : goal.invariant-loop-t
invariant-loop-t l = (l.count ≡ count_by (works.goes_on l.part.order.state.works) (take l.t-index l.part.going.items)) × (l.count ≤ l.t-index)
