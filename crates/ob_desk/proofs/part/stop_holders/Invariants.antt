use Rattle.std.proofs.Common.{◌≡◌, ◌++◌, map, take, drop}
use Rattle.ob_desk.specs.Desk as desks
use Rattle.ob_desk.proofs.part.stop_holders.Given as goal

-- those so far are stopped
abbrev pub invariant-loop-i : goal.invariant-loop-i
invariant-loop-i l = l.holders.items ≡ map (desks.stop_holder l.fault) (take l.i l.fn.holders.items) ++ drop l.i l.fn.holders.items
