use Rattle.std.proofs.Common.{◌≡◌, ◌++◌, map, take, drop}
use Rattle.ob_desk.specs.Desk as desks
use Rattle.ob_desk.specs.Parts.{part_of}
use Rattle.ob_desk.proofs.roll.settle.Given as goal

-- the clients so far have their outcomes
abbrev pub invariant-loop-i : goal.invariant-loop-i
invariant-loop-i l = l.clients.items ≡ map (desks.settle_client (part_of l.part) l.otherwise) (take l.i l.fn.clients.items) ++ drop l.i l.fn.clients.items
