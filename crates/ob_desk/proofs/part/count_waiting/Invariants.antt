use Rattle.std.proofs.Common.{◌≡◌, ◌≤◌, take}
use Rattle.std.specs.List.{count_by}
use Rattle.ob_desk.specs.Desk as desks
use Rattle.ob_desk.specs.Parts.{part_of}
use Rattle.ob_desk.proofs.part.count_waiting.Given as goal

-- the tickets so far are counted
abbrev pub invariant-loop-t : goal.invariant-loop-t
invariant-loop-t l = (l.count ≡ count_by (desks.waits (part_of l.part)) (take l.t-index l.part.going.items)) × (l.count ≤ l.t-index)
