use Rattle.std.proofs.Common.{◌≡◌}
use Rattle.ob_desk.specs.Desk as desks
use Rattle.ob_desk.specs.Parts.{part_of, KeepsRoom}
use Rattle.ob_desk.proofs.part.end_unasked.Given as goal

-- the tickets so far are closed
abbrev pub invariant-loop-n : goal.invariant-loop-n
invariant-loop-n l = (part_of l.part ≡ desks.close_to (part_of l.fn.part) l.n) × KeepsRoom l.fn.part l.part
