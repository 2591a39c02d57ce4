use Rattle.std.proofs.Common.{◌≡◌, map, take}
use Rattle.ob_desk.specs.Desk as desks
use Rattle.ob_desk.proofs.roll.enrol.Given as goal

-- the numbers so far have their clients
abbrev pub invariant-loop-number : goal.invariant-loop-number
invariant-loop-number l = l.clients.items ≡ map desks.new_client (take l.number-index l.numbers)
