use Rattle.std.proofs.Common.{◌≡◌, None, take}
use Rattle.ob_desk.specs.Desk as desks
use Rattle.ob_desk.proofs.roll.client_in.Given as goal

abbrev pub invariant-loop-client : goal.invariant-loop-client
invariant-loop-client l = desks.client_in (take l.client-index l.clients) l.number ≡ None
