use Rattle.std.proofs.Common.{◌≡◌, ◌==◌, ◌++◌, if◌then◌else◌, map, take, drop}
use Rattle.ob_desk.specs.Desk as desks
use Rattle.ob_desk.proofs.roll.sign_off.Given as goal

-- the clients so far are changed
abbrev pub invariant-loop-i : goal.invariant-loop-i
invariant-loop-i l = l.clients.items ≡ map (λ (c : desks.Client). if c.number == l.number then desks.sign_off_client c else c) (take l.i l.fn.clients.items) ++ drop l.i l.fn.clients.items
