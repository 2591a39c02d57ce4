use Rattle.std.proofs.Common.{◌≡◌, ◌≤◌, not, take}
use Rattle.std.specs.List.{count_by}
use Rattle.ob_desk.specs.Desk as desks
use Rattle.ob_desk.proofs.roll.count_here.Given as goal

abbrev pub invariant-loop-client : goal.invariant-loop-client
invariant-loop-client l = (l.count ≡ count_by (λ (c : desks.Client). not c.signed_off) (take l.client-index l.clients)) × (l.count ≤ l.client-index)
