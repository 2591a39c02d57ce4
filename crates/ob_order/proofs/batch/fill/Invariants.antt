use Rattle.std.proofs.Common.{◌≡◌, take, length}
use Rattle.ob_order.specs.Order as rules
use Rattle.ob_order.proofs.batch.fill.Given as goal

-- the places so far
abbrev pub invariant-loop-place : goal.invariant-loop-place
invariant-loop-place l = (take l.place l.out ≡ rules.places_of l.place l.queue) × (length l.out ≡ length l.fn.out)
