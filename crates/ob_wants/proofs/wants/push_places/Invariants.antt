use Rattle.std.specs.Prelude.{◌≡◌, ◌++◌, drop}
use Rattle.ob_schedule.specs.Wants.{places}
use Rattle.ob_wants.proofs.wants.push_places.Given as goal

abbrev pub invariant-loop-place : goal.invariant-loop-place
invariant-loop-place l = l.wants ++ drop l.place (places l.p l.batch) ≡ l.initial.wants ++ drop l.from (places l.p l.batch)
