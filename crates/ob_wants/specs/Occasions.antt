-- Private: the reads of a bucket on an occasion, from how often its version was read.
use Rattle.std.specs.Prelude.{ℕ, nat_lt, cond, List, []}
use Rattle.ob_base.specs.declared.params.Params.{Params}
use Rattle.ob_schedule.specs.Holes.{Hole, visit_holes, lift_holes}
use Rattle.ob_wants.specs.declared.occasion.Occasion.{Occasion}
use Rattle.ob_wants.specs.declared.occasion.Occasion.TheVariants.{Passed, Lifted}

abbrev pub holes_on : Params → Occasion → ℕ → ℕ → List Hole
holes_on p Passed u n = visit_holes p u n
holes_on p Lifted u n = cond (nat_lt n p.dummies) (lift_holes p u n) []
