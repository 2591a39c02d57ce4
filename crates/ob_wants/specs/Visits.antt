-- A read of a bucket's version, as a hole of the public schedule.
use Rattle.ob_schedule.specs.Holes.{Hole}
use Rattle.ob_wants.specs.declared.visit.Visit.{Visit}

abbrev pub hole_of_visit : Visit → Hole
hole_of_visit v = record { bucket = v.bucket; number = v.number }
