use Rattle.ob_serial.specs.VaultKinds.{kind_of}
use Rattle.ob_world.specs.Courses.{course_of}
use Rattle.ob_world.proofs.Holding.{headline}
use Rattle.ob_world.proofs.lists.headline.Goals as goal

pub returns : goal.returns
returns g c = record { headline = headline (course_of (kind_of g.V.Vault)) }
