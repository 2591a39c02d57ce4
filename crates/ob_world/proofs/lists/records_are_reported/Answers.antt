use Rattle.ob_serial.specs.VaultKinds.{kind_of}
use Rattle.ob_world.specs.Courses.{course_of}
use Rattle.ob_world.proofs.Counting.{publishes_are_records}
use Rattle.ob_world.proofs.Telling.{records_are_reported, every_begin}
use Rattle.ob_world.proofs.lists.records_are_reported.Goals as goal

pub returns : goal.returns
returns g c = record { reported = records_are_reported; counted = publishes_are_records; begun = every_begin (course_of (kind_of g.V.Vault)) }
