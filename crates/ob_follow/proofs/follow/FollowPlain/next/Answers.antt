use Rattle.std.proofs.Common.{refl}
use Rattle.ob_follow.specs.Plain.{follow_of}
use Rattle.ob_follow.proofs.Slots.{refuses_bad}
use Rattle.ob_follow.proofs.follow.FollowPlain.next.Goals as goal

pub returns-in-Ok : goal.returns-in-Ok
returns-in-Ok c = rw c.in-Start.is c.in-Ok.ensures

pub returns-in-Ok-open : goal.returns-in-Ok-open
returns-in-Ok-open c = rw c.in-Open.is c.in-Ok-open.ensures

pub returns-in-Note : goal.returns-in-Note
returns-in-Note c = rw c.in-Note.is c.next_note.ensures

pub returns-in-Bad : goal.returns-in-Bad
returns-in-Bad c = rw c.in-Bad.is (refl, refuses_bad (follow_of c.args.self.now) c.wanted.result c.wanted.ensures)
