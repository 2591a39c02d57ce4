use Rattle.std.proofs.Common.{Bool, subst}
use Rattle.ob_follow.specs.Plain.{follow_of, Took}
use Rattle.ob_follow.proofs.Slots.{refuses_note}
use Rattle.ob_follow.proofs.follow.FollowPlain.next_note.Goals as goal

pub returns : goal.returns
returns c = refuses_note (follow_of c.args.self.now) (follow_of c.take.new.self) c.args.note c.wanted.result (subst (λ (b : Bool). Took (follow_of c.args.self.now) (follow_of c.take.new.self) c.args.note b) c.if-took.false c.in_ok-took.ensures) c.wanted.ensures
