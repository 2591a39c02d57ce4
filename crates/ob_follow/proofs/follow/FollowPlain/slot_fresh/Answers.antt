use Rattle.ob_follow.specs.Plain.{follow_of}
use Rattle.ob_wants.specs.Visits.{hole_of_visit}
use Rattle.ob_follow.proofs.Slots.{not_in, none_some}
use Rattle.ob_follow.proofs.follow.FollowPlain.slot_fresh.Goals as goal

pub returns-in-None : goal.returns-in-None
returns-in-None c = λ none. not_in (follow_of c.args.self.now) (hole_of_visit c.args.visit) c.args.cell none (λ slot lt same. none_some slot (c.in-None.ensures.only slot lt same))
