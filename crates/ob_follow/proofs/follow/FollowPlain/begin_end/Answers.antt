use Rattle.std.proofs.Common.{◌++◌, ◌∙◌}
use Rattle.std.proofs.lemmas.Result.{on_ok_weaker}
use Rattle.ob_schedule.specs.Wants.{end_wants}
use Rattle.ob_follow.specs.Plain.{follow_of}
use Rattle.ob_wants.specs.Shown.{standing_of}
use Rattle.ob_follow.proofs.Steps.{step_end}
use Rattle.ob_follow.proofs.follow.FollowPlain.begin_end.Goals as goal

pub returns : goal.returns
returns c =
    let p = c.args.self.now.params in
    let s = standing_of c.args.self.now.stands in
    on_ok_weaker c.push_end.result (λ wants none. (λ j. record (follow_of c.args.self.now) {
      holes = c.in_ok-self.ensures j;
      wants = (wants ∙ (λ i. none i ++ end_wants p s c.args.self.now.leaves)) j;
    }) ∙ step_end (follow_of c.args.self.now) c.requires) c.push_end.ensures
