use Rattle.std.specs.Prelude.{drop, false}
use Rattle.std.proofs.Common.{◌++◌, ◌∙◌}
use Rattle.std.proofs.lemmas.Result.{on_ok_weaker}
use Rattle.ob_schedule.specs.Wants.{places}
use Rattle.ob_schedule.specs.Follow.{shows_label}
use Rattle.ob_follow.specs.Plain.{follow_of}
use Rattle.ob_follow.proofs.follow.FollowPlain.repeat.Goals as goal

pub returns : goal.returns
returns c =
    let f = follow_of c.args.self.now in
    let put = c.in_ok-push_places.ensures ∙ (λ j. c.pop.ensures j ++ drop 1 (places f.params c.args.batch)) in
    on_ok_weaker c.show_label.result (λ told. told
    ∙ (λ j. shows_label (record f { stands = record f.stands { logged = f.batch; maybe = false }; wants = put j }) c.args.batch 0 c.args.leaf)) c.show_label.ensures
