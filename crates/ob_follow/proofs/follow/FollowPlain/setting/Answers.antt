use Rattle.std.proofs.Common.{◌∙◌, ap}
use Rattle.ob_schedule.specs.declared.want.Side.{Side}
use Rattle.ob_schedule.specs.Wants.{setting}
use Rattle.ob_follow.proofs.follow.FollowPlain.setting.Goals as goal

pub returns : goal.returns
returns c = c.set_wants.ensures c.args.self.now.params ∙ ap (λ (side : Side). setting c.args.self.now.params c.args.register side) c.next_side.ensures
