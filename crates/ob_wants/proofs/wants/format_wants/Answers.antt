use Rattle.std.proofs.Common.{◌++◌, ◌∷◌, [], ◌∙◌}
use Rattle.ob_store.specs.declared.watch.Note.TheVariants.{Sync}
use Rattle.ob_schedule.specs.declared.want.Change.TheVariants.{Formats}
use Rattle.ob_schedule.specs.declared.want.Want.TheVariants.{Fixed}
use Rattle.ob_schedule.specs.Wants.{kept}
use Rattle.ob_wants.proofs.Formats.{wants_made}
use Rattle.ob_wants.proofs.wants.format_wants.Goals as goal

pub returns : goal.returns
returns c =
    let (notes, whole, is) = c.in_ok-push_format.ensures in
    c.in_ok-push.ensures ∙ (λ j. (is ∙ (λ i. c.new-wants.ensures i ++ kept notes)) j ++ Fixed Sync Formats ∷ []) ∙ wants_made c.args.p.now notes whole
