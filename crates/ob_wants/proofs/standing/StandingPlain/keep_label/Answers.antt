use Rattle.std.proofs.Common.{◌∙◌, sym}
use Rattle.ob_wants.specs.Seen.{label_shown}
use Rattle.ob_wants.specs.Shown.{standing_of}
use Rattle.ob_wants.proofs.LabelLaws.{labels_more}
use Rattle.ob_wants.proofs.RowLaws.{label_first}
use Rattle.ob_wants.proofs.standing.StandingPlain.keep_label.Goals as goal

pub returns-in_ok-push-in-None : goal.returns-in_ok-push-in-None
returns-in_ok-push-in-None c =
    let s = standing_of c.args.self.now in
    let none = (λ j. label_shown (sym c.deref.ensures.value j) c.args.batch c.args.place) ∙ sym c.shown_label.ensures ∙ c.in-None.is in
    let labels = (λ j. label_shown (c.in_ok-push-in-None.ensures.items j)) ∙ labels_more c.args.self.now.labels.items c.args.batch c.args.place c.args.leaf none in
    (λ j. record s { labels = labels j }) ∙ label_first s c.args.batch c.args.place c.args.leaf none
