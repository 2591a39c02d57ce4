use Rattle.std.specs.Prelude.{slice_index_or}
use Rattle.std.proofs.Common.{◌∙◌, ap, sym}
use Rattle.ob_wants.specs.Rows.{kept_number}
use Rattle.ob_wants.proofs.RowLaws.{in_row, number_kept}
use Rattle.ob_wants.proofs.standing.StandingPlain.shown_slot.Goals as goal

pub returns-then-kept-eq0 : goal.returns-then-kept-eq0
returns-then-kept-eq0 c =
    let visit = c.args.visit in
    let slots = c.args.self.now.slots.items in
    ap kept_number (sym c.if-kept-eq0.true ∙ c.at_or-kept.ensures ∙ (λ j. slice_index_or (c.deref.ensures.value j) (c.index_of.ensures j) 0) ∙ in_row slots 0 visit.bucket visit.number visit.few)

pub returns-else-kept-eq0 : goal.returns-else-kept-eq0
returns-else-kept-eq0 c =
    let visit = c.args.visit in
    let slots = c.args.self.now.slots.items in
    number_kept c.at_or-kept.result (λ none. c.if-kept-eq0.false none)
    ∙ ap kept_number (c.at_or-kept.ensures ∙ (λ j. slice_index_or (c.deref.ensures.value j) (c.index_of.ensures j) 0) ∙ in_row slots 0 visit.bucket visit.number visit.few)
