use Rattle.std.specs.Prelude.{◌==◌, ◌&&◌, ◌+◌, cond, slice_index_or}
use Rattle.std.proofs.Common.{◌∙◌}
use Rattle.std.proofs.lemmas.Result.{on_ok_weaker}
use Rattle.ob_wants.specs.Shown.{standing_of}
use Rattle.ob_wants.specs.Visits.{hole_of_visit}
use Rattle.ob_wants.specs.Rows.{in_rows, kept_number}
use Rattle.ob_wants.proofs.RowLaws.{rows_put, kept_put, slot_first}
use Rattle.ob_wants.proofs.standing.StandingPlain.put_slot.Goals as goal

pub returns : goal.returns
returns c =
    let s = standing_of c.args.self.now in
    let visit = c.args.visit in
    let old = c.args.self.now.slots.items in
    on_ok_weaker c.put_at.result (λ put none.
    (let slots = rows_put old _ 0 (c.args.slot + 1) visit.bucket visit.number visit.few (λ j. put j ∙ (λ k. cond (j == c.index_of-index.ensures k) (c.args.slot + 1) (slice_index_or old j 0))) in
    (λ j. record s {
      used = λ u x. c.in_ok-set_bit.ensures u x j;
      slots = λ h. ((λ i. kept_number (slots i h.bucket h.number)) ∙ kept_put ((visit.bucket == h.bucket) && (visit.number == h.number)) c.args.slot (in_rows old 0 h.bucket h.number)) j;
    }) ∙ slot_first s (hole_of_visit visit) c.args.slot none)) c.put_at.ensures
