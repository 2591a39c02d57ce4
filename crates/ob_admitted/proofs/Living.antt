-- The fills of a life.
use Rattle.std.specs.Prelude.{◌<◌}
use Rattle.std.proofs.Common.{arith}
use Rattle.ob_base.specs.Repeats.{Has}
use Rattle.ob_base.specs.Tree.{width}
use Rattle.ob_recover.specs.Life.{LifeState, SlotFill, formatted_life, planned_labels, planned_slots, reached}
use Rattle.ob_recover.proofs.FreshLaws.{labels_formatted, slots_formatted}
use Rattle.ob_recover.proofs.LifeLabels.{AreLabelsApart, labels_life, life_planned as label_planned}
use Rattle.ob_recover.proofs.LifeSlots.{AreSlotsSound, slots_life, life_planned as slot_planned}
use Rattle.ob_histories.proofs.Labels.{Leaves, InRange}
use Rattle.ob_histories.proofs.Slots.{filling, fills_by}
use Rattle.ob_admitted.specs.Fills.{LivesHaveFills}
use Rattle.ob_admitted.proofs.Completing.{leaves_of, leaves_within, leaves_are, Apart, complete}
use Rattle.ob_admitted.proofs.Ranges.{planned_low, life_low}

pub lives_are_filled : LivesHaveFills
lives_are_filled p word_of slot acts ranked life =
    let s : LifeState = formatted_life slot in
    let then : LifeState = reached p word_of s acts in
    let some : 0 < p.dummies = (let one = p.in_range.some_dummies in omega (arith, one)) in
    let start : AreSlotsSound p word_of s = slots_formatted p word_of slot some ranked in
    let a : AreLabelsApart p word_of then = labels_life p word_of s acts life (labels_formatted p word_of slot) in
    let b : AreSlotsSound p word_of then = slots_life p word_of some s acts life start in
    let low : (f : SlotFill) → Has (planned_slots p word_of then) f → f.slot < width p = planned_low p word_of then b (life_low p word_of some s acts life start (λ f h. absurd h)) in
    let leaf : Leaves = leaves_of p word_of (planned_labels p word_of then) in
    let within : InRange p leaf = leaves_within p word_of (planned_labels p word_of then) in
    let apart : Apart p leaf within (planned_slots p word_of then) = record { low = low; by_slot = b.slots.by_slot; by_number = b.slots.by_number } in
    let done = complete p leaf within (planned_slots p word_of then) apart in
    record {
      fills = filling p leaf within done.slots;
      are = fills_by p leaf within done.slots done.are;
      shown = record {
        leaves = λ l h. leaves_are p word_of (planned_labels p word_of then) a.by_name l (label_planned p word_of s acts l h);
        slots_are = λ x h. done.filled x (slot_planned p word_of some s acts x life start h);
      };
      planned = record {
        leaves = λ l h. leaves_are p word_of (planned_labels p word_of then) a.by_name l h;
        slots_are = λ x h. done.filled x h;
      };
    }
