use Rattle.std.proofs.Common.{◌∷◌, [], ◌++◌, List, ℕ, arith, ap, length, length-append, subst, sym, take, ◌∙◌}
use Rattle.std.proofs.lemmas.List.{take_more}
use Rattle.ob_lanes.specs.declared.hand.Slot.{Slot}
use Rattle.ob_lanes.specs.Windows.{AreOpened, claimed_at}
use Rattle.ob_lanes.proofs.Windows.{opens_more}
use Rattle.ob_lanes.proofs.window.open_cells.Goals as goal

pub loop-i-preserved : goal.loop-i-preserved
loop-i-preserved c =
    let was = c.loop-i.invariant in
    let slot = c.open_slot.result in
    let pushed = c.push_reserved.ensures.items in
    let few = c.requires.few in
    let lt = c.loop-i-test.true in
    let eight = c.told-places in
    let many = was.many in
    let i = c.loop-i.i in
    let places = c.args.places.now in
    let first = c.args.part.now.items in
    let more = opens_more c.args.asked.now c.args.many i places (take i places) c.args.cells.now slot first c.loop-i.part.items was.opened lt c.open_slot.ensures.place c.open_slot.ensures.opened in
    let long = ap length pushed ∙ length-append c.loop-i.part.items (slot ∷ []) in record {
      opened = subst (λ (now : List ℕ). AreOpened c.args.asked.now c.args.many places c.args.cells.now now first c.push_reserved.new.self.items) (sym (take_more places i 0 (omega (arith, few, lt, eight))))
          (subst (λ (items : List Slot). AreOpened c.args.asked.now c.args.many places c.args.cells.now (take i places ++ claimed_at places i ∷ []) first items) (sym pushed) more);
      room = c.push_reserved.ensures.capacity ∙ was.room;
      many = omega (arith, long, many);
    }
