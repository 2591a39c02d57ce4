use Rattle.std.proofs.Common.{length-set, subst, sym, take, ◌∙◌, List, ℕ, arith}
use Rattle.std.proofs.lemmas.List.{take_more_set}
use Rattle.ob_lanes.proofs.Windows.{IsDrawing, draws_last, draws_more, draws_none}
use Rattle.ob_lanes.proofs.window.claim_some.Goals as goal

pub loop-i-init : goal.loop-i-init
loop-i-init c = record { drawing = draws_none _ _ _ c.requires.own c.requires.come; long = c.told-places }

pub loop-i-preserved : goal.loop-i-preserved
loop-i-preserved c =
    let drawn = c.in-Some.ensures in
    let few = c.requires.few in
    let lt = c.loop-i-test.true in
    let long = c.loop-i.invariant.long in record {
      drawing = subst (λ (places : List ℕ). IsDrawing c.args.claims.now c.args.round.now c.args.seat.now c.next.new.seat places) (sym (take_more_set c.loop-i.places c.loop-i.i c.in-Some.place (omega (arith, few, lt, long))))
          (draws_more c.args.claims.now c.args.round.now c.args.seat.now c.loop-i.seat c.next.new.seat (take c.loop-i.i c.loop-i.places) c.in-Some.place c.loop-i.invariant.drawing c.requires.start drawn.own drawn.parts drawn.claimed);
      long = length-set c.loop-i.places c.loop-i.i c.in-Some.place ∙ long;
    }

pub returns-in_default-clause-drawn : goal.returns-in_default-clause-drawn
returns-in_default-clause-drawn c =
    let none = c.in_default.ensures in
    draws_last c.args.claims.now c.args.round.now c.args.most c.loop-i.i c.args.seat.now c.loop-i.seat c.next.new.seat (take c.loop-i.i c.loop-i.places) c.loop-i.invariant.drawing c.requires.start c.loop-i-test.true none.own none.parts none.rises none.claimed
