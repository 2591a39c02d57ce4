use Rattle.std.proofs.Common.{◌≤◌, ◌∷◌, [], List, length, sym, ap, subst, ◌∙◌, length-append, arith, vec_capacity}
use Rattle.std.specs.Global.{Vec}
use Rattle.ob_lanes.specs.declared.hand.Slot.{Slot}
use Rattle.ob_lanes.proofs.Each.{Each, at_each, each_append}
use Rattle.ob_lanes.proofs.readers.make_parts.Goals as goal

pub loop-preserved : goal.loop-preserved
loop-preserved c =
    let at = c.loop in
    let i = at.invariant in
    let pushed = c.push_reserved.ensures in
    let part = c.in-Ok.part in
    record {
      many = (let was = i.many in let longer = ap length pushed.items ∙ length-append at.parts.items (part ∷ []) in omega (arith, was, longer));
      room = (let was = i.room in let kept = pushed.capacity in omega (arith, was, kept));
      each = subst (λ (ps : List (Vec Slot)). Each (λ p. c.args.room ≤ vec_capacity p) ps) (sym pushed.items) (each_append (λ (p : Vec Slot). c.args.room ≤ vec_capacity p) at.parts.items (part ∷ []) i.each (c.in-Ok.ensures.capacity, tt));
    }

pub returns-clause-each : goal.returns-clause-each
returns-clause-each c = at_each (λ (p : Vec Slot). c.args.room ≤ vec_capacity p) c.loop.parts.items c.loop.invariant.each
