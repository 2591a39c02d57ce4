use Rattle.std.proofs.Common.{◌≡◌, ◌∷◌, [], ◌++◌, ◌+◌, List, length, arith, ◌∙◌, ap, sym, subst, length-append}
use Rattle.ob_turn.specs.declared.turn.Slot.{Slot}
use Rattle.ob_turn.specs.declared.turn.Slot.TheVariants.{Rests}
use Rattle.ob_turn.specs.TurnRule.{TurnKept, first_view}
use Rattle.ob_turn.specs.TurnCalls.{TurnSeat}
use Rattle.ob_turn.proofs.Cuts.{opens}
use Rattle.ob_turn.proofs.Opening.{IsMaking, goes_on, done}
use Rattle.ob_turn.proofs.turn_calls.Turn+T+E.seated.Goals as goal
use Rattle.atomic_table.specs.Table.{opening}

slots_are : {A : Type 0} (x : A) (ys zs : List A) → zs ≡ ys ++ x ∷ [] → ys ≡ [] → zs ≡ x ∷ []
slots_are x ys zs e f = e ∙ ap (λ l. l ++ x ∷ []) f

pub new-requires-2 : goal.new-requires-2
new-requires-2 g c =
    let T : Type 0 = g.row.T.Denot in
    let E : Type 0 = g.row.E.Denot in
    let slots : c.push.new.self.items ≡ Rests c.args.value ∷ [] = slots_are (Rests c.args.value) c.new-slots.result.items c.push.new.self.items c.in_ok-push.ensures.items c.new-slots.ensures.items in
    subst (λ (x : T). TurnKept g.T.Stepped.steps x c.args.seats (opening (0 ∷ 0 ∷ []) c.push.new.self.items (first_view x c.args.seats))) (sym c.of.ensures)
    (subst (λ (l : List (Slot T E)). TurnKept g.T.Stepped.steps c.args.value c.args.seats (opening (0 ∷ 0 ∷ []) l (first_view c.args.value c.args.seats))) (sym slots)
    (opens T E g.T.Stepped.steps c.args.value c.args.seats c.requires (omega (arith, c.ranges.seats.fits))))

pub push_reserved-requires : goal.push_reserved-requires
push_reserved-requires g c = let inv = c.loop.invariant in omega (arith, inv.2, inv.3, c.loop-test.true)

pub push_reserved-requires-2 : goal.push_reserved-requires-2
push_reserved-requires-2 g c = let inv = c.loop.invariant in omega (arith, inv.2, inv.3, c.loop-test.false, c.loop.auto.counter-end c.requires)

pub loop-preserved : goal.loop-preserved
loop-preserved g c =
    let T : Type 0 = g.row.T.Denot in
    let E : Type 0 = g.row.E.Denot in
    let inv = c.loop.invariant in
    let e = c.cut-next.ensures in
    let p = c.push_reserved.ensures in
    let items : c.push_reserved.new.self.items ≡ c.loop.places.items ++ c.cut-next.new.seat ∷ [] = p.items in
    let long : length (c.loop.places.items ++ c.cut-next.new.seat ∷ []) ≡ length c.loop.places.items + 1 = length-append c.loop.places.items (c.cut-next.new.seat ∷ []) in
    let made = subst (λ (l : List (TurnSeat T E)). IsMaking c.in-Ok.seat.table_id c.args.value c.args.seats l c.cut-next.result × (length l + 1 ≡ c.loop.counter + 1)) (sym items) (
      goes_on c.in-Ok.seat.table_id c.args.value c.args.seats c.loop.places.items c.loop.last c.cut-next.new.seat c.cut-next.result inv.0 (omega (arith, inv.1, c.loop-test.true)) e.same.0.table e.same.1 e.kept e.given,
      omega (arith, long, inv.1),
    ) in
    (made.0, made.1, omega (arith, p.len, inv.2), omega (arith, p.capacity, inv.3))

pub returns : goal.returns
returns g c =
    let T : Type 0 = g.row.T.Denot in
    let E : Type 0 = g.row.E.Denot in
    let inv = c.loop.invariant in
    let ok = c.in-Ok.ensures.ok in
    let items : c.push_reserved-2.new.self.items ≡ c.loop.places.items ++ c.loop.last ∷ [] = c.push_reserved-2.ensures.items in
    let full : length c.loop.places.items + 1 ≡ c.args.seats = omega (arith, inv.1, c.loop-test.false, c.loop.auto.counter-end c.requires) in record {
      opened = done _ c.in-Ok.seat.table_id c.args.value c.args.seats c.loop.places.items c.push_reserved-2.new.self.items c.loop.last inv.0 full (sym ok.2) (λ i. (ok.5 i).seats) items;
    }
