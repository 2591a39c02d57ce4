use Rattle.std.proofs.Common.{length, arith, sym, subst, ◌∙◌, ◌<◌}
use Rattle.std.specs.List.{All}
use Rattle.std.proofs.lemmas.Grind.{common_steps}
use Rattle.ob_hall_tests.specs.declared.turns.Added.{Added}
use Rattle.ob_hall_tests.specs.declared.turns.Counter.{Counter}
use Rattle.ob_turn.specs.TurnCalls.{TurnSeat, IsTurnSeat, IsIdle}
use Rattle.ob_hall_tests.proofs.Seats.{IsOne, have_all, all_own, all_one, all_idle, all_left}
use Rattle.ob_hall_tests.proofs.turns.sum_of.Goals as goal

pub work_each-requires-clause-own : goal.work_each-requires-clause-own
work_each-requires-clause-own g c κs within =
    subst (All (λ (s : TurnSeat Counter Added). IsTurnSeat c.in_ok-turn.turn s)) (sym c.as_mut_slice.ensures.value) (all_own c.in_ok-turn.turn _ _ c.in_ok-turn.seats.items c.in_ok-turn.ensures.opened)

pub work_each-requires-clause-idle : goal.work_each-requires-clause-idle
work_each-requires-clause-idle g c κs within =
    subst (All (λ (s : TurnSeat Counter Added). IsIdle s)) (sym c.as_mut_slice.ensures.value) (all_idle c.in_ok-turn.turn _ _ c.in_ok-turn.seats.items c.in_ok-turn.ensures.opened)

pub close-requires-clause-own : goal.close-requires-clause-own
close-requires-clause-own g c =
    all_left (λ (s : TurnSeat Counter Added). IsTurnSeat c.in_ok-turn.turn s) c.in_ok-turn.seats.len c.work_each.new.seats c.in_ok-turn.seats.items c.work_each.ensures.own
    (all_own c.in_ok-turn.turn _ _ c.in_ok-turn.seats.items c.in_ok-turn.ensures.opened)

pub close-requires-clause-idle : goal.close-requires-clause-idle
close-requires-clause-idle g c =
    all_left (λ (s : TurnSeat Counter Added). IsIdle s) c.in_ok-turn.seats.len c.work_each.new.seats c.in_ok-turn.seats.items c.work_each.ensures.idle
    (all_idle c.in_ok-turn.turn _ _ c.in_ok-turn.seats.items c.in_ok-turn.ensures.opened)

pub close-requires-clause-all : goal.close-requires-clause-all
close-requires-clause-all g c =
    let opened = c.in_ok-turn.ensures.opened in
    let old : All IsOne c.in_ok-turn.seats.items = all_one c.in_ok-turn.turn _ _ c.in_ok-turn.seats.items opened in
    let value = c.as_mut_slice.ensures.value in
    let new : All IsOne c.work_each.new.seats = λ k d lt.
    let less : k < length c.as_mut_slice.result.now = omega (arith, lt, c.work_each.ensures.length) in
    c.work_each.ensures.parts k d less ∙ subst (All IsOne) (sym value) old k d less in
    have_all c.in_ok-turn.turn _ (omega (arith, opened.told)) (grind (arith, common_steps, c.work_each.ensures.length, opened.long, opened.told, c.as_mut_slice.ensures.len, value))
    (all_left IsOne c.in_ok-turn.seats.len c.work_each.new.seats c.in_ok-turn.seats.items new old)
