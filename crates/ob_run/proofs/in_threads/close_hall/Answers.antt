use Rattle.std.proofs.Common.{◌∙◌, ◌++◌, All, [], ◌∷◌, length, length-append, sym, ap, subst, arith}
use Rattle.ob_hall.specs.Passes.{IsPassOf, IsOutOfTurn}
use Rattle.ob_hall.specs.Closing.{AreAll, IsWholeHistory}
use Rattle.ob_run.proofs.Listing.{firsts}
use Rattle.ob_run.proofs.in_threads.close_hall.Goals as goal

pub take_apart-requires-clause-passes : goal.take_apart-requires-clause-passes
take_apart-requires-clause-passes g c =
    let none = ap length c.requires.none.1 in
    let pushed = ap length c.push_reserved.ensures.items ∙ length-append c.args.passes.items (c.args.driver ∷ []) in
    let kept = c.push_reserved.ensures.capacity in
    let room = c.requires.room.1 in
    omega (arith, none, pushed, kept, room)

pub close-desk-requires : goal.close-desk-requires
close-desk-requires g c =
    let same = sym (c.take_apart.ensures.passes ∙ ap (λ l. l ++ firsts c.args.clients.items) (c.push_reserved.ensures.items ∙ ap (λ l. l ++ c.args.driver ∷ []) c.requires.none.1)) in
    record { own = subst (All (IsPassOf c.args.hall)) same c.requires.own; idle = subst (All IsOutOfTurn) same c.requires.idle; all = subst (AreAll c.args.hall) same c.requires.all }

pub returns-clause-whole : goal.returns-clause-whole
returns-clause-whole g c =
    let same = c.take_apart.ensures.passes ∙ ap (λ l. l ++ firsts c.args.clients.items) (c.push_reserved.ensures.items ∙ ap (λ l. l ++ c.args.driver ∷ []) c.requires.none.1) in
    (c.close-desk.result, subst (λ l. IsWholeHistory c.args.hall l c.close-desk.result) same c.close-desk.ensures.whole)
