use Rattle.std.proofs.Common.{◌≡◌, ◌+◌, ◌++◌, [], ◌∷◌, ap, ◌∙◌, arith}
use Rattle.ob_turn.specs.BellHistory.{latest}
use Rattle.ob_turn.proofs.BellSteps.{latest-snoc}
use Rattle.ob_hall_tests.proofs.bells.raise_to.Goals as goal

pub loop-epoch-preserved : goal.loop-epoch-preserved
loop-epoch-preserved c =
    let inv = c.loop-epoch.invariant in
    let e = c.raise.ensures.raised in
    let seen : c.raise.new.seat.me.0.seen ≡ c.loop-epoch.seat.me.0.seen ++ (c.loop-epoch.epoch + 1) ∷ [] = λ i. (e.knows i).seen in
    let last : latest 0 c.raise.new.seat.me.0.seen ≡ c.loop-epoch.epoch + 1 = ap (latest 0) seen ∙ latest-snoc 0 (c.loop-epoch.epoch + 1) c.loop-epoch.seat.me.0.seen in
    (record { table = e.same.table ∙ inv.0.table; empty = e.same.empty ∙ inv.0.empty }, (λ i. (e.knows i).raises) ∙ inv.1, omega (arith, last), (λ i. (e.knows i).parts) ∙ inv.3)
