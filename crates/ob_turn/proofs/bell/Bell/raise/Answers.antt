use Rattle.std.proofs.Common.{arith, ◌∙◌, ◌≡◌, sym}
use Rattle.ob_turn.proofs.BellSteps.{adds}
use Rattle.ob_turn.specs.BellHistory.{latest}
use Rattle.ob_turn.proofs.bell.Bell.raise.Goals as goal

pub fetch_add-requires : goal.fetch_add-requires
fetch_add-requires c =
    let e = c.durable-now.ensures.durable_last_raised in
    let now : latest 0 c.durable-now.new.seat.me.0.seen ≡ c.durable-now.result = sym e.last in
    (e.same.table ∙ c.requires.own.table, omega (arith, c.args.self.now.one.0), adds _ _ _ _ _ _ ((λ i. (e.knows i).raises) ∙ c.requires.conductor) (omega (arith, now, c.ranges.epoch.fits, c.durable-now.type_inv)))
