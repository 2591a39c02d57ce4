use Rattle.std.proofs.Common.{◌≡◌, List, get_or, sym, ap, ◌∙◌}
use Rattle.ob_order.specs.Works.{Work}
use Rattle.ob_versions.specs.Ledgers.{LedgerModel}
use Rattle.ob_versions.proofs.Falling.{stopped_here}
use Rattle.ob_versions.proofs.ledger.Ledger.stop_one.Goals as goal

pub returns-then-goes_on_at : goal.returns-then-goes_on_at
returns-then-goes_on_at c = λ w at.
    let before = c.args.self.now in
    let n = c.args.n in
    let list : c.deref.result.now ≡ before.works = c.deref.ensures.value ∙ ap (λ (d : LedgerModel). d.works) c.self.view_is in
    let going = sym (c.goes_on_at.ensures w (at ∙ ap (λ (ws : List Work). get_or ws n w) (sym list))) ∙ c.if-goes_on_at.true in
    c.end.ensures ∙ ap (λ (ws : List Work). let q : LedgerModel = record before { works = ws } in q) (stopped_here before.works n w c.requires at going)
