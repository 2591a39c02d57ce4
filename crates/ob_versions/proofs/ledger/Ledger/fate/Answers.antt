use Rattle.std.proofs.Common.{◌≡◌, ◌-◌, List, Some, None, sym, ap, ◌∙◌}
use Rattle.std.specs.Option.{option_copied, option_map}
use Rattle.ob_order.specs.Works.{Work, at_ticket, fate_at}
use Rattle.ob_order.proofs.Steps.{at_before, looked_up}
use Rattle.ob_versions.specs.Ledgers.{LedgerModel}
use Rattle.ob_versions.proofs.ledger.Ledger.fate.Goals as goal

pub returns-in-Some : goal.returns-in-Some
returns-in-Some c =
    let t = c.args.t in
    let list = c.deref.result.now in
    let found : Some c.in-Some.work.now ≡ at_ticket list t = ap option_copied (sym c.in-Some.is) ∙ (looked_up list (t - 1) c.get.result c.get.ensures.lookup ∙ sym (at_before list t c.requires)) in
    ap (λ (w : Work). Some w.fate) c.work.view_is
    ∙ (ap (option_map (λ (w : Work). w.fate)) found
    ∙ (ap (λ (ws : List Work). fate_at ws t) c.deref.ensures.value ∙ ap (λ (d : LedgerModel). fate_at d.works t) c.self.view_is))

pub returns-in-None : goal.returns-in-None
returns-in-None c =
    let t = c.args.t in
    let list = c.deref.result.now in
    let found : None ≡ at_ticket list t = ap option_copied (sym c.in-None.is) ∙ (looked_up list (t - 1) c.get.result c.get.ensures.lookup ∙ sym (at_before list t c.requires)) in
    ap (option_map (λ (w : Work). w.fate)) found
    ∙ (ap (λ (ws : List Work). fate_at ws t) c.deref.ensures.value ∙ ap (λ (d : LedgerModel). fate_at d.works t) c.self.view_is)
