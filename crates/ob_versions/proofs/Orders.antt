-- The order over its ledger.
use Rattle.std.proofs.Common.{◌≡◌, ℕ, ◌<◌, true, List, Option, None, Some, option_map, is_some, sym, ap, ◌∙◌, subst, arith}
use Rattle.std.specs.Option.{option_or}
use Rattle.std.specs.FinMap as finite
use Rattle.std.proofs.lemmas.Option.{none-some, same_Some}
use Rattle.ob_order.specs.Works.{Work, version, newest}
use Rattle.ob_order.specs.declared.answers.Version.{Version}
use Rattle.ob_order.specs.Order.{Params, OrderState, answer}
use Rattle.ob_order.specs.OrderModel.{IsKept}
use Rattle.ob_order.proofs.Newest.{by_option, newest_found}
use Rattle.ob_versions.specs.Ledgers.{LedgerModel}

pub kept_ledger : (p : Params) (ws : List Work) (l d : LedgerModel) → l ≡ record d { works = ws } → d.keys ≡ p.keys → IsKept p ws → IsKept p l.works × (l.keys ≡ p.keys)
kept_ledger p ws l d e keys h = subst (λ (q : LedgerModel). IsKept p q.works × (q.keys ≡ p.keys)) (sym e) (h, keys)

-- a source that is a ticket has a version
pub answer_held : (o : OrderState) (t k : ℕ) (v : Version) → answer o t k ≡ Some v → 0 < v.source → is_some (version o.works v.source k) ≡ true
answer_held o t k v e above = by_option (newest o.works t k)
    (λ none. from_base (finite.get o.bases k) (ap (λ n. option_or n (option_map (λ x. let q : Version = record { source = 0; value = x } in q) (finite.get o.bases k))) (sym none) ∙ e))
    (λ w is.
    let same : w ≡ v = same_Some w v (ap (λ n. option_or n (option_map (λ x. let q : Version = record { source = 0; value = x } in q) (finite.get o.bases k))) (sym is) ∙ e) in
    ap is_some (subst (λ (q : Version). version o.works q.source k ≡ Some q.value) same (newest_found o.works t k w is).held))
  where
    from_base : (b : Option (Option (List ℕ))) → option_map (λ x. let q : Version = record { source = 0; value = x } in q) b ≡ Some v → is_some (version o.works v.source k) ≡ true
    from_base None e = absurd (none-some v e)
    from_base (Some x) e = absurd (omega (arith, above, ap (λ (q : Version). q.source) (same_Some _ v e)))
