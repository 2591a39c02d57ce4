-- Who has read a version of a ticket: that one's operations write the key.
use Rattle.std.proofs.Common.{◌≡◌, ℕ, zero, suc, ◌<◌, Bool, true, false, if◌then◌else◌, List, [], ◌∷◌, ◌++◌, Option, None, Some, option_map, option_and_then, is_some, slice_get, sym, ap, ◌∙◌, subst, ⊎_elim, arith}
use Rattle.std.proofs.lemmas.Bool.{false≢true}
use Rattle.std.proofs.lemmas.Option.{none-some, same_Some}
use Rattle.ob_order.specs.Works.{Get, Put, Del, Work, is_going, at_ticket, with_op, version, version_in, last_write}
use Rattle.ob_order.specs.Order.{fresh, write_op}
use Rattle.ob_order.specs.Chains.{Sourced}
use Rattle.ob_order.proofs.Edits.{slice_get-push}
use Rattle.ob_order.proofs.Newest.{by_option}
use Rattle.ob_order.proofs.Falls.{ops_at}
use Rattle.ob_order.proofs.Links.{sourced_op}

pub sourced_none : Sourced []
sourced_none = record { at_each = λ u w there. absurd (none-some w there) }

pub sourced_begun : (ws : List Work) → Sourced ws → Sourced (ws ++ fresh ∷ [])
sourced_begun ws h = record {
  at_each = λ u w there i k r s got l. ⊎_elim
      (λ old. let v = h.at_each u w (sym old ∙ there) i k r s got l in (v.0, still s v.0 v.1, v.2))
      (λ last. absurd (none-some _ (ap (λ x. slice_get x.ops i) (same_Some fresh w (sym last.2 ∙ there)) ∙ got)))
      (slice_get-push ws fresh u);
}
  where
    still : (s : ℕ) (v : Work) → at_ticket ws s ≡ Some v → at_ticket (ws ++ fresh ∷ []) s ≡ Some v
    still zero v e = absurd (none-some v e)
    still (suc n) v e = ⊎_elim (λ old. old ∙ e) (λ last. absurd (none-some v (sym last.1 ∙ e))) (slice_get-push ws fresh n)

pub sourced_same_ops : (ws vs : List Work) → Sourced ws → ((t : ℕ) → ops_at vs t ≡ ops_at ws t) → Sourced vs
sourced_same_ops ws vs h same = record {
  at_each = λ u w there i k r s got l.
      let old = found ws vs same (suc u) w there in
      let v = h.at_each u old.0 old.1 i k r s (ap (λ ops. slice_get ops i) old.2 ∙ got) l in
      let new = found vs ws (λ t. sym (same t)) s v.0 v.1 in
      (new.0, new.1, ap (λ ops. is_some (last_write ops k)) new.2 ∙ v.2);
}
  where
    found : (ls bs : List Work) → ((t : ℕ) → ops_at bs t ≡ ops_at ls t) → (t : ℕ) (w : Work) → at_ticket bs t ≡ Some w → (v : Work) × (at_ticket ls t ≡ Some v) × (v.ops ≡ w.ops)
    found ls bs e t w there = by_option (at_ticket ls t)
        (λ none. absurd (none-some w.ops (sym (ap (option_map (λ x. x.ops)) none) ∙ (sym (e t) ∙ ap (option_map (λ x. x.ops)) there))))
        (λ v is. (v, is, same_Some v.ops w.ops (sym (ap (option_map (λ x. x.ops)) is) ∙ (sym (e t) ∙ ap (option_map (λ x. x.ops)) there))))

writer : (ws : List Work) (s k : ℕ) → is_some (version ws s k) ≡ true → (v : Work) × (at_ticket ws s ≡ Some v) × (is_some (last_write v.ops k) ≡ true)
writer ws s k e = by_option (at_ticket ws s)
    (λ none. absurd (false≢true (sym (ap (λ o. is_some (option_and_then (λ w. version_in w k) o)) none) ∙ e)))
    (λ v is. (v, is, by_fate (is_going v.fate) (last_write v.ops k) (sym (ap (λ o. is_some (option_and_then (λ w. version_in w k) o)) is) ∙ e)))
  where
    by_fate : (b : Bool) (a : Option (Option (List ℕ))) → is_some (if b then a else None) ≡ true → is_some a ≡ true
    by_fate true a e = e
    by_fate false a e = absurd (false≢true e)

pub sourced_got : (ws : List Work) (t k : ℕ) (r : Option (List ℕ)) (s : ℕ) → Sourced ws → (0 < s → is_some (version ws s k) ≡ true) → Sourced (with_op ws t (Get k r s))
sourced_got ws t k r s h from = sourced_op ws t (Get k r s) h (λ j x q e l.
    let key : k ≡ j = cc in
    let source : s ≡ q = cc in
    subst (λ a. (v : Work) × (at_ticket ws q ≡ Some v) × (is_some (last_write v.ops a) ≡ true)) key
    (subst (λ a. (v : Work) × (at_ticket ws a ≡ Some v) × (is_some (last_write v.ops k) ≡ true)) source (writer ws s k (from (omega (arith, source, l))))))

pub sourced_wrote : (ws : List Work) (t k : ℕ) (v : Option (List ℕ)) → Sourced ws → Sourced (with_op ws t (write_op k v))
sourced_wrote ws t k None h = sourced_op ws t (Del k) h (λ j r s e. let q : Del k ≡ Get j r s = e in absurd (cc))
sourced_wrote ws t k (Some v) h = sourced_op ws t (Put k v) h (λ j r s e. let q : Put k v ≡ Get j r s = e in absurd (cc))
