-- What stands, as the law of vaults says it.
use Rattle.std.specs.Prelude.{◌≡◌, ◌≢◌, ◌==◌, ℕ, List, [], ◌∷◌, cond, Option}
use Rattle.std.specs.declared.option.Option.TheVariants.{None, Some}
use Rattle.std.specs.Ordering.{nat_cmp, eq_by_cmp}
use Rattle.std.specs.Cmp.{nat_cmp_total}
use Rattle.std.specs.FinMap as finite
use Rattle.std.specs.FinMap.{get-insert, get-remove}
use Rattle.std.proofs.Common.{refl, sym, ap, ◌∙◌, subst, ⊎_elim}
use Rattle.std.proofs.lemmas.Bool.{cases_eq, eq-eqb, ne_eqb}
use Rattle.ob_tables.proofs.RowLaws.{ties, differs}
use Rattle.ob_stand.specs.Values as taken
use Rattle.ob_stand.specs.Values.{Values, with_write}
use Rattle.ob_serial.specs.Serial.{Map, after_op}
use Rattle.ob_base.specs.Writes.{write_op}
use Rattle.ob_serial.specs.Vaults.{Standing}
use Rattle.ob_stand.specs.Stands.{RingStanding, Stands}
use Rattle.ob_stand.specs.Vaults.{RingStands, WritesAgree}

standing_is : (s : RingStanding) (epoch : ℕ) (m : Values) → s.epoch ≡ epoch → ((k : ℕ) → s.map k ≡ m k) → s ≡ record { epoch = epoch; generation = s.generation; map = m; content = s.content; records = s.records }
standing_is s epoch m e same = λ i. record { epoch = e i; generation = s.generation; map = λ k. same k i; content = s.content; records = s.records }

pub ring_stands : RingStands
ring_stands keys p s image at is stands = record {
  content = s.content;
  records = s.records;
  stands = subst (λ x. Stands keys p x image) (standing_is s at.epoch (λ k. finite.get at.content k) is.epoch is.map) stands;
}

-- ---- writes

ordered_as : (q k : ℕ) → eq_by_cmp nat_cmp q k ≡ (q == k)
ordered_as q k = ⊎_elim
    (λ (same : q ≡ k). ap (λ x. eq_by_cmp nat_cmp q x) (sym same) ∙ ties q ∙ sym (eq-eqb q k same))
    (λ (other : q ≢ k). differs q k other ∙ sym (ne_eqb q k other))
    (cases_eq q k)

one_write : (m : Map nat_cmp) (key : ℕ) (value : Option (List ℕ)) (k : ℕ) → cond (k == key) value (finite.get m k) ≡ finite.get (after_op nat_cmp m (write_op key value)) k
one_write m key None k = ap (λ b. cond b None (finite.get m k)) (sym (ordered_as k key)) ∙ sym (get-remove nat_cmp_total m key k)
one_write m key (Some value) k = ap (λ b. cond b (Some value) (finite.get m k)) (sym (ordered_as k key)) ∙ sym (get-insert nat_cmp_total m key value k)

pub writes_agree : WritesAgree
writes_agree m [] k = refl
writes_agree m (w ∷ ws) k =
    let now : Map nat_cmp = after_op nat_cmp m (write_op w.0.key w.0.value) in
    ap (λ (f : Values). taken.with_entries f ws k) (λ i q. one_write m w.0.key w.0.value q i) ∙ writes_agree now ws k
