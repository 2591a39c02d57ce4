-- An epoch's writes.
use Rattle.std.specs.Prelude.{◌≡◌, ℕ, ◌<◌, ◌≤◌, ◌==◌, Bool, true, false, cond, List, [], ◌∷◌, length, Option}
use Rattle.std.specs.declared.option.Option.TheVariants.{None, Some}
use Rattle.std.specs.FinMap as finite
use Rattle.std.proofs.Common.{refl, sym, ◌∙◌, subst}
use Rattle.std.proofs.lemmas.Bool.{eqb-true}
use Rattle.ob_base.specs.declared.params.Params.{Params}
use Rattle.ob_base.specs.declared.value.Write.{Write}
use Rattle.ob_tables.specs.declared.entry.Entry.{Entry}
use Rattle.ob_ring.specs.FlatTable.{FlatTable, Row, InStash, In, spot_of, written_row, write}
use Rattle.ob_ring.specs.Settling.{Rows}
use Rattle.ob_ring.specs.Writing.{leaf_of_write, with_value}
use Rattle.ob_stand.specs.Takes.{is_present}
use Rattle.ob_tables.specs.Spelling.{slot_bytes}
use Rattle.ob_stand.specs.Values.{Values, with_write}
use Rattle.ob_stand.specs.Carries.{Carries}
use Rattle.ob_stand.specs.ValueLaws.{WritesCarry}
use Rattle.ob_stand.proofs.Carrying.{get_insert, get_remove}

get_value : (rows : Rows) (key : ℕ) (o : Option (List ℕ)) (k : ℕ) → finite.get (with_value rows key o) k ≡ cond (k == key) o (finite.get rows k)
get_value rows key None k = get_remove rows key k
get_value rows key (Some v) k = get_insert rows key v k

written_present : (o : Option (List ℕ)) (own : Entry) → is_present (written_row (leaf_of_write o own)) ≡ is_present o
written_present None own = refl
written_present (Some v) own = refl

written_spot : (o : Option ℕ) → spot_of (written_row o) ≡ InStash
written_spot None = refl
written_spot (Some x) = refl

-- one key's part of `Carries`, before and after a write
record IsCarried (p : Params) (slots : ℕ → ℕ → List ℕ) (k : ℕ) (r : Option Row) (stored value : Option (List ℕ)) : Type 0 where
  low : is_present r ≡ true → k < p.keys
  keys : is_present r ≡ is_present value
  short : (v : List ℕ) → value ≡ Some v → length v ≤ 64
  held : spot_of r ≡ InStash → stored ≡ value
  others : (u j : ℕ) → spot_of r ≡ In u j → stored ≡ None
  placed : (u j : ℕ) (v : List ℕ) → spot_of r ≡ In u j → value ≡ Some v → slots u j ≡ slot_bytes k v

carried : (p : Params) (t : FlatTable) (rows : Rows) (slots : ℕ → ℕ → List ℕ) (m : Values) (k : ℕ) → Carries p t rows slots m → IsCarried p slots k (t.rows k) (finite.get rows k) (m k)
carried p t rows slots m k c = record { low = c.low k; keys = c.keys k; short = c.short k; held = c.held k; others = c.others k; placed = c.placed k }

in_both : (o : Option ℕ) (u j : ℕ) → spot_of (written_row o) ≡ In u j → InStash ≡ In u j
in_both o u j e = sym (written_spot o) ∙ e

write_case : (p : Params) (slots : ℕ → ℕ → List ℕ) (k key : ℕ) (o : Option (List ℕ)) (own : Entry) (r : Option Row) (held value : Option (List ℕ)) (b : Bool) → (k == key) ≡ b → key < p.keys → ((v : List ℕ) → o ≡ Some v → length v ≤ 64) → IsCarried p slots k r
    held value → IsCarried p slots k (cond b (written_row (leaf_of_write o own)) r) (cond b o held) (cond b o value)
write_case p slots k key o own r held value true is low short c = record {
  low = λ e. subst (λ (x : ℕ). x < p.keys) (sym (eqb-true k key is)) low;
  keys = written_present o own;
  short = short;
  held = λ e. refl;
  others = λ u j e. absurd (no_spot u j (in_both (leaf_of_write o own) u j e));
  placed = λ u j v e f. absurd (no_spot u j (in_both (leaf_of_write o own) u j e));
}
  where
    no_spot : (u j : ℕ) → InStash ≡ In u j → ⊥
    no_spot u j e = absurd (cc)
write_case p slots k key o own r held value false is low short c = c

one_write : (p : Params) (t : FlatTable) (w : Write) (own : Entry) (rows : Rows) (slots : ℕ → ℕ → List ℕ) (m : Values) → w.key < p.keys → ((v : List ℕ) → w.value ≡ Some v → length v ≤ 64) → Carries p t rows slots m → Carries p
    (write t w.key (leaf_of_write w.value own)) (with_value rows w.key w.value) slots (with_write m w)
one_write p t w own rows slots m low short c =
    let all : (k : ℕ) → IsCarried p slots k ((write t w.key (leaf_of_write w.value own)).rows k) (finite.get (with_value rows w.key w.value) k) (with_write m w k) = λ k.
    subst (λ (x : Option (List ℕ)). IsCarried p slots k ((write t w.key (leaf_of_write w.value own)).rows k) x (with_write m w k)) (sym (get_value rows w.key w.value k))
    (write_case p slots k w.key w.value own (t.rows k) (finite.get rows k) (m k) (k == w.key) refl low short (carried p t rows slots m k c)) in
    record { low = λ k. (all k).low; keys = λ k. (all k).keys; short = λ k. (all k).short; held = λ k. (all k).held; others = λ k. (all k).others; placed = λ k. (all k).placed }

pub writes_carry : WritesCarry
writes_carry p t [] rows slots m fit c = c
writes_carry p t (w ∷ ws) rows slots m fit c =
    writes_carry p (write t (w.0).key (leaf_of_write (w.0).value w.1)) ws (with_value rows (w.0).key (w.0).value) slots (with_write m w.0) fit.2
    (one_write p t w.0 w.1 rows slots m fit.0 fit.1 c)
