-- Rows that were read join those of the stash, whatever the slots held, and the planner then carries some map.
use Rattle.std.specs.Prelude.{◌≡◌, ◌≢◌, ℕ, suc, ◌<◌, ◌≤◌, ◌==◌, nat_le, Bool, map, true, false, cond, List, [], ◌∷◌, length, drop, Option, ⊤, if◌then◌else◌}
use Rattle.std.specs.declared.option.Option.TheVariants.{None, Some}
use Rattle.std.specs.FinMap as finite
use Rattle.std.proofs.Common.{arith, refl, sym, ap, ◌∙◌, subst, inl, inr, length-take}
use Rattle.std.proofs.lemmas.Bool.{true≢false, false≢true, cases_Bool, or_cases, or_parts, eqb-true, eq-eqb, ne_eqb}
use Rattle.std.proofs.lemmas.Bool.Decides.{nat_tests}
use Rattle.ob_base.specs.declared.params.Params.{Params}
use Rattle.ob_base.specs.declared.job.Job.{Job}
use Rattle.ob_base.specs.Planned.{job_at}
use Rattle.ob_base.specs.declared.fault.Damaged.{Damaged}
use Rattle.ob_ring.specs.FlatTable.{FlatTable, Row, Spot, InStash, In, spot_of, asks_for}
use Rattle.ob_ring.specs.Picked.{Picked}
use Rattle.ob_ring.specs.Settling.{Rows, row_value, len_field, key_field, row_fault, long_row, other_key, fault_at, job_damage, or_else, first_fault, with_row, rows_after}
use Rattle.ob_stand.specs.Takes.{is_present, spots, is_picked, AreOwn, Takes, KeepsKeys}
use Rattle.ob_stand.specs.Values.{Values}
use Rattle.ob_stand.specs.Carries.{Carries, Slots}
use Rattle.ob_stand.proofs.Carrying.{get_insert}
use Rattle.ob_recover.specs.Repeats.{RowsJoin}

some_not : {X : Type 0} (x : X) → Some x ≡ None → ⊥
some_not x e = absurd (cc)

eqb_turn : (a k : ℕ) (b : Bool) → (a == k) ≡ b → (k == a) ≡ b
eqb_turn a k true e = eq-eqb k a (sym (eqb-true a k e))
eqb_turn a k false e = ne_eqb k a (λ f. true≢false (sym (eq-eqb a k (sym f)) ∙ e))

le_from : (x k : ℕ) → nat_le x k ≡ true → x ≤ k
le_from x k h = grind (arith, nat_tests)

-- ---- one row

module _ (cell a : ℕ) (x : List ℕ) where
  by_len : (b : Bool) → nat_le (len_field x) 64 ≡ b → (if b then None else Some (long_row cell x)) ≡ None → len_field x ≤ 64
  by_len true e f = le_from (len_field x) 64 e
  by_len false e f = absurd (some_not (long_row cell x) f)

  by_key : (b : Bool) → (if b then (if nat_le (len_field x) 64 then None else Some (long_row cell x)) else Some (other_key cell a x)) ≡ None → len_field x ≤ 64
  by_key true f = by_len (nat_le (len_field x) 64) refl f
  by_key false f = absurd (some_not (other_key cell a x) f)

  row_short : row_fault cell a x ≡ None → length (row_value x) ≤ 64
  row_short f = let short : len_field x ≤ 64 = by_key (key_field x == a) f in omega (arith, short, length-take (len_field x) (drop 5 x))

-- a row of the key with at most 64 bytes
pub record HasRow (rows : Rows) (k : ℕ) : Type 0 where
  pub value : List ℕ
  pub is : finite.get rows k ≡ Some value
  pub short : length value ≤ 64

job_row : (rows : Rows) (cell : ℕ) (o : Option ℕ) (x : List ℕ) (k : ℕ) → fault_at cell o (Some x) ≡ None → asks_for o k ≡ true → HasRow (with_row rows o (Some x)) k
job_row rows cell None x k f e = absurd (false≢true e)
job_row rows cell (Some a) x k f e = record {
  value = row_value x;
  is = get_insert rows a (row_value x) k ∙ ap (λ (b : Bool). cond b (Some (row_value x)) (finite.get rows k)) (eqb_turn a k true e);
  short = row_short cell a x f;
}

job_other : (rows : Rows) (o : Option ℕ) (x : List ℕ) (k : ℕ) → asks_for o k ≡ false → finite.get (with_row rows o (Some x)) k ≡ finite.get rows k
job_other rows None x k e = refl
job_other rows (Some a) x k e = get_insert rows a (row_value x) k ∙ ap (λ (b : Bool). cond b (Some (row_value x)) (finite.get rows k)) (eqb_turn a k false e)

-- ---- all of them

-- each job is that of its pick, and was read, whatever it gave
abbrev AreReadSo : List Picked → List Job → Type 0
AreReadSo [] [] = ⊤
AreReadSo (q ∷ qs) (j ∷ js) = (j.key ≡ q.key) × ((plain : List ℕ) × (j.result ≡ Some plain)) × AreReadSo qs js
AreReadSo qs js = ⊥

some_of : (o : Option (List ℕ)) → o ≢ None → (plain : List ℕ) × (o ≡ Some plain)
some_of None h = absurd (h refl)
some_of (Some x) h = (x, refl)

read_so : (qs : List Picked) (js : List Job) → map (λ j. j.key) js ≡ map (λ q. q.key) qs → ((i : ℕ) → i < length js → (job_at js i).result ≢ None) → AreReadSo qs js
read_so [] [] e read = tt
read_so [] (j ∷ js) e read = absurd (cc)
read_so (q ∷ qs) [] e read = absurd (cc)
read_so (q ∷ qs) (j ∷ js) e read =
    let head : j.key ≡ q.key = cc in
    let tail : map (λ (j : Job). j.key) js ≡ map (λ (q : Picked). q.key) qs = cc in
    (head, some_of j.result (read 0 (omega arith)), read_so qs js tail (λ i lt. read (suc i) (omega (arith, lt))))

pub record AreJoined (qs : List Picked) (rows rows' : Rows) : Type 0 where
  pub picked : (k : ℕ) → is_picked qs k ≡ true → HasRow rows' k
  pub others : (k : ℕ) → is_picked qs k ≡ false → finite.get rows' k ≡ finite.get rows k

or_none : (d e : Option Damaged) → or_else d e ≡ None → (d ≡ None) × (e ≡ None)
or_none None e f = (refl, f)
or_none (Some d) e f = absurd (some_not d f)

still : (rows rows' : Rows) (k : ℕ) → finite.get rows' k ≡ finite.get rows k → HasRow rows k → HasRow rows' k
still rows rows' k e h = record { value = h.value; is = e ∙ h.is; short = h.short }

rows_join : (qs : List Picked) (js : List Job) (rows : Rows) → AreReadSo qs js → first_fault js ≡ None → AreJoined qs rows (rows_after rows js)
rows_join [] [] rows r f = record { picked = λ k on. absurd (false≢true on); others = λ k off. refl }
rows_join [] (j ∷ js) rows r f = absurd r
rows_join (q ∷ qs) [] rows r f = absurd r
rows_join (q ∷ qs) (j ∷ js) rows r f =
    let x : List ℕ = r.1.0 in
    let rows1 : Rows = with_row rows j.key j.result in
    let made : rows1 ≡ with_row rows q.key (Some x) = λ i. with_row rows (r.0 i) (r.1.1 i) in
    let faults : (job_damage j ≡ None) × (first_fault js ≡ None) = or_none (job_damage j) (first_fault js) f in
    let sound : fault_at j.cell q.key (Some x) ≡ None = sym (λ i. fault_at j.cell (r.0 i) (r.1.1 i)) ∙ faults.0 in
    let rest : AreJoined qs rows1 (rows_after rows1 js) = rows_join qs js rows1 r.2 faults.1 in
    record {
      picked = λ k on. elim (cases_Bool (is_picked qs k)) [
        | inl more ↦ rest.picked k more
        | inr off ↦ (let here : asks_for q.key k ≡ true = elim (or_cases (asks_for q.key k) (is_picked qs k) on) [ inl e ↦ e | inr e ↦ absurd (true≢false (sym e ∙ off)) ] in
            still (with_row rows q.key (Some x)) (rows_after rows1 js) k (rest.others k off ∙ ap (λ (y : Rows). finite.get y k) made) (job_row rows j.cell q.key x k sound here))
      ];
      others = λ k off. (let parts : (asks_for q.key k ≡ false) × (is_picked qs k ≡ false) = or_parts (asks_for q.key k) (is_picked qs k) off in
          rest.others k parts.1 ∙ ap (λ (y : Rows). finite.get y k) made ∙ job_other rows q.key x k parts.0);
    }

pub joined : (qs : List Picked) (rows rows' : Rows) → RowsJoin qs rows rows' → AreJoined qs rows rows'
joined qs rows rows' join = subst (AreJoined qs rows) (sym join.rows_are) (rows_join qs join.jobs rows (read_so qs join.jobs join.keys join.read) join.faultless)

-- ---- the map that the planner then carries

present_at : (r : Option Row) (u j : ℕ) → spot_of r ≡ In u j → is_present r ≡ true
present_at None u j e = absurd (cc)
present_at (Some r) u j e = refl

-- a key that is picked lies in a bucket
picked_in : (s : ℕ → Spot) (qs : List Picked) (k : ℕ) → AreOwn s qs → is_picked qs k ≡ true → (u : ℕ) × (j : ℕ) × (s k ≡ In u j)
picked_in s [] k own on = absurd (false≢true on)
picked_in s (q ∷ qs) k own on = elim (or_cases (asks_for q.key k) (is_picked qs k) on) [
  | inl here ↦ (q.bucket, q.index, own.0 k (asked q.key k here))
  | inr more ↦ picked_in s qs k own.1 more
]
  where
    asked : (o : Option ℕ) (k : ℕ) → asks_for o k ≡ true → o ≡ Some k
    asked None k e = absurd (false≢true e)
    asked (Some a) k e = ap Some (eqb-true a k e)

stash_not : (s : Spot) (u j : ℕ) → s ≡ In u j → s ≡ InStash → ⊥
stash_not s u j e f = let x : In u j ≡ InStash = sym e ∙ f in absurd (cc)

module _ (p : Params) (t t' : FlatTable) (rows rows' : Rows) (slots : Slots) (m : Values) (qs : List Picked) (takes : Takes (spots t) (spots t') qs) (same : KeepsKeys t t') (c : Carries p t rows slots m) (join : AreJoined qs rows rows') where
  abbrev pub map_then : Values
  map_then k = cond (is_picked qs k) (finite.get rows' k) (m k)

  when : (k : ℕ) (b : Bool) → is_picked qs k ≡ b → map_then k ≡ cond b (finite.get rows' k) (m k)
  when k b e = ap (λ (x : Bool). cond x (finite.get rows' k) (m k)) e

  pub carries_then : Carries p t' rows' slots map_then
  carries_then = record {
    low = λ k e. c.low k (sym (same k) ∙ e);
    keys = λ k. elim (cases_Bool (is_picked qs k)) [
      | inl on ↦ (let at = picked_in (spots t) qs k takes.own on in
          same k ∙ present_at (t.rows k) at.0 at.1 at.2 ∙ sym (ap is_present (when k true on ∙ (join.picked k on).is)))
      | inr off ↦ same k ∙ c.keys k ∙ sym (ap is_present (when k false off))
    ];
    short = λ k value is. elim (cases_Bool (is_picked qs k)) [
      | inl on ↦ (let row = join.picked k on in
          let one : Some value ≡ Some row.value = sym is ∙ when k true on ∙ row.is in
          let two : value ≡ row.value = cc in
          subst (λ (x : List ℕ). length x ≤ 64) (sym two) row.short)
      | inr off ↦ c.short k value (sym (when k false off) ∙ is)
    ];
    held = λ k e. elim (cases_Bool (is_picked qs k)) [
      | inl on ↦ sym (when k true on)
      | inr off ↦ join.others k off ∙ c.held k (sym (takes.stays k off) ∙ e) ∙ sym (when k false off)
    ];
    others = λ k u j e. elim (cases_Bool (is_picked qs k)) [
      | inl on ↦ absurd (stash_not (spots t' k) u j e (takes.goes k on))
      | inr off ↦ join.others k off ∙ c.others k u j (sym (takes.stays k off) ∙ e)
    ];
    placed = λ k u j value e is. elim (cases_Bool (is_picked qs k)) [
      | inl on ↦ absurd (stash_not (spots t' k) u j e (takes.goes k on))
      | inr off ↦ c.placed k u j value (sym (takes.stays k off) ∙ e) (sym (when k false off) ∙ is)
    ];
  }
