-- The rows that are read join those of the stash, and the map's values stay where the table says.
use Rattle.std.specs.Prelude.{◌≡◌, ℕ, ◌<◌, ◌≤◌, ◌==◌, ◌^◌, Bool, true, false, cond, List, [], ◌∷◌, length, Option, ⊤}
use Rattle.std.specs.declared.option.Option.TheVariants.{None, Some}
use Rattle.std.specs.Cmp.{nat_cmp_total, unsigned_tied}
use Rattle.std.specs.FinMap as finite
use Rattle.std.specs.FinMap.{get-insert, get-remove}
use Rattle.std.proofs.Common.{arith, refl, sym, ap, ◌∙◌, inl, inr}
use Rattle.std.proofs.lemmas.Bool.{true≢false, false≢true, cases_Bool, or_cases, or_parts, eqb-true, eq-eqb, ne_eqb}
use Rattle.ob_base.specs.declared.params.Params.{Params}
use Rattle.ob_base.specs.declared.job.Job.{Job}
use Rattle.ob_base.specs.declared.fault.Damaged.{Damaged}
use Rattle.ob_ring.specs.FlatTable.{FlatTable, Row, Spot, InStash, In, spot_of, asks_for}
use Rattle.ob_ring.specs.Picked.{Picked}
use Rattle.ob_ring.specs.Settling.{Rows, row_value, fault_at, job_damage, or_else, first_fault, with_row, rows_after}
use Rattle.ob_stand.specs.Takes.{is_present, spots, is_picked, AreOwn, Takes, KeepsKeys}
use Rattle.ob_tables.specs.Spelling.{slot_bytes}
use Rattle.ob_stand.specs.Values.{Values}
use Rattle.ob_stand.specs.Carries.{Carries, AreRead}
use Rattle.ob_stand.specs.ValueLaws.{Settles}
use Rattle.ob_stand.proofs.Spelling.{value_read, no_fault}
use Rattle.ob_stand.proofs.Taking.{lay_there}

-- an index that is picked with a key holds that key's row, with the map's value
record IsSpelled (slots : ℕ → ℕ → List ℕ) (m : Values) (q : Picked) (k : ℕ) : Type 0 where
  value : List ℕ
  is : m k ≡ Some value
  spelled : slots q.bucket q.index ≡ slot_bytes k value
  short : length value ≤ 64
  low : k < 2 ^ 32

abbrev AreSpelled : (ℕ → ℕ → List ℕ) → Values → List Picked → Type 0
AreSpelled slots m [] = ⊤
AreSpelled slots m (q ∷ qs) = ((k : ℕ) → q.key ≡ Some k → IsSpelled slots m q k) × AreSpelled slots m qs

some_of : (o : Option (List ℕ)) → is_present o ≡ true → (value : List ℕ) × (o ≡ Some value)
some_of None e = absurd (false≢true e)
some_of (Some v) e = (v, refl)

present_at : (t : FlatTable) (k u j : ℕ) → spot_of (t.rows k) ≡ In u j → is_present (t.rows k) ≡ true
present_at t k u j e = at (t.rows k) u j e
  where
    at : (r : Option Row) (u j : ℕ) → spot_of r ≡ In u j → is_present r ≡ true
    at None u j e = absurd (cc)
    at (Some r) u j e = refl

are_spelled : (p : Params) (t : FlatTable) (rows : Rows) (slots : ℕ → ℕ → List ℕ) (m : Values) (qs : List Picked) → Carries p t rows slots m → AreOwn (spots t) qs → AreSpelled slots m qs
are_spelled p t rows slots m [] c own = tt
are_spelled p t rows slots m (q ∷ qs) c own = (
  (λ k e. (let at : spot_of (t.rows k) ≡ In q.bucket q.index = own.0 k e in
      let here : is_present (t.rows k) ≡ true = present_at t k q.bucket q.index at in
      let some : (value : List ℕ) × (m k ≡ Some value) = some_of (m k) (sym (c.keys k) ∙ here) in
      let low : k < p.keys = c.low k here in
      let few : p.keys ≤ 65536 = (p.in_range).few_keys in
      record {
        value = some.0;
        is = some.1;
        spelled = c.placed k q.bucket q.index some.0 at some.1;
        short = c.short k some.0 some.1;
        low = omega arith;
      })),
  are_spelled p t rows slots m qs c own.1,
)

-- ---- one job

key_fault : (slots : ℕ → ℕ → List ℕ) (m : Values) (q : Picked) (cell : ℕ) (o : Option ℕ) → ((k : ℕ) → o ≡ Some k → IsSpelled slots m q k) → fault_at cell o (Some (slots q.bucket q.index)) ≡ None
key_fault slots m q cell None h = refl
key_fault slots m q cell (Some k) h = let s : IsSpelled slots m q k = h k refl in rw s.spelled (no_fault cell k s.value s.low s.short)

job_fault : (slots : ℕ → ℕ → List ℕ) (m : Values) (q : Picked) (j : Job) → ((k : ℕ) → q.key ≡ Some k → IsSpelled slots m q k) → j.key ≡ q.key → j.result ≡ Some (slots q.bucket q.index) → job_damage j ≡ None
job_fault slots m q j h e f = (λ i. fault_at j.cell (e i) (f i)) ∙ key_fault slots m q j.cell q.key h

pub get_insert : (rows : Rows) (a : ℕ) (v : List ℕ) (k : ℕ) → finite.get (finite.insert rows a v) k ≡ cond (k == a) (Some v) (finite.get rows k)
get_insert rows a v k = get-insert nat_cmp_total rows a v k ∙ ap (λ (b : Bool). cond b (Some v) (finite.get rows k)) (unsigned_tied k a)

pub get_remove : (rows : Rows) (a k : ℕ) → finite.get (finite.remove rows a) k ≡ cond (k == a) None (finite.get rows k)
get_remove rows a k = get-remove nat_cmp_total rows a k ∙ ap (λ (b : Bool). cond b None (finite.get rows k)) (unsigned_tied k a)

eqb_turn : (a k : ℕ) (b : Bool) → (a == k) ≡ b → (k == a) ≡ b
eqb_turn a k true e = eq-eqb k a (sym (eqb-true a k e))
eqb_turn a k false e = ne_eqb k a (λ f. true≢false (sym (eq-eqb a k (sym f)) ∙ e))

row_asked : (slots : ℕ → ℕ → List ℕ) (m : Values) (q : Picked) (rows : Rows) (o : Option ℕ) (k : ℕ) → ((a : ℕ) → o ≡ Some a → IsSpelled slots m q a) → asks_for o k ≡ true → finite.get (with_row rows o (Some (slots q.bucket q.index))) k ≡ m k
row_asked slots m q rows None k h e = absurd (false≢true e)
row_asked slots m q rows (Some a) k h e =
    let s : IsSpelled slots m q a = h a refl in
    let same : a ≡ k = eqb-true a k e in
    get_insert rows a (row_value (slots q.bucket q.index)) k
    ∙ ap (λ (b : Bool). cond b (Some (row_value (slots q.bucket q.index))) (finite.get rows k)) (eqb_turn a k true e)
    ∙ ap (λ (x : List ℕ). Some (row_value x)) s.spelled
    ∙ ap (λ (x : List ℕ). Some x) (value_read a s.value)
    ∙ sym s.is
    ∙ ap m same

row_other : (rows : Rows) (o : Option ℕ) (plain : List ℕ) (k : ℕ) → asks_for o k ≡ false → finite.get (with_row rows o (Some plain)) k ≡ finite.get rows k
row_other rows None plain k e = refl
row_other rows (Some a) plain k e = get_insert rows a (row_value plain) k ∙ ap (λ (b : Bool). cond b (Some (row_value plain)) (finite.get rows k)) (eqb_turn a k false e)

-- ---- all jobs

record AreJoined (m : Values) (qs : List Picked) (js : List Job) (rows : Rows) : Type 0 where
  fault : first_fault js ≡ None
  picked : (k : ℕ) → is_picked qs k ≡ true → finite.get (rows_after rows js) k ≡ m k
  others : (k : ℕ) → is_picked qs k ≡ false → finite.get (rows_after rows js) k ≡ finite.get rows k

rows_join : (slots : ℕ → ℕ → List ℕ) (m : Values) (qs : List Picked) (js : List Job) (rows : Rows) → AreSpelled slots m qs → AreRead slots qs js → AreJoined m qs js rows
rows_join slots m [] [] rows s r = record { fault = refl; picked = λ k on. absurd (false≢true on); others = λ k off. refl }
rows_join slots m [] (j ∷ js) rows s r = absurd r
rows_join slots m (q ∷ qs) [] rows s r = absurd r
rows_join slots m (q ∷ qs) (j ∷ js) rows s r =
    let plain : List ℕ = slots q.bucket q.index in
    let rows1 : Rows = with_row rows j.key j.result in
    let made : rows1 ≡ with_row rows q.key (Some plain) = λ i. with_row rows (r.0 i) (r.1 i) in
    let rest : AreJoined m qs js rows1 = rows_join slots m qs js rows1 s.1 r.2 in
    record {
      fault = ap (λ (d : Option Damaged). or_else d (first_fault js)) (job_fault slots m q j s.0 r.0 r.1) ∙ rest.fault;
      picked = λ k on. elim (cases_Bool (is_picked qs k)) [
        | inl more ↦ rest.picked k more
        | inr off ↦ (let here : asks_for q.key k ≡ true = elim (or_cases (asks_for q.key k) (is_picked qs k) on) [ inl e ↦ e | inr e ↦ absurd (true≢false (sym e ∙ off)) ] in
            rest.others k off ∙ ap (λ (x : Rows). finite.get x k) made ∙ row_asked slots m q rows q.key k s.0 here)
      ];
      others = λ k off. (let parts : (asks_for q.key k ≡ false) × (is_picked qs k ≡ false) = or_parts (asks_for q.key k) (is_picked qs k) off in
          rest.others k parts.1 ∙ ap (λ (x : Rows). finite.get x k) made ∙ row_other rows q.key plain k parts.0);
    }

-- what a step takes from the buckets and reads, the stash carries
pub taken_carries : (p : Params) (t t' : FlatTable) (rows : Rows) (slots : ℕ → ℕ → List ℕ) (m : Values) (qs : List Picked) (js : List Job) → Takes (spots t) (spots t') qs → KeepsKeys t t' → Carries p t rows slots m → AreRead slots qs js → Settles p t' rows slots m js
taken_carries p t t' rows slots m qs js takes same c read =
    let all : AreJoined m qs js rows = rows_join slots m qs js rows (are_spelled p t rows slots m qs c takes.own) read in
    record {
      fault = all.fault;
      carries = record {
        low = λ k e. c.low k (sym (same k) ∙ e);
        keys = λ k. same k ∙ c.keys k;
        short = c.short;
        held = λ k e. elim (cases_Bool (is_picked qs k)) [
          | inl on ↦ all.picked k on
          | inr off ↦ all.others k off ∙ c.held k (sym (takes.stays k off) ∙ e)
        ];
        others = λ k u j e. elim (cases_Bool (is_picked qs k)) [
          | inl on ↦ absurd (stash_not (spots t' k) u j e (takes.goes k on))
          | inr off ↦ all.others k off ∙ c.others k u j (sym (takes.stays k off) ∙ e)
        ];
        placed = λ k u j value e v. c.placed k u j value (lay_there (spots t) (spots t') qs k u j takes e) v;
      };
    }
  where
    stash_not : (s : Spot) (u j : ℕ) → s ≡ In u j → s ≡ InStash → ⊥
    stash_not s u j e f = let x : In u j ≡ InStash = sym e ∙ f in absurd (cc)
