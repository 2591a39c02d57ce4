-- The newest version and the conflict test, read off a chain.
use Rattle.std.proofs.Common.{◌≡◌, ℕ, zero, suc, ◌<◌, ◌≤◌, Bool, true, false, cond, ◌==◌, nat_le, if◌then◌else◌, List, [], ◌∷◌, ◌++◌, Option, None, Some, option_map, refl, sym, ap, ap₂, ◌∙◌, subst, inl, inr, ◌⊎◌, ⊎_elim, arith, eq-eqb, ne_eqb, le-leb}
use Rattle.std.specs.Option.{option_or}
use Rattle.std.proofs.lemmas.Bool.{cases_eq, cases_lt, lt-leb, false≢true, and_parts, or_cases}
use Rattle.std.proofs.lemmas.Option.{same_Some}
use Rattle.std.proofs.Common.{◌&&◌, length, slice_get, is_some, unwrap_or, option_and_then, eqb-true}
use Rattle.ob_order.specs.Works.{Op, Get, Put, Del, Work, Version, version, version_in, newest, mark, is_going, goes_on, has_get, has_read, greatest, source_of, last_write, write_of, add_op, with_op, at_ticket}
use Rattle.ob_order.proofs.Edits.{at_edit_same, at_edit_other, last_write-push, slice_get-push}
use Rattle.ob_order.proofs.Newest.{with_op_cases, by_option, newest_own}
use Rattle.ob_order.specs.Chains.{Link, link_at, last_link, RisesAbove, IsMark, IsChain, Sourced}

-- above all of these there is none at or below
none_below : (t u : ℕ) (ls : List Link) → RisesAbove t ls → u ≤ t → last_link ls u ≡ None
none_below t u [] h l = refl
none_below t u (x ∷ ls) h l = ap₂ option_or (none_below x.ticket u ls h.1 (omega (arith, h.0))) (ap (λ b. if b then Some x else None) (lt-leb x.ticket u (omega (arith, h.0))))

none_at : (t u : ℕ) (ls : List Link) → RisesAbove t ls → u ≤ t → link_at ls u ≡ None
none_at t u [] h l = refl
none_at t u (x ∷ ls) h l = ap (λ b. cond b (Some x) (link_at ls u)) (ne_eqb x.ticket u (λ e. absurd (omega (arith, h.0)))) ∙ none_at x.ticket u ls h.1 (omega (arith, h.0))

or_assoc : {A : Type 0} (a b c : Option A) → option_or (option_or a b) c ≡ option_or a (option_or b c)
or_assoc None b c = refl
or_assoc (Some x) b c = refl

or_none : {A : Type 0} (o : Option A) → o ≡ option_or o None
or_none None = refl
or_none (Some x) = refl

-- one ticket on: its own link, where there is one, else the last below it
pub last_link-suc : (t n : ℕ) (ls : List Link) → RisesAbove t ls → last_link ls (suc n) ≡ option_or (link_at ls (suc n)) (last_link ls n)
last_link-suc t n [] h = refl
last_link-suc t n (x ∷ ls) h = ⊎_elim
    (λ same.
    ap₂ option_or (none_below x.ticket (suc n) ls h.1 (omega arith)) (ap (λ b. if b then Some x else None) (le-leb x.ticket (suc n) (omega arith)))
    ∙ sym (ap (λ b. option_or (cond b (Some x) (link_at ls (suc n))) (last_link (x ∷ ls) n)) (eq-eqb x.ticket (suc n) same)))
    (λ other.
    let skip : link_at (x ∷ ls) (suc n) ≡ link_at ls (suc n) = ap (λ b. cond b (Some x) (link_at ls (suc n))) (ne_eqb x.ticket (suc n) other) in
    ⊎_elim
    (λ below.
    ap₂ option_or (last_link-suc x.ticket n ls h.1) (ap (λ b. if b then Some x else None) (le-leb x.ticket (suc n) (omega arith) ∙ sym (le-leb x.ticket n (omega arith))))
    ∙ (or_assoc (link_at ls (suc n)) (last_link ls n) (if nat_le x.ticket n then Some x else None)
    ∙ ap (λ o. option_or o (last_link (x ∷ ls) n)) (sym skip)))
    (λ above.
    ap₂ option_or (last_link-suc x.ticket n ls h.1) (ap (λ b. if b then Some x else None) (lt-leb x.ticket (suc n) (omega arith) ∙ sym (lt-leb x.ticket n (omega arith))))
    ∙ (or_assoc (link_at ls (suc n)) (last_link ls n) (if nat_le x.ticket n then Some x else None)
    ∙ ap (λ o. option_or o (last_link (x ∷ ls) n)) (sym skip)))
    (cases_lt x.ticket (suc n)))
    (cases_eq x.ticket (suc n))

abbrev pub version_of : Link → Version
version_of l = record { source = l.ticket; value = l.value }

map-or : {A B : Type 0} (f : A → B) (a b : Option A) → option_map f (option_or a b) ≡ option_or (option_map f a) (option_map f b)
map-or f None b = refl
map-or f (Some x) b = refl

at_ticket_of : (ls : List Link) (t : ℕ) → option_map version_of (link_at ls t) ≡ option_map (λ v. let q : Version = record { source = t; value = v } in q) (option_map (λ l. l.value) (link_at ls t))
at_ticket_of [] t = refl
at_ticket_of (x ∷ ls) t = ⊎_elim
    (λ same. ap (option_map version_of) (here same) ∙ (ap (λ u. Some (let q : Version = record { source = u; value = x.value } in q)) same ∙ sym (ap (λ o. option_map (λ v. let q : Version = record { source = t; value = v } in q) (option_map (λ l. l.value) o)) (here same))))
    (λ other. ap (option_map version_of) (past other) ∙ (at_ticket_of ls t ∙ sym (ap (λ o. option_map (λ v. let q : Version = record { source = t; value = v } in q) (option_map (λ l. l.value) o)) (past other))))
    (cases_eq x.ticket t)
  where
    here : x.ticket ≡ t → link_at (x ∷ ls) t ≡ Some x
    here e = ap (λ b. cond b (Some x) (link_at ls t)) (eq-eqb x.ticket t e)

    past : (x.ticket ≡ t → ⊥) → link_at (x ∷ ls) t ≡ link_at ls t
    past h = ap (λ b. cond b (Some x) (link_at ls t)) (ne_eqb x.ticket t h)

-- the newest version is the last link
pub newest_from_chain : (ws : List Work) (k : ℕ) (ls : List Link) → IsChain ws k ls → (n : ℕ) → newest ws n k ≡ option_map version_of (last_link ls n)
newest_from_chain ws k ls h zero = sym (ap (option_map version_of) (none_below 0 0 ls h.rising (omega arith)))
newest_from_chain ws k ls h (suc n) =
    ap₂ option_or (ap (option_map (λ v. let q : Version = record { source = suc n; value = v } in q)) (sym (h.versions (suc n))) ∙ sym (at_ticket_of ls (suc n))) (newest_from_chain ws k ls h n)
    ∙ (sym (map-or version_of (link_at ls (suc n)) (last_link ls n)) ∙ ap (option_map version_of) (sym (last_link-suc 0 n ls h.rising)))

-- the conflict test by the stored mark is that by the mark, with the same reader
pub conflict_alike : (stored ticket real t : ℕ) → IsMark stored ticket real → ticket ≤ t → ((t < stored) × (real ≡ stored)) ⊎ ((stored ≤ t) × (real ≤ t))
conflict_alike stored ticket real t h l = ⊎_elim
    (λ above. inl (above, omega (arith, h.low, h.high)))
    (λ below. inr (below, omega (arith, h.low, h.high)))
    (cases_lt t stored)

-- ---- the mark of a version that a put sets

-- a get that a test finds
pub any_found : (k s : ℕ) (os : List (Op ℕ)) → has_get os k s ≡ true → (i : ℕ) × (r : Option (List ℕ)) × (slice_get os i ≡ Some (Get k r s))
any_found k s [] e = absurd (false≢true e)
any_found k s (Get j r q ∷ os) e = ⊎_elim
    (λ here. let p = and_parts (k == j) (s == q) here in (0, r, ap₂ (λ (a b : ℕ). Some (Get a r b)) (sym (eqb-true k j p.0)) (sym (eqb-true s q p.1))))
    (λ later. let f = any_found k s os later in (suc f.0, f.1, f.2))
    (or_cases ((k == j) && (s == q)) (has_get os k s) e)
any_found k s (Put j v ∷ os) e = let f = any_found k s os e in (suc f.0, f.1, f.2)
any_found k s (Del j ∷ os) e = let f = any_found k s os e in (suc f.0, f.1, f.2)

greatest_none : (p : ℕ → Bool) (n : ℕ) → ((u : ℕ) → p u ≡ true → ⊥) → greatest p n ≡ 0
greatest_none p zero h = refl
greatest_none p (suc n) h = step (p (suc n)) refl (greatest_none p n h)
  where
    step : (b : Bool) → p (suc n) ≡ b → greatest p n ≡ 0 → (if b then suc n else greatest p n) ≡ 0
    step true e r = absurd (h (suc n) e)
    step false e r = r

-- nobody has read a version of a ticket that goes on and has none
unread : (ws : List Work) (t k : ℕ) → Sourced ws → 0 < t → goes_on ws t ≡ true → version ws t k ≡ None → (u : ℕ) → has_read ws k t u ≡ true → ⊥
unread ws t k h l going none zero e = false≢true e
unread ws t k h l going none (suc u) e = step (slice_get ws u) refl e
  where
    by_fate : (v : Work) → unwrap_or (option_map (λ w. is_going w.fate) (Some v)) false ≡ true → option_and_then (λ w. version_in w k) (Some v) ≡ None → is_some (last_write v.ops k) ≡ true → ⊥
    by_fate v g n some = false≢true (ap is_some (sym (ap (λ b. if b then last_write v.ops k else None) (sym g) ∙ n)) ∙ some)

    step : (o : Option Work) → slice_get ws u ≡ o → unwrap_or (option_map (λ w. has_get w.ops k t) o) false ≡ true → ⊥
    step None is e = false≢true e
    step (Some w) is e =
        let f = any_found k t w.ops e in
        let s = h.at_each u w is f.0 k f.1 t f.2 l in
        by_fate s.0 (ap (λ o. unwrap_or (option_map (λ x. is_going x.fate) o) false) (sym s.1) ∙ going) (ap (option_and_then (λ x. version_in x k)) (sym s.1) ∙ none) s.2

-- so after the test of a put the mark of what the put sets is no reader above t: the code may store 0
pub mark_at_put : (ws : List Work) (n k : ℕ) → Sourced ws → goes_on ws (suc n) ≡ true → mark ws k (source_of (newest ws (suc n) k)) ≤ suc n → mark ws k (suc n) ≤ suc n
mark_at_put ws n k h going test = by_option (version ws (suc n) k)
    (λ none. omega (arith, greatest_none (has_read ws k (suc n)) (length ws) (unread ws (suc n) k h (omega arith) going none)))
    (λ x own. subst (λ q. mark ws k q ≤ suc n) (ap source_of (newest_own ws n k x own)) test)

writes_still : (ws : List Work) (t : ℕ) (o : Op ℕ) (s k : ℕ) → (v : Work) × (at_ticket ws s ≡ Some v) × (is_some (last_write v.ops k) ≡ true) → (v : Work) × (at_ticket (with_op ws t o) s ≡ Some v) × (is_some (last_write v.ops k) ≡ true)
writes_still ws t o s k h = ⊎_elim
    (λ same. (
      add_op o h.0,
      subst (λ q. at_ticket (with_op ws t o) q ≡ Some (add_op o h.0)) (sym same) (at_edit_same (add_op o) ws t ∙ ap (option_map (add_op o)) (subst (λ q. at_ticket ws q ≡ Some h.0) same h.1)),
      ap is_some (last_write-push h.0.ops o k) ∙
          either (write_of o k) (last_write h.0.ops k) h.2,
    ))
    (λ other. (h.0, at_edit_other (add_op o) ws t s other ∙ h.1, h.2))
    (cases_eq s t)
  where
    either : {A : Type 0} (a b : Option A) → is_some b ≡ true → is_some (option_or a b) ≡ true
    either None b e = e
    either (Some x) b e = refl

pub sourced_op : (ws : List Work) (t : ℕ) (o : Op ℕ) → Sourced ws
    → ((k : ℕ) (r : Option (List ℕ)) (s : ℕ) → o ≡ Get k r s → 0 < s → (v : Work) × (at_ticket ws s ≡ Some v) × (is_some (last_write v.ops k) ≡ true)) → Sourced (with_op ws t o)
sourced_op ws t o h new = record {
  at_each = λ u w there i k r s got l. ⊎_elim
      (λ c. writes_still ws t o s k (h.at_each u w c.0 i k r s got l))
      (λ c.
      let v = c.0 in
      let got_there : slice_get (v.ops ++ o ∷ []) i ≡ Some (Get k r s) = ap (λ x. slice_get x.ops i) c.3 ∙ got in
      writes_still ws t o s k (⊎_elim
      (λ old. h.at_each u v c.1 i k r s (sym old ∙ got_there) l)
      (λ last. new k r s (same_Some o (Get k r s) (sym last.2 ∙ got_there)) l)
      (slice_get-push v.ops o i)))
      (with_op_cases ws t o u w there);
}
