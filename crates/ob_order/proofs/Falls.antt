-- An abort leaves no transaction that goes on with a source that was aborted.
use Rattle.std.proofs.Common.{◌≡◌, ℕ, zero, suc, ◌<◌, ◌≤◌, Bool, true, false, not, ◌&&◌, if◌then◌else◌, List, [], ◌∷◌, min, length, Option, None, Some, option_map, option_and_then, unwrap_or, slice_get, refl, sym, ap, ◌∙◌, subst, inl, inr, ◌⊎◌, ⊎_elim, arith}
use Rattle.std.proofs.lemmas.Bool.{cases_eq, false≢true}
use Rattle.std.proofs.lemmas.Option.{none-some, same_Some}
use Rattle.ob_order.specs.Works.{wait_for, is_gone, Op, Get, Work, Fate, Going, Ended, Fell, is_going, at_ticket, edit, goes_on, version_in, last_write, end_work, SourcesRise, aborted_since, least_of, source_in, least_source, fall, cascade, aborted}
use Rattle.ob_order.proofs.Edits.{at_edit_same, at_edit_other, slice_get-edit_same, length-edit}
use Rattle.ob_order.proofs.Newest.{Thinned, by_option}

abbrev pub ops_at : List Work → ℕ → Option (List (Op ℕ))
ops_at ws t = option_map (λ w. w.ops) (at_ticket ws t)

-- the same operations, and nobody goes on who didn't
pub record Fallen (ws vs : List Work) : Type 0 where
  pub same_ops : (t : ℕ) → ops_at vs t ≡ ops_at ws t
  pub went_on : (t : ℕ) → goes_on vs t ≡ true → goes_on ws t ≡ true

pub fallen_refl : (ws : List Work) → Fallen ws ws
fallen_refl ws = record { same_ops = λ t. refl; went_on = λ t e. e }

pub fallen_then : (us vs ws : List Work) → Fallen us vs → Fallen vs ws → Fallen us ws
fallen_then us vs ws a b = record { same_ops = λ t. b.same_ops t ∙ a.same_ops t; went_on = λ t e. a.went_on t (b.went_on t e) }

-- a change of one work that keeps its operations and starts nothing
pub fallen_edit : (f : Work → Work) (ws : List Work) (t : ℕ) → ((w : Work) → (f w).ops ≡ w.ops) → ((w : Work) → is_going (f w).fate ≡ true → is_going w.fate ≡ true) → Fallen ws (edit f ws t)
fallen_edit f ws t keeps stops = record { same_ops = same_ops; went_on = went_on }
  where
    ops_kept : (o : Option Work) → option_map (λ w. w.ops) (option_map f o) ≡ option_map (λ w. w.ops) o
    ops_kept None = refl
    ops_kept (Some w) = ap Some (keeps w)

    same_ops : (u : ℕ) → ops_at (edit f ws t) u ≡ ops_at ws u
    same_ops u = ⊎_elim
        (λ same. subst (λ q. ops_at (edit f ws t) q ≡ ops_at ws q) (sym same) (ap (option_map (λ w. w.ops)) (at_edit_same f ws t) ∙ ops_kept (at_ticket ws t)))
        (λ other. ap (option_map (λ w. w.ops)) (at_edit_other f ws t u other))
        (cases_eq u t)

    going_kept : (o : Option Work) → unwrap_or (option_map (λ w. is_going w.fate) (option_map f o)) false ≡ true → unwrap_or (option_map (λ w. is_going w.fate) o) false ≡ true
    going_kept None e = e
    going_kept (Some w) e = stops w e

    went_on : (u : ℕ) → goes_on (edit f ws t) u ≡ true → goes_on ws u ≡ true
    went_on u e = ⊎_elim
        (λ same. subst (λ q. goes_on ws q ≡ true) (sym same) (going_kept (at_ticket ws t) (ap (λ o. unwrap_or (option_map (λ w. is_going w.fate) o) false) (sym (at_edit_same f ws t)) ∙ subst (λ q. goes_on (edit f ws t) q ≡ true) same e)))
        (λ other. ap (λ o. unwrap_or (option_map (λ w. is_going w.fate) o) false) (sym (at_edit_other f ws t u other)) ∙ e)
        (cases_eq u t)

pub fall_keeps : (o : Option ℕ) (w : Work) → (fall o w).ops ≡ w.ops
fall_keeps None w = refl
fall_keeps (Some on) w = refl

pub fall_stops : (o : Option ℕ) (w : Work) → is_going (fall o w).fate ≡ true → is_going w.fate ≡ true
fall_stops None w e = e
fall_stops (Some on) w e = step w.fate e
  where
    step : (f : Fate) → is_going (if is_going f then Fell on else f) ≡ true → is_going f ≡ true
    step Going e = refl
    step Ended e = e
    step (Fell s) e = e

-- who goes on after the fall had no source that was aborted in the call
fall_none : (o : Option ℕ) (w : Work) → is_going (fall o w).fate ≡ true → o ≡ None
fall_none None w e = refl
fall_none (Some on) w e = absurd (step w.fate e)
  where
    step : (f : Fate) → is_going (if is_going f then Fell on else f) ≡ true → ⊥
    step Going e = false≢true e
    step Ended e = false≢true e
    step (Fell s) e = false≢true e

pub fallen_ended : (ws : List Work) (t : ℕ) → Fallen ws (edit end_work ws t)
fallen_ended ws t = fallen_edit end_work ws t (λ w. refl) (λ w e. absurd (false≢true e))

pub fallen_cascade : (before now : List Work) (n : ℕ) → Fallen now (cascade before now n)
fallen_cascade before now zero = fallen_refl now
fallen_cascade before now (suc n) = fallen_then now (cascade before now n) (cascade before now (suc n)) (fallen_cascade before now n)
    (fallen_edit _ (cascade before now n) (suc n) (λ w. fall_keeps (least_source (aborted_since before (cascade before now n)) w.ops) w) (λ w. fall_stops (least_source (aborted_since before (cascade before now n)) w.ops) w))

pub length-cascade : (before now : List Work) (n : ℕ) → length (cascade before now n) ≡ length now
length-cascade before now zero = refl
length-cascade before now (suc n) = length-edit _ (cascade before now n) (suc n) ∙ length-cascade before now n

pub fallen_aborted : (ws : List Work) (t : ℕ) → Fallen ws (aborted ws t)
fallen_aborted ws t = fallen_then ws (edit end_work ws t) (aborted ws t) (fallen_ended ws t) (fallen_cascade ws (edit end_work ws t) (length ws))

pub length-aborted : (ws : List Work) (t : ℕ) → length (aborted ws t) ≡ length ws
length-aborted ws t = length-cascade ws (edit end_work ws t) (length ws) ∙ length-edit end_work ws t

pub thinned_from_fallen : (ws vs : List Work) → Fallen ws vs → Thinned ws vs
thinned_from_fallen ws vs h = record { at_each = λ u k. step k (at_ticket vs u) (at_ticket ws u) (h.same_ops u) (h.went_on u) }
  where
    by_fate : (k : ℕ) (ops : List (Op ℕ)) (b c : Bool) → (b ≡ true → c ≡ true) → ((if b then last_write ops k else None) ≡ (if c then last_write ops k else None)) ⊎ (((if b then last_write ops k else None) ≡ None) × (b ≡ false))
    by_fate k ops true c g = inl (ap (λ x. if x then last_write ops k else None) (sym (g refl)))
    by_fate k ops false c g = inr (refl, refl)

    step : (k : ℕ) (v w : Option Work) → option_map (λ w. w.ops) v ≡ option_map (λ w. w.ops) w → (unwrap_or (option_map (λ w. is_going w.fate) v) false ≡ true → unwrap_or (option_map (λ w. is_going w.fate) w) false ≡ true)
        → (option_and_then (λ w. version_in w k) v ≡ option_and_then (λ w. version_in w k) w) ⊎ ((option_and_then (λ w. version_in w k) v ≡ None) × (unwrap_or (option_map (λ w. is_going w.fate) v) false ≡ false))
    step k None None e g = inl refl
    step k None (Some w) e g = absurd (none-some w.ops e)
    step k (Some v) None e g = absurd (none-some v.ops (sym e))
    step k (Some v) (Some w) e g =
        let ops : v.ops ≡ w.ops = same_Some v.ops w.ops e in
        subst (λ (ops : List (Op ℕ)). ((if is_going v.fate then last_write v.ops k else None) ≡ (if is_going w.fate then last_write ops k else None)) ⊎ (((if is_going v.fate then last_write v.ops k else None) ≡ None) × (is_going v.fate ≡ false))) ops
        (by_fate k v.ops (is_going v.fate) (is_going w.fate) g)

-- who goes on afterwards went on before, with the same operations
pub went_on_before : (ws vs : List Work) → Fallen ws vs → (n : ℕ) (w : Work) → slice_get vs n ≡ Some w → is_going w.fate ≡ true → (v : Work) × (slice_get ws n ≡ Some v) × (is_going v.fate ≡ true) × (v.ops ≡ w.ops)
went_on_before ws vs h n w there going = by_option (slice_get ws n)
    (λ none. absurd (none-some w.ops (sym (ap (option_map (λ x. x.ops)) none) ∙ (sym (h.same_ops (suc n)) ∙ ap (option_map (λ x. x.ops)) there))))
    (λ v is. (
      v,
      is,
      sym (ap (λ o. unwrap_or (option_map (λ x. is_going x.fate) o) false) is) ∙ h.went_on (suc n) (ap (λ o. unwrap_or (option_map (λ x. is_going x.fate) o) false) there ∙ going),
      same_Some v.ops w.ops (sym (ap (option_map (λ x. x.ops)) is) ∙ (sym (h.same_ops (suc n)) ∙ ap (option_map (λ x. x.ops)) there)),
    ))

least_of-none : (a b : Option ℕ) → least_of a b ≡ None → (a ≡ None) × (b ≡ None)
least_of-none None b e = (refl, e)
least_of-none (Some a) None e = absurd (none-some a (sym e))
least_of-none (Some a) (Some b) e = absurd (none-some (min a b) (sym e))

source_in-none : (p : ℕ → Bool) (s : ℕ) → (if p s then Some s else None) ≡ None → p s ≡ false
source_in-none p s e = step (p s) e
  where
    step : (b : Bool) → (if b then Some s else None) ≡ None → b ≡ false
    step true e = absurd (none-some s (sym e))
    step false e = refl

-- where no source passes, none of the Gets has one that does
pub least_source-none : (p : ℕ → Bool) (os : List (Op ℕ)) → least_source p os ≡ None → (i k : ℕ) (r : Option (List ℕ)) (s : ℕ) → slice_get os i ≡ Some (Get k r s) → p s ≡ false
least_source-none p [] e i k r s got = absurd (none-some _ got)
least_source-none p (o ∷ os) e zero k r s got = source_in-none p s (ap (source_in p) (sym (same_Some o (Get k r s) got)) ∙ (least_of-none _ _ e).0)
least_source-none p (o ∷ os) e (suc i) k r s got = least_source-none p os (least_of-none _ _ e).1 i k r s got

-- the first n tickets that go on have no source that was aborted since
pub record Unbroken (before now : List Work) (n : ℕ) : Type 0 where
  pub at_each : (u : ℕ) (w : Work) → u < n → slice_get now u ≡ Some w → is_going w.fate ≡ true → (i k : ℕ) (r : Option (List ℕ)) (s : ℕ) → slice_get w.ops i ≡ Some (Get k r s) → aborted_since before now s ≡ false

pub unbroken_cascade : (before now : List Work) (n : ℕ) → SourcesRise before → Fallen before now → Unbroken before (cascade before now n) n
unbroken_cascade before now zero low fallen = record { at_each = λ u w l. absurd (omega arith) }
unbroken_cascade before now (suc n) low fallen =
    let mid = cascade before now n in
    let f : Work → Work = λ w. fall (least_source (aborted_since before mid) w.ops) w in
    let after = edit f mid (suc n) in
    let all : Fallen before after = fallen_then before now after fallen (fallen_cascade before now (suc n)) in
    let inner = unbroken_cascade before now n low fallen in
    record {
      at_each = λ u w l there going i k r s got.
          let b = went_on_before before after all u w there going in
          let bound : s ≤ suc u = low.at_each u b.0 b.1 b.2 i k r s (subst (λ (ops : List (Op ℕ)). slice_get ops i ≡ Some (Get k r s)) (sym b.3) got) in
          let moved : (s ≡ suc n → ⊥) → aborted_since before mid s ≡ false → aborted_since before after s ≡ false = λ other e. ap (λ o. goes_on before s && not (unwrap_or (option_map (λ x. is_going x.fate) o) false)) (at_edit_other f mid (suc n) s other) ∙ e in
          ⊎_elim
          (λ here.
          let there_n : slice_get after n ≡ Some w = subst (λ q. slice_get after q ≡ Some w) here there in
          by_option (slice_get mid n)
          (λ none. absurd (none-some w (sym (ap (option_map f) none) ∙ (sym (slice_get-edit_same f mid n) ∙ there_n))))
          (λ v is.
          let made : f v ≡ w = same_Some (f v) w (sym (ap (option_map f) is) ∙ (sym (slice_get-edit_same f mid n) ∙ there_n)) in
          let o = least_source (aborted_since before mid) v.ops in
          let none : o ≡ None = fall_none o v (ap (λ x. is_going x.fate) made ∙ going) in
          let ops : v.ops ≡ w.ops = sym (fall_keeps o v) ∙ ap (λ x. x.ops) made in
          let was : aborted_since before mid s ≡ false = least_source-none (aborted_since before mid) v.ops none i k r s (ap (λ x. slice_get x i) ops ∙ got) in
          ⊎_elim
          (λ own. ap (λ g. goes_on before s && not g) (subst (λ q. goes_on after q ≡ true) (sym own) (ap (λ x. unwrap_or (option_map (λ y. is_going y.fate) x) false) there_n ∙ going)) ∙ and_false (goes_on before s))
          (λ other. moved other was)
          (cases_eq s (suc n))))
          (λ other.
          let there_mid : slice_get mid u ≡ Some w = sym (at_edit_other f mid (suc n) (suc u) (λ e. other (omega arith))) ∙ there in
          moved (λ e. other (omega arith)) (inner.at_each u w (omega arith) there_mid going i k r s got))
          (cases_eq u n);
    }
  where
    and_false : (b : Bool) → (b && false) ≡ false
    and_false true = refl
    and_false false = refl

-- a change of one work that keeps its fate
pub goes_on-edit : (f : Work → Work) (ws : List Work) (t s : ℕ) → ((w : Work) → (f w).fate ≡ w.fate) → goes_on (edit f ws t) s ≡ goes_on ws s
goes_on-edit f ws t s keeps = ⊎_elim
    (λ same. subst (λ q. goes_on (edit f ws t) q ≡ goes_on ws q) (sym same) (ap (λ o. unwrap_or (option_map (λ w. is_going w.fate) o) false) (at_edit_same f ws t) ∙ kept (at_ticket ws t)))
    (λ other. ap (λ o. unwrap_or (option_map (λ w. is_going w.fate) o) false) (at_edit_other f ws t s other))
    (cases_eq s t)
  where
    kept : (o : Option Work) → unwrap_or (option_map (λ w. is_going w.fate) (option_map f o)) false ≡ unwrap_or (option_map (λ w. is_going w.fate) o) false
    kept None = refl
    kept (Some w) = ap is_going (keeps w)

pub is_gone-edit : (f : Work → Work) (ws : List Work) (t s : ℕ) → ((w : Work) → (f w).fate ≡ w.fate) → is_gone (edit f ws t) s ≡ is_gone ws s
is_gone-edit f ws t s keeps = ⊎_elim
    (λ same. subst (λ q. is_gone (edit f ws t) q ≡ is_gone ws q) (sym same) (ap (λ o. unwrap_or (option_map (λ w. not (is_going w.fate)) o) false) (at_edit_same f ws t) ∙ kept (at_ticket ws t)))
    (λ other. ap (λ o. unwrap_or (option_map (λ w. not (is_going w.fate)) o) false) (at_edit_other f ws t s other))
    (cases_eq s t)
  where
    kept : (o : Option Work) → unwrap_or (option_map (λ w. not (is_going w.fate)) (option_map f o)) false ≡ unwrap_or (option_map (λ w. not (is_going w.fate)) o) false
    kept None = refl
    kept (Some w) = ap (λ g. not (is_going g)) (keeps w)

-- who waits has the operations that it had, and goes on if it did
pub fallen_waits : (ws : List Work) (t k : ℕ) → Fallen ws (edit (wait_for k) ws t)
fallen_waits ws t k = fallen_edit (wait_for k) ws t (λ w. refl) (λ w e. e)
