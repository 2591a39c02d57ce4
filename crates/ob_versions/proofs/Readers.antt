-- Who has read a ticket's version of a key, or waits for the key, stays among its readers.
use Rattle.std.proofs.Common.{◌≡◌, ℕ, zero, suc, ◌<◌, ◌≤◌, Bool, true, false, ◌==◌, ◌&&◌, if◌then◌else◌, List, [], ◌∷◌, ◌++◌, length, Option, None, Some, option_map, option_and_then, unwrap_or, is_some, slice_get, refl, sym, ap, ap₂, ◌∙◌, subst, ◌⊎◌, ⊎_elim, arith, eq-eqb, ne_eqb, length-append}
use Rattle.std.proofs.lemmas.Bool.{cases_eq, cases_Bool, false≢true}
use Rattle.std.proofs.lemmas.Option.{none-some, same_Some}
use Rattle.std.specs.HashMap as hash
use Rattle.ob_order.specs.Works.{Op, Get, Put, Del, Work, at_ticket, edit, with_op, waiting_at}
use Rattle.ob_order.specs.Order.{fresh, write_op}
use Rattle.ob_order.proofs.Edits.{at_edit_same, at_edit_other, length-edit, slice_get-push}
use Rattle.ob_order.proofs.Newest.{by_option, with_op_cases}
use Rattle.ob_order.proofs.Falls.{ops_at}
use Rattle.ob_key_versions.specs.declared.chain.Chain.{Chain}
use Rattle.ob_key_versions.specs.Chains.{has_reader}
use Rattle.ob_key_versions.specs.Tables.{chain_at, is_reader, SameReaders}
use Rattle.ob_versions.specs.Ledgers.{HasReaders, NotesReader}

-- a key with readers has room for its chain
pub chain_there : {S : Type 0} (m : hash.HashMap ℕ Chain S) (k t : ℕ) → is_reader m k t ≡ true → is_some (chain_at m k) ≡ true
chain_there m k t e = step (chain_at m k) e
  where
    step : (o : Option Chain) → unwrap_or (option_map (λ c. has_reader c t) o) false ≡ true → is_some o ≡ true
    step None e = absurd (false≢true e)
    step (Some c) e = refl

-- ---- the readers alone

pub notes_same : {S : Type 0} (m n : hash.HashMap ℕ Chain S) (t : ℕ) → SameReaders m n → NotesReader m n t
notes_same m n t same = record {
  kept = λ k u e. same k u ∙ e;
  came = λ k u e f. absurd (false≢true (sym f ∙ (sym (same k u) ∙ e)));
}

pub notes_then : {S : Type 0} (l m n : hash.HashMap ℕ Chain S) (t : ℕ) → NotesReader l m t → NotesReader m n t → NotesReader l n t
notes_then l m n t one two = record {
  kept = λ k u e. two.kept k u (one.kept k u e);
  came = λ k u e f. ⊎_elim
      (λ there. one.came k u there f)
      (λ isnt. two.came k u e isnt)
      (cases_Bool (is_reader m k u));
}

pub notes_one : {S : Type 0} (m n : hash.HashMap ℕ Chain S) (key t : ℕ) → ((k u : ℕ) → is_reader n k u ≡ (if (key == k) && (t == u) then true else is_reader m k u)) → NotesReader m n t
notes_one m n key t is = record {
  kept = λ k u e. is k u ∙ up ((key == k) && (t == u)) (is_reader m k u) e;
  came = λ k u e f. ⊎_elim
      (λ same. sym same)
      (λ other. absurd (false≢true (sym f ∙ (sym (is k u ∙ (ap (λ b. if (key == k) && b then true else is_reader m k u) (ne_eqb t u other) ∙ off (key == k) (is_reader m k u))) ∙ e))))
      (cases_eq t u);
}
  where
    up : (a b : Bool) → b ≡ true → (if a then true else b) ≡ true
    up true b e = refl
    up false b e = e

    off : (a b : Bool) → (if a && false then true else b) ≡ b
    off true b = refl
    off false b = refl

pub noted_here : {S : Type 0} (m n : hash.HashMap ℕ Chain S) (key t : ℕ) → ((k u : ℕ) → is_reader n k u ≡ (if (key == k) && (t == u) then true else is_reader m k u)) → is_reader n key t ≡ true
noted_here m n key t is = is key t ∙ ap₂ (λ (a b : Bool). if a && b then true else is_reader m key t) (eq-eqb key key refl) (eq-eqb t t refl)

pub readers_noted : {S : Type 0} (ws : List Work) (m n : hash.HashMap ℕ Chain S) (t : ℕ) → HasReaders ws m → NotesReader m n t → 0 < t → t ≤ length ws → HasReaders ws n
readers_noted ws m n t h new above within = record {
  gets = λ u w there i k r s got l. new.kept k (suc u) (h.gets u w there i k r s got l);
  waits = λ u k e. new.kept k u (h.waits u k e);
  drawn = λ k u e. ⊎_elim
      (λ old. h.drawn k u old)
      (λ isnt. let same : u ≡ t = new.came k u e isnt in (omega (arith, same, above), omega (arith, same, within)))
      (cases_Bool (is_reader m k u));
}

pub readers_moved : {S : Type 0} (ws : List Work) (m n : hash.HashMap ℕ Chain S) → HasReaders ws m → SameReaders m n → HasReaders ws n
readers_moved ws m n h same = record {
  gets = λ u w there i k r s got l. same k (suc u) ∙ h.gets u w there i k r s got l;
  waits = λ u k e. same k u ∙ h.waits u k e;
  drawn = λ k u e. h.drawn k u (sym (same k u) ∙ e);
}

-- ---- the works

pub readers_none : {S : Type 0} (m : hash.HashMap ℕ Chain S) → ((k t : ℕ) → is_reader m k t ≡ false) → HasReaders [] m
readers_none m none = record {
  gets = λ u w there. absurd (none-some w there);
  waits = λ t k e. absurd (nothing t k e);
  drawn = λ k t e. absurd (false≢true (sym (none k t) ∙ e));
}
  where
    nothing : (t k : ℕ) → waiting_at [] t ≡ Some k → ⊥
    nothing zero k e = none-some k e
    nothing (suc t) k e = none-some k e

pub readers_begun : {S : Type 0} (ws : List Work) (m : hash.HashMap ℕ Chain S) → HasReaders ws m → HasReaders (ws ++ fresh ∷ []) m
readers_begun ws m h = record {
  gets = λ u w there i k r s got l. ⊎_elim
      (λ old. h.gets u w (sym old ∙ there) i k r s got l)
      (λ last. absurd (none-some _ (ap (λ x. slice_get x.ops i) (same_Some fresh w (sym last.2 ∙ there)) ∙ got)))
      (slice_get-push ws fresh u);
  waits = waits;
  drawn = λ k t e. let d = h.drawn k t e in let more = length-append ws (fresh ∷ []) in (d.0, omega (arith, d.1, more));
}
  where
    waits : (t k : ℕ) → waiting_at (ws ++ fresh ∷ []) t ≡ Some k → is_reader m k t ≡ true
    waits zero k e = absurd (none-some k e)
    waits (suc t) k e = ⊎_elim
        (λ old. h.waits (suc t) k (ap (option_and_then (λ w. w.waiting)) (sym old) ∙ e))
        (λ last. absurd (none-some k (ap (option_and_then (λ w. w.waiting)) (sym last.2) ∙ e)))
        (slice_get-push ws fresh t)

-- one work is changed, and waits for nothing new, but for what it is a reader of
waits_edit : {S : Type 0} (f : Work → Work) (ws : List Work) (t : ℕ) (m : hash.HashMap ℕ Chain S) → HasReaders ws m
    → ((w : Work) (k : ℕ) → (f w).waiting ≡ Some k → (w.waiting ≡ Some k) ⊎ (is_reader m k t ≡ true)) → (u k : ℕ) → waiting_at (edit f ws t) u ≡ Some k → is_reader m k u ≡ true
waits_edit f ws t m h new u k e = ⊎_elim
    (λ same. subst (λ q. is_reader m k q ≡ true) (sym same) (step (at_ticket ws t) refl (ap (option_and_then (λ w. w.waiting)) (sym (at_edit_same f ws t)) ∙ subst (λ q. waiting_at (edit f ws t) q ≡ Some k) same e)))
    (λ other. h.waits u k (ap (option_and_then (λ w. w.waiting)) (sym (at_edit_other f ws t u other)) ∙ e))
    (cases_eq u t)
  where
    step : (o : Option Work) → at_ticket ws t ≡ o → option_and_then (λ w. w.waiting) (option_map f o) ≡ Some k → is_reader m k t ≡ true
    step None is e = absurd (none-some k e)
    step (Some w) is e = ⊎_elim
        (λ old. h.waits t k (ap (option_and_then (λ w. w.waiting)) is ∙ old))
        (λ there. there)
        (new w k e)

-- one work is changed, and keeps its operations
pub readers_edit : {S : Type 0} (f : Work → Work) (ws : List Work) (t : ℕ) (m : hash.HashMap ℕ Chain S) → HasReaders ws m → ((u : ℕ) → ops_at (edit f ws t) u ≡ ops_at ws u)
    → ((w : Work) (k : ℕ) → (f w).waiting ≡ Some k → (w.waiting ≡ Some k) ⊎ (is_reader m k t ≡ true)) → HasReaders (edit f ws t) m
readers_edit f ws t m h same new = record {
  gets = λ u w there i k r s got l. by_option (slice_get ws u)
      (λ none. absurd (none-some w.ops (sym (ap (option_map (λ x. x.ops)) none) ∙ (sym (same (suc u)) ∙ ap (option_map (λ x. x.ops)) there))))
      (λ v is. h.gets u v is i k r s (ap (λ ops. slice_get ops i) (same_Some v.ops w.ops (sym (ap (option_map (λ x. x.ops)) is) ∙ (sym (same (suc u)) ∙ ap (option_map (λ x. x.ops)) there))) ∙ got) l);
  waits = waits_edit f ws t m h new;
  drawn = λ k u e. let d = h.drawn k u e in (d.0, omega (arith, d.1, length-edit f ws t));
}

-- one operation more
readers_op : {S : Type 0} (ws : List Work) (t : ℕ) (o : Op ℕ) (m : hash.HashMap ℕ Chain S) → HasReaders ws m
    → ((k : ℕ) (r : Option (List ℕ)) (s : ℕ) → o ≡ Get k r s → 0 < s → is_reader m k t ≡ true) → HasReaders (with_op ws t o) m
readers_op ws t o m h new = record {
  gets = λ u w there i k r s got l. ⊎_elim
      (λ c. h.gets u w c.0 i k r s got l)
      (λ c.
      let v = c.0 in
      let got_there : slice_get (v.ops ++ o ∷ []) i ≡ Some (Get k r s) = ap (λ x. slice_get x.ops i) c.3 ∙ got in
      ⊎_elim
      (λ old. h.gets u v c.1 i k r s (sym old ∙ got_there) l)
      (λ last. subst (λ q. is_reader m k q ≡ true) (sym c.2) (new k r s (same_Some o (Get k r s) (sym last.2 ∙ got_there)) l))
      (slice_get-push v.ops o i))
      (with_op_cases ws t o u w there);
  waits = waits_edit _ ws t m h (λ w k e. absurd (none-some k e));
  drawn = λ k u e. let d = h.drawn k u e in (d.0, omega (arith, d.1, length-edit (λ w. let q : Work = record w { ops = w.ops ++ o ∷ []; waiting = None } in q) ws t));
}

pub readers_got : {S : Type 0} (ws : List Work) (t k : ℕ) (r : Option (List ℕ)) (s : ℕ) (m : hash.HashMap ℕ Chain S) → HasReaders ws m → (0 < s → is_reader m k t ≡ true) → HasReaders (with_op ws t (Get k r s)) m
readers_got ws t k r s m h new = readers_op ws t (Get k r s) m h (λ j x q e l.
    let key : k ≡ j = cc in
    let source : s ≡ q = cc in
    subst (λ a. is_reader m a t ≡ true) key (new (omega (arith, source, l))))

pub readers_wrote : {S : Type 0} (ws : List Work) (t k : ℕ) (v : Option (List ℕ)) (m : hash.HashMap ℕ Chain S) → HasReaders ws m → HasReaders (with_op ws t (write_op k v)) m
readers_wrote ws t k None m h = readers_op ws t (Del k) m h (λ j r s e. let q : Del k ≡ Get j r s = e in absurd (cc))
readers_wrote ws t k (Some v) m h = readers_op ws t (Put k v) m h (λ j r s e. let q : Put k v ≡ Get j r s = e in absurd (cc))
