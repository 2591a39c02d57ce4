-- How the marks move with the works.
use Rattle.std.proofs.Common.{◌≡◌, ℕ, zero, suc, max, ◌+◌, ◌<◌, ◌≤◌, Bool, true, false, ◌||◌, if◌then◌else◌, List, [], ◌∷◌, ◌++◌, length, Option, None, Some, option_map, option_and_then, unwrap_or, slice_get, refl, sym, ap, ap₂, ◌∙◌, subst, ⊎_elim, arith, length-append}
use Rattle.std.specs.List.{list_any}
use Rattle.std.proofs.lemmas.Bool.{cases_eq}
use Rattle.ob_order.specs.Works.{Op, Work, at_ticket, edit, version, version_in, add_op, with_op, is_get_of, has_get, has_read, greatest, mark}
use Rattle.ob_order.specs.Order.{fresh}
use Rattle.ob_order.proofs.Edits.{at_edit_same, at_edit_other, length-edit, slice_get-push}
use Rattle.ob_order.proofs.Falls.{ops_at}

any-push : {A : Type 0} (p : A → Bool) (xs : List A) (x : A) → list_any p (xs ++ x ∷ []) ≡ (list_any p xs || p x)
any-push p [] x = or_false (p x)
  where
    or_false : (b : Bool) → (b || false) ≡ b
    or_false true = refl
    or_false false = refl
any-push p (y ∷ ys) x = ap (λ b. p y || b) (any-push p ys x) ∙ or_assoc (p y) (list_any p ys) (p x)
  where
    or_assoc : (a b c : Bool) → (a || (b || c)) ≡ ((a || b) || c)
    or_assoc true b c = refl
    or_assoc false b c = refl

greatest_most : (p : ℕ → Bool) (n : ℕ) → greatest p n ≤ n
greatest_most p zero = omega arith
greatest_most p (suc n) = step (p (suc n)) (greatest p n) (greatest_most p n)
  where
    step : (b : Bool) (g : ℕ) → g ≤ n → (if b then suc n else g) ≤ suc n
    step true g l = omega arith
    step false g l = omega arith

greatest_same : (p q : ℕ → Bool) (n : ℕ) → ((u : ℕ) → q u ≡ p u) → greatest q n ≡ greatest p n
greatest_same p q zero h = refl
greatest_same p q (suc n) h = ap₂ (λ (b : Bool) (g : ℕ). if b then suc n else g) (h (suc n)) (greatest_same p q n h)

-- where t passes too
greatest_max : (p q : ℕ → Bool) (t n : ℕ) → 0 < t → t ≤ n → ((u : ℕ) → (u ≡ t → ⊥) → q u ≡ p u) → q t ≡ true → greatest q n ≡ max (greatest p n) t
greatest_max p q t zero above l h is = absurd (omega arith)
greatest_max p q t (suc n) above l h is = ⊎_elim
    (λ same.
    let most = greatest_most p (suc n) in
    let here : q (suc n) ≡ true = subst (λ u. q u ≡ true) same is in
    ap (λ b. if b then suc n else greatest q n) here ∙ (let e : suc n ≡ max (greatest p (suc n)) t = omega (arith, most, same) in e))
    (λ other.
    ap₂ (λ (b : Bool) (g : ℕ). if b then suc n else g) (h (suc n) (λ e. other (sym e))) (greatest_max p q t n above (omega arith) h is)
    ∙ step (p (suc n)))
    (cases_eq t (suc n))
  where
    step : (b : Bool) → (if b then suc n else max (greatest p n) t) ≡ max (if b then suc n else greatest p n) t
    step true = omega arith
    step false = refl

-- an operation that is isnt such Get
has_read_other : (ws : List Work) (t : ℕ) (o : Op ℕ) (j q : ℕ) → is_get_of j q o ≡ false → (u : ℕ) → has_read (with_op ws t o) j q u ≡ has_read ws j q u
has_read_other ws t o j q isnt u = ⊎_elim
    (λ same. subst (λ x. has_read (with_op ws t o) j q x ≡ has_read ws j q x) (sym same) (ap read (at_edit_same (add_op o) ws t) ∙ grown (at_ticket ws t)))
    (λ other. ap read (at_edit_other (add_op o) ws t u other))
    (cases_eq u t)
  where
    read : Option Work → Bool
    read w = unwrap_or (option_map (λ w. has_get w.ops j q) w) false

    or_no : (a b : Bool) → b ≡ false → (a || b) ≡ a
    or_no true b e = refl
    or_no false b e = e

    grown : (w : Option Work) → read (option_map (add_op o) w) ≡ read w
    grown None = refl
    grown (Some w) = any-push (is_get_of j q) w.ops o ∙ or_no (list_any (is_get_of j q) w.ops) (is_get_of j q o) isnt

has_read_here : (ws : List Work) (t : ℕ) (o : Op ℕ) (j q : ℕ) → is_get_of j q o ≡ true → 0 < t → t ≤ length ws → has_read (with_op ws t o) j q t ≡ true
has_read_here ws zero o j q is above l = absurd (omega arith)
has_read_here ws (suc n) o j q is above l = ap read (at_edit_same (add_op o) ws (suc n)) ∙ grown ws n l
  where
    read : Option Work → Bool
    read w = unwrap_or (option_map (λ w. has_get w.ops j q) w) false

    or_yes : (a b : Bool) → b ≡ true → (a || b) ≡ true
    or_yes true b e = refl
    or_yes false b e = e

    grown : (vs : List Work) (m : ℕ) → suc m ≤ length vs → read (option_map (add_op o) (slice_get vs m)) ≡ true
    grown [] m l = absurd (omega arith)
    grown (w ∷ vs) zero l = any-push (is_get_of j q) w.ops o ∙ or_yes (list_any (is_get_of j q) w.ops) (is_get_of j q o) is
    grown (w ∷ vs) (suc m) l = grown vs m (omega arith)

has_read_beside : (ws : List Work) (t : ℕ) (o : Op ℕ) (j q u : ℕ) → (u ≡ t → ⊥) → has_read (with_op ws t o) j q u ≡ has_read ws j q u
has_read_beside ws t o j q u other = ap (λ (w : Option Work). unwrap_or (option_map (λ w. has_get w.ops j q) w) false) (at_edit_other (add_op o) ws t u other)

pub mark_other : (ws : List Work) (t : ℕ) (o : Op ℕ) (j q : ℕ) → is_get_of j q o ≡ false → mark (with_op ws t o) j q ≡ mark ws j q
mark_other ws t o j q isnt = ap (greatest (has_read (with_op ws t o) j q)) (length-edit (add_op o) ws t) ∙ greatest_same (has_read ws j q) (has_read (with_op ws t o) j q) (length ws) (has_read_other ws t o j q isnt)

pub mark_here : (ws : List Work) (t : ℕ) (o : Op ℕ) (j q : ℕ) → is_get_of j q o ≡ true → 0 < t → t ≤ length ws → mark (with_op ws t o) j q ≡ max (mark ws j q) t
mark_here ws t o j q is above l = ap (greatest (has_read (with_op ws t o) j q)) (length-edit (add_op o) ws t) ∙ greatest_max (has_read ws j q) (has_read (with_op ws t o) j q) t (length ws) above l (has_read_beside ws t o j q) (has_read_here ws t o j q is above l)

-- the marks go by the operations
pub mark_same_ops : (ws vs : List Work) → ((t : ℕ) → ops_at vs t ≡ ops_at ws t) → length vs ≡ length ws → (k s : ℕ) → mark vs k s ≡ mark ws k s
mark_same_ops ws vs h len k s = ap (greatest (has_read vs k s)) len ∙ greatest_same (has_read ws k s) (has_read vs k s) (length ws) (λ u. by_ops (at_ticket vs u) ∙ (ap (λ o. unwrap_or (option_map (λ os. has_get os k s) o) false) (h u) ∙ sym (by_ops (at_ticket ws u))))
  where
    by_ops : (w : Option Work) → unwrap_or (option_map (λ w. has_get w.ops k s) w) false ≡ unwrap_or (option_map (λ os. has_get os k s) (option_map (λ w. w.ops) w)) false
    by_ops None = refl
    by_ops (Some w) = refl

-- who begins has read nothing
pub mark_begun : (ws : List Work) (k s : ℕ) → mark (ws ++ fresh ∷ []) k s ≡ mark ws k s
mark_begun ws k s =
    ap (greatest (has_read (ws ++ fresh ∷ []) k s)) (length-append ws (fresh ∷ []) ∙ (let e : length ws + 1 ≡ suc (length ws) = omega arith in e))
    ∙ (ap (λ b. if b then suc (length ws) else greatest (has_read (ws ++ fresh ∷ []) k s) (length ws)) (same (suc (length ws)) ∙ past (length ws) ws (omega arith))
    ∙ greatest_same (has_read ws k s) (has_read (ws ++ fresh ∷ []) k s) (length ws) same)
  where
    read : Option Work → Bool
    read w = unwrap_or (option_map (λ w. has_get w.ops k s) w) false

    past : (n : ℕ) (vs : List Work) → length vs ≤ n → read (slice_get vs n) ≡ false
    past n [] l = refl
    past zero (v ∷ vs) l = absurd (omega arith)
    past (suc n) (v ∷ vs) l = past n vs (omega arith)

    same : (u : ℕ) → has_read (ws ++ fresh ∷ []) k s u ≡ has_read ws k s u
    same zero = refl
    same (suc u) = ⊎_elim (λ old. ap read old) (λ last. ap read last.2 ∙ sym (ap read last.1)) (slice_get-push ws fresh u)

-- who keeps its operations
pub ops_edit : (f : Work → Work) (ws : List Work) (t : ℕ) → ((w : Work) → (f w).ops ≡ w.ops) → (u : ℕ) → ops_at (edit f ws t) u ≡ ops_at ws u
ops_edit f ws t keeps u = ⊎_elim
    (λ same. subst (λ q. ops_at (edit f ws t) q ≡ ops_at ws q) (sym same) (ap (option_map (λ w. w.ops)) (at_edit_same f ws t) ∙ kept (at_ticket ws t)))
    (λ other. ap (option_map (λ w. w.ops)) (at_edit_other f ws t u other))
    (cases_eq u t)
  where
    kept : (o : Option Work) → option_map (λ w. w.ops) (option_map f o) ≡ option_map (λ w. w.ops) o
    kept None = refl
    kept (Some w) = ap Some (keeps w)

pub version_edit : (f : Work → Work) (ws : List Work) (t : ℕ) → ((w : Work) (k : ℕ) → version_in (f w) k ≡ version_in w k) → (u k : ℕ) → version (edit f ws t) u k ≡ version ws u k
version_edit f ws t keeps u k = ⊎_elim
    (λ same. subst (λ q. version (edit f ws t) q k ≡ version ws q k) (sym same) (ap (option_and_then (λ w. version_in w k)) (at_edit_same f ws t) ∙ kept (at_ticket ws t)))
    (λ other. ap (option_and_then (λ w. version_in w k)) (at_edit_other f ws t u other))
    (cases_eq u t)
  where
    kept : (o : Option Work) → option_and_then (λ w. version_in w k) (option_map f o) ≡ option_and_then (λ w. version_in w k) o
    kept None = refl
    kept (Some w) = keeps w k

pub version_begun : (ws : List Work) (u k : ℕ) → version (ws ++ fresh ∷ []) u k ≡ version ws u k
version_begun ws zero k = refl
version_begun ws (suc u) k = ⊎_elim
    (λ old. ap (option_and_then (λ w. version_in w k)) old)
    (λ last. ap (option_and_then (λ w. version_in w k)) last.2 ∙ sym (ap (option_and_then (λ w. version_in w k)) last.1))
    (slice_get-push ws fresh u)
