-- A work that falls, or doesn't.
use Rattle.std.proofs.Common.{◌≡◌, ℕ, zero, suc, ◌+◌, ◌<◌, Bool, true, false, if◌then◌else◌, List, [], ◌∷◌, ◌++◌, length, map, take, drop, set, get_or, Option, None, Some, refl, sym, ap, ◌∙◌, arith}
use Rattle.ob_order.specs.Works.{Work, is_going, edit, fall, fall_to, end_work, stop_work}
use Rattle.ob_order.specs.declared.fate.Fate.TheVariants.{Ended, Fell}
use Rattle.ob_order.proofs.Tidies.{edit_set, fall_idle}

set_same : {A : Type 0} (xs : List A) (n : ℕ) (x : A) → n < length xs → x ≡ get_or xs n x → set xs n x ≡ xs
set_same [] n x l e = absurd (omega arith)
set_same (y ∷ ys) zero x l e = ap (λ z. z ∷ ys) e
set_same (y ∷ ys) (suc n) x l e = ap (λ zs. y ∷ zs) (set_same ys n x (omega arith) e)

-- what falls on nothing stays
pub not_fallen : (xs : List Work) (n : ℕ) (w : Work) (o : Option ℕ) → n < length xs → w ≡ get_or xs n w → None ≡ (if is_going w.fate then o else None) → xs ≡ set xs n (fall o w)
not_fallen xs n w o l at e = sym (ap (set xs n) (step (is_going w.fate) refl e) ∙ set_same xs n w l at)
  where
    step : (b : Bool) → is_going w.fate ≡ b → None ≡ (if b then o else None) → fall o w ≡ w
    step true is none = ap (λ q. fall q w) (sym none)
    step false is none = fall_idle o w is

pub fallen_to : (xs : List Work) (n : ℕ) (w : Work) (o : Option ℕ) (on : ℕ) → n < length xs → w ≡ get_or xs n w → Some on ≡ (if is_going w.fate then o else None) → edit (fall_to on) xs (n + 1) ≡ set xs n (fall o w)
fallen_to xs n w o on l at e = edit_set (fall_to on) xs n w l at ∙ ap (set xs n) (sym (step (is_going w.fate) refl e))
  where
    step : (b : Bool) → is_going w.fate ≡ b → Some on ≡ (if b then o else None) → fall o w ≡ fall_to on w
    step true is e = ap (λ q. fall q w) (sym e) ∙ ap (λ b. let q : Work = record w { fate = if b then Fell on else w.fate } in q) is
    step false is e = let q : Some on ≡ None = e in absurd cc

pub stopped_here : (xs : List Work) (n : ℕ) (w : Work) → n < length xs → w ≡ get_or xs n w → is_going w.fate ≡ true → edit end_work xs (n + 1) ≡ set xs n (stop_work w)
stopped_here xs n w l at e = edit_set end_work xs n w l at ∙ ap (set xs n) (sym (ap (λ b. let q : Work = record w { fate = if b then Ended else w.fate } in q) e))

pub stopped_before : (xs : List Work) (n : ℕ) (w : Work) → n < length xs → w ≡ get_or xs n w → is_going w.fate ≡ false → xs ≡ set xs n (stop_work w)
stopped_before xs n w l at e = sym (ap (set xs n) (ap (λ b. let q : Work = record w { fate = if b then Ended else w.fate } in q) e) ∙ set_same xs n w l at)

pub length_mapped : {A : Type 0} (g : A → A) (xs : List A) (n : ℕ) → length (map g (take n xs) ++ drop n xs) ≡ length xs
length_mapped g [] zero = refl
length_mapped g [] (suc n) = refl
length_mapped g (x ∷ xs) zero = refl
length_mapped g (x ∷ xs) (suc n) = ap suc (length_mapped g xs n)
