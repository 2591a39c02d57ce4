-- Beginnings of a list.
use Rattle.std.proofs.Common.{◌≡◌, ap, sym, ◌∙◌, List, [], ◌∷◌, ◌++◌, refl, append_assoc}
use Rattle.std.proofs.lemmas.List.{append-nil}
use mathlib.Core.List.{IsPrefix}
use Rattle.ob_turn.specs.History.{longer}

module _ {A : Type 0} where
  pub prefix_self : (xs : List A) → IsPrefix xs xs
  prefix_self xs = ([], append-nil xs)

  pub prefix_snoc : (xs ys : List A) (y : A) → IsPrefix xs ys → IsPrefix xs (ys ++ y ∷ [])
  prefix_snoc xs ys y p = (p.0 ++ y ∷ [], sym (append_assoc xs p.0 (y ∷ [])) ∙ ap (λ w. w ++ y ∷ []) p.1)

  pub longer-prefix : (xs ys zs : List A) → IsPrefix xs zs → IsPrefix ys zs → IsPrefix (longer xs ys) zs
  longer-prefix [] ys zs p q = q
  longer-prefix (x ∷ xs) [] zs p q = p
  longer-prefix (x ∷ xs) (y ∷ ys) [] p q = absurd (cc (p.1))
  longer-prefix (x ∷ xs) (y ∷ ys) (z ∷ zs) p q =
      let head : x ≡ z = cc (p.1) in
      let rest = longer-prefix xs ys zs (p.0, cc (p.1)) (q.0, cc (q.1)) in
      (rest.0, cc (head, rest.1))

  pub longer-left : (xs ys : List A) → IsPrefix xs (longer xs ys)
  longer-left [] ys = (ys, refl)
  longer-left (x ∷ xs) [] = ([], append-nil (x ∷ xs))
  longer-left (x ∷ xs) (y ∷ ys) = let rest = longer-left xs ys in (rest.0, ap (λ l. x ∷ l) rest.1)

  pub prefix_trans : (xs ys zs : List A) → IsPrefix xs ys → IsPrefix ys zs → IsPrefix xs zs
  prefix_trans xs ys zs p q = (p.0 ++ q.0, sym (append_assoc xs p.0 q.0) ∙ (ap (λ w. w ++ q.0) p.1 ∙ q.1))
