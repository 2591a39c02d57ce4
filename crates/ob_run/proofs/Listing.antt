-- Lists of clients, as they are made and taken apart.
use Rattle.std.proofs.Common.{◌≡◌, ◌∙◌, ◌++◌, ℕ, List, [], ◌∷◌, map, length, take, drop, refl, sym, ap}
use Rattle.std.proofs.lemmas.List.{append-nil, length-map}

module _ {A B : Type 0} where
  abbrev pub firsts : List (A × B) → List A
  firsts cs = map (λ (c : A × B). c.0) cs

  abbrev pub seconds : List (A × B) → List B
  seconds cs = map (λ (c : A × B). c.1) cs

-- what was written back over as many items
pub same_items : {A : Type 0} (len : ℕ) (xs ys : List A) → len ≡ length xs → length ys ≡ length xs → take len (ys ++ drop (length ys) xs) ≡ ys
same_items len xs ys is same =
    ap (λ n. take len (ys ++ drop n xs)) same ∙ (ap (λ l. take len (ys ++ l)) (drop_all xs) ∙ (ap (take len) (append-nil ys) ∙ (ap (λ n. take n ys) (is ∙ sym same) ∙ take_all ys)))
  where
    drop_all : {A : Type 0} (l : List A) → drop (length l) l ≡ []
    drop_all [] = refl
    drop_all (x ∷ l) = drop_all l

    take_all : {A : Type 0} (l : List A) → take (length l) l ≡ l
    take_all [] = refl
    take_all (x ∷ l) = ap (λ m. x ∷ m) (take_all l)

pub as_long : {A B : Type 0} (f : A → B) (xs ys : List A) → map f xs ≡ map f ys → length xs ≡ length ys
as_long f xs ys same = sym (length-map xs f) ∙ (ap length same ∙ length-map ys f)
