-- The permutation that a row of pairs makes: it leads each left to its right, and the row turned round makes its inverse.
use Rattle.std.specs.Prelude.{◌≡◌, Bool, true, false, cond, List, [], ◌∷◌, map}
use Rattle.std.proofs.Common.{refl, sym, ap, subst, ◌∙◌, inl, inr, ◌⊎◌}
use Rattle.std.proofs.lemmas.Bool.{true≢false}
use Rattle.ob_base.specs.Repeats.{Has, NoRepeats}
use Rattle.ob_deniable.specs.Moved.{Undo}

-- a test that tells what is equal
pub record IsEquality {A : Type 0} (same : A → A → Bool) : Type 0 where
  pub equal : (x y : A) → same x y ≡ true → x ≡ y
  pub itself : (x : A) → same x x ≡ true

-- x and y change places, and all else stays
abbrev pub swapped : {A : Type 0} → (A → A → Bool) → A → A → A → A
swapped same x y z = cond (same x z) y (cond (same y z) x z)

-- the transpositions of a list, those of its end first
abbrev pub all_swapped : {A : Type 0} → (A → A → Bool) → List (A × A) → A → A
all_swapped same [] z = z
all_swapped same (t ∷ ts) z = swapped same t.0 t.1 (all_swapped same ts z)

-- behind the others, the transposition that sends q.0 to q.1 whatever the others do
abbrev pub and_swap : {A : Type 0} → (A → A → Bool) → A × A → List (A × A) → List (A × A)
and_swap same q ts = (all_swapped same ts q.0, q.1) ∷ ts

abbrev pub swaps_of : {A : Type 0} → (A → A → Bool) → List (A × A) → List (A × A)
swaps_of same [] = []
swaps_of same (q ∷ qs) = and_swap same q (swaps_of same qs)

-- the permutation that a row of pairs makes
abbrev pub exchanged : {A : Type 0} → (A → A → Bool) → List (A × A) → A → A
exchanged same qs z = all_swapped same (swaps_of same qs) z

abbrev pub turned : {A : Type 0} → List (A × A) → List (A × A)
turned qs = map (λ q. (q.1, q.0)) qs

-- what stands for one on the left stands for one on the right, and the other way round
pub record IsMatching {A : Type 0} (qs : List (A × A)) : Type 0 where
  pub right : (q r : A × A) → Has qs q → Has qs r → q.0 ≡ r.0 → q.1 ≡ r.1
  pub left : (q r : A × A) → Has qs q → Has qs r → q.1 ≡ r.1 → q.0 ≡ r.0

-- two rows side by side, as long as both go on
abbrev pub side_by_side : {A : Type 0} → List A → List A → List (A × A)
side_by_side [] ys = []
side_by_side (x ∷ xs) [] = []
side_by_side (x ∷ xs) (y ∷ ys) = (x, y) ∷ side_by_side xs ys

-- ---- laws

module _ {A : Type 0} (same : A → A → Bool) (tells : IsEquality same) where
  is_same : (x y : A) → x ≡ y → same x y ≡ true
  is_same x y e = subst (λ (z : A). same x z ≡ true) e (tells.itself x)

  by_test : (x y : A) (b : Bool) → same x y ≡ b → (x ≡ y) ⊎ (x ≡ y → ⊥)
  by_test x y true e = inl (tells.equal x y e)
  by_test x y false e = inr (λ h. true≢false (sym (is_same x y h) ∙ e))

  pub cases_same : (x y : A) → (x ≡ y) ⊎ (x ≡ y → ⊥)
  cases_same x y = by_test x y (same x y) refl

  unsame_at : (x y : A) (b : Bool) → same x y ≡ b → (x ≡ y → ⊥) → same x y ≡ false
  unsame_at x y true e n = absurd (n (tells.equal x y e))
  unsame_at x y false e n = e

  unsame : (x y : A) → (x ≡ y → ⊥) → same x y ≡ false
  unsame x y n = unsame_at x y (same x y) refl n

  swapped_first : (x y z : A) → x ≡ z → swapped same x y z ≡ y
  swapped_first x y z e = rw (is_same x z e) refl

  swapped_second : (x y z : A) → y ≡ z → swapped same x y z ≡ x
  swapped_second x y z e = elim (cases_same x z) [
    | inl h ↦ swapped_first x y z h ∙ e ∙ sym h
    | inr n ↦ rw (unsame x z n, is_same y z e) refl
  ]

  swapped_other : (x y z : A) → (x ≡ z → ⊥) → (y ≡ z → ⊥) → swapped same x y z ≡ z
  swapped_other x y z n m = rw (unsame x z n, unsame y z m) refl

  -- f and g undo each other; then so do they with the next transposition behind each
  undo_step : (f g : A → A) → ((x : A) → g (f x) ≡ x) → ((x : A) → f (g x) ≡ x) → (a b x : A) → swapped same (g b) a (g (swapped same (f a) b (f x))) ≡ x
  undo_step f g gf fg a b x = elim (cases_same (f a) (f x)) [
    | inl e ↦ ap (λ (y : A). swapped same (g b) a (g y)) (swapped_first (f a) b (f x) e) ∙ swapped_first (g b) a (g b) refl ∙ sym (gf a) ∙ ap g e ∙ gf x
    | inr n ↦ elim (cases_same b (f x)) [
      | inl e ↦ ap (λ (y : A). swapped same (g b) a (g y)) (swapped_second (f a) b (f x) e) ∙ ap (swapped same (g b) a) (gf a) ∙ swapped_second (g b) a a refl ∙ ap g e ∙ gf x
      | inr m ↦ ap (λ (y : A). swapped same (g b) a (g y)) (swapped_other (f a) b (f x) n m) ∙ ap (swapped same (g b) a) (gf x)
          ∙ swapped_other (g b) a x (λ h. m (sym (fg b) ∙ ap f h)) (λ h. n (ap f h))
    ]
  ]

  undo_both : (qs : List (A × A)) → ((x : A) → exchanged same (turned qs) (exchanged same qs x) ≡ x) × ((x : A) → exchanged same qs (exchanged same (turned qs) x) ≡ x)
  undo_both [] = (λ x. refl, λ x. refl)
  undo_both (q ∷ qs) =
      let ih = undo_both qs in
      (undo_step (exchanged same qs) (exchanged same (turned qs)) ih.0 ih.1 q.0 q.1, undo_step (exchanged same (turned qs)) (exchanged same qs) ih.1 ih.0 q.1 q.0)

  pub exchanged_undo : (qs : List (A × A)) → Undo (exchanged same qs) (exchanged same (turned qs))
  exchanged_undo qs = record { there = (undo_both qs).0; back = (undo_both qs).1 }

  pub exchanged_each : (qs : List (A × A)) → IsMatching qs → (q : A × A) → Has qs q → exchanged same qs q.0 ≡ q.1
  exchanged_each [] m q h = absurd h
  exchanged_each (r ∷ qs) m q (inl e) = swapped_first (exchanged same qs r.0) r.1 (exchanged same qs q.0) (ap (λ (t : A × A). exchanged same qs t.0) e) ∙ ap (λ (t : A × A). t.1) e
  exchanged_each (r ∷ qs) m q (inr h) =
      let f : A → A = exchanged same qs in
      let rest : IsMatching qs = record { right = λ s t i j. m.right s t (inr i) (inr j); left = λ s t i j. m.left s t (inr i) (inr j) } in
      let ih : f q.0 ≡ q.1 = exchanged_each qs rest q h in
      elim (cases_same (f r.0) (f q.0)) [
        | inl e ↦ swapped_first (f r.0) r.1 (f q.0) e ∙ m.right r q (inl refl) (inr h) (sym ((undo_both qs).0 r.0) ∙ ap (exchanged same (turned qs)) e ∙ (undo_both qs).0 q.0)
        | inr n ↦ elim (cases_same r.1 (f q.0)) [
          | inl e ↦ absurd (n (ap f (m.left r q (inl refl) (inr h) (e ∙ ih))))
          | inr k ↦ swapped_other (f r.0) r.1 (f q.0) n k ∙ ih
        ]
      ]

module _ {A : Type 0} (same : A → A → Bool) (tells : IsEquality same) where
  -- what stands on neither side stays
  pub exchanged_stays : (qs : List (A × A)) (x : A) → ((q : A × A) → Has qs q → q.0 ≡ x → ⊥) → ((q : A × A) → Has qs q → q.1 ≡ x → ⊥) → exchanged same qs x ≡ x
  exchanged_stays [] x l r = refl
  exchanged_stays (q ∷ qs) x l r =
      let ih : exchanged same qs x ≡ x = exchanged_stays qs x (λ t h. l t (inr h)) (λ t h. r t (inr h)) in
      let back = exchanged_undo same tells qs in
      swapped_other same tells (exchanged same qs q.0) q.1 (exchanged same qs x)
      (λ e. l q (inl refl) (sym (back.there q.0) ∙ ap (exchanged same (turned qs)) e ∙ back.there x)) (λ e. r q (inl refl) (e ∙ ih))
      ∙ ih

module _ {A : Type 0} where
  pub has_paired : (xs ys : List A) (q : A × A) → Has (side_by_side xs ys) q → Has xs q.0 × Has ys q.1
  has_paired [] ys q h = absurd h
  has_paired (x ∷ xs) [] q h = absurd h
  has_paired (x ∷ xs) (y ∷ ys) q (inl e) = (inl (ap (λ (t : A × A). t.0) e), inl (ap (λ (t : A × A). t.1) e))
  has_paired (x ∷ xs) (y ∷ ys) q (inr h) = let r = has_paired xs ys q h in (inr r.0, inr r.1)

  -- rows without repetition, side by side, match
  pub matching_apart : (xs ys : List A) → NoRepeats xs → NoRepeats ys → IsMatching (side_by_side xs ys)
  matching_apart [] ys a b = record { right = λ q r h. absurd h; left = λ q r h. absurd h }
  matching_apart (x ∷ xs) [] a b = record { right = λ q r h. absurd h; left = λ q r h. absurd h }
  matching_apart (x ∷ xs) (y ∷ ys) a b =
      let ih : IsMatching (side_by_side xs ys) = matching_apart xs ys a.1 b.1 in
      record {
        right = λ q r h k e. elim h [
          | inl q_is ↦ elim k [
            | inl r_is ↦ sym (ap (λ (t : A × A). t.1) q_is) ∙ ap (λ (t : A × A). t.1) r_is
            | inr r_in ↦ absurd (a.0 (subst (λ (z : A). Has xs z) (sym e ∙ sym (ap (λ (t : A × A). t.0) q_is)) (has_paired xs ys r r_in).0))
          ]
          | inr q_in ↦ elim k [
            | inl r_is ↦ absurd (a.0 (subst (λ (z : A). Has xs z) (e ∙ sym (ap (λ (t : A × A). t.0) r_is)) (has_paired xs ys q q_in).0))
            | inr r_in ↦ ih.right q r q_in r_in e
          ]
        ];
        left = λ q r h k e. elim h [
          | inl q_is ↦ elim k [
            | inl r_is ↦ sym (ap (λ (t : A × A). t.0) q_is) ∙ ap (λ (t : A × A). t.0) r_is
            | inr r_in ↦ absurd (b.0 (subst (λ (z : A). Has ys z) (sym e ∙ sym (ap (λ (t : A × A). t.1) q_is)) (has_paired xs ys r r_in).1))
          ]
          | inr q_in ↦ elim k [
            | inl r_is ↦ absurd (b.0 (subst (λ (z : A). Has ys z) (e ∙ sym (ap (λ (t : A × A). t.1) r_is)) (has_paired xs ys q q_in).1))
            | inr r_in ↦ ih.left q r q_in r_in e
          ]
        ];
      }
