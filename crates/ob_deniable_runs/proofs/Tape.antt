-- A permutation of words that leads each word of a version within its version.
use Rattle.std.specs.Prelude.{◌≡◌, ℕ, ◌+◌, ◌-◌, ◌<◌, ◌≤◌, ◌==◌, nat_le, nat_lt, ◌&&◌, Bool, true, cond, List, [], ◌∷◌}
use Rattle.std.proofs.Common.{arith, refl, sym, ap, subst, ◌∙◌, inl, inr, ◌⊎◌}
use Rattle.std.proofs.lemmas.Bool.{and_from, and_parts, cases_Bool, eq-eqb, eqb-true, false≢true}
use Rattle.std.proofs.lemmas.Bool.Decides.{nat_tests}
use Rattle.ob_base.specs.Repeats.{Has}
use Rattle.ob_recover.specs.Life.{WordId}
use Rattle.ob_fresh.specs.Drawn.{words_on}
use Rattle.ob_fresh.proofs.Blocks.{AreApart, Block, IsFree}

abbrev pub is_in : ℕ → Block → WordId → Bool
is_in n b w = (w.generation == b.first.generation) && (nat_le b.first.place w.place && nat_lt w.place (b.first.place + n))

from_le : (a b : ℕ) → nat_le a b ≡ true → a ≤ b
from_le a b h = grind (arith, nat_tests)

from_lt : (a b : ℕ) → nat_lt a b ≡ true → a < b
from_lt a b h = grind (arith, nat_tests)

to_le : (a b : ℕ) → a ≤ b → nat_le a b ≡ true
to_le a b h = grind (arith, nat_tests)

to_lt : (a b : ℕ) → a < b → nat_lt a b ≡ true
to_lt a b h = grind (arith, nat_tests)

in_block : (n : ℕ) (b : Block) (w : WordId) → is_in n b w ≡ true → (w.place - b.first.place < n) × (w ≡ words_on b.first (w.place - b.first.place))
in_block n b w h =
    let whole = and_parts (w.generation == b.first.generation) (nat_le b.first.place w.place && nat_lt w.place (b.first.place + n)) h in
    let ends = and_parts (nat_le b.first.place w.place) (nat_lt w.place (b.first.place + n)) whole.1 in
    let low : b.first.place ≤ w.place = from_le b.first.place w.place ends.0 in
    let high : w.place < b.first.place + n = from_lt w.place (b.first.place + n) ends.1 in
    let place : w.place ≡ b.first.place + (w.place - b.first.place) = omega arith in
    (omega arith, λ i. record { generation = eqb-true w.generation b.first.generation whole.0 i; place = place i })

of_block : (n : ℕ) (b : Block) (j : ℕ) → j < n → is_in n b (words_on b.first j) ≡ true
of_block n b j low =
    and_from (b.first.generation == b.first.generation) (nat_le b.first.place (b.first.place + j) && nat_lt (b.first.place + j) (b.first.place + n)) (eq-eqb b.first.generation b.first.generation refl)
    (and_from (nat_le b.first.place (b.first.place + j)) (nat_lt (b.first.place + j) (b.first.place + n)) (to_le b.first.place (b.first.place + j) (omega arith)) (to_lt (b.first.place + j) (b.first.place + n) (omega arith)))

module _ (n : ℕ) where
  -- a word of a version goes to another one of its version, each other word as it is led
  abbrev pub led_by : (move : Block → ℕ → ℕ) (ids : WordId → WordId) → List Block → WordId → WordId
  led_by move ids [] w = ids w
  led_by move ids (b ∷ bs) w = cond (is_in n b w) (words_on b.first (move b (w.place - b.first.place))) (led_by move ids bs w)

  module _ (move : Block → ℕ → ℕ) (ids : WordId → WordId) where
    pub free_led : (bs : List Block) (w : WordId) → IsFree n bs w → led_by move ids bs w ≡ ids w
    free_led [] w f = refl
    free_led (b ∷ bs) w f = elim (cases_Bool (is_in n b w)) [
      | inl on ↦ absurd (let at = in_block n b w on in f b (inl refl) (w.place - b.first.place) at.0 at.1)
      | inr off ↦ rw off (free_led bs w (λ c h. f c (inr h)))
    ]

    pub block_led : (bs : List Block) → AreApart n bs → (b : Block) → Has bs b → (j : ℕ) → j < n → led_by move ids bs (words_on b.first j) ≡ words_on b.first (move b j)
    block_led [] apart b h j low = absurd h
    block_led (c ∷ bs) apart b h j low = elim (cases_Bool (is_in n c (words_on b.first j))) [
      | inl on ↦ (
          let at = in_block n c (words_on b.first j) on in
          let i : ℕ = (words_on b.first j).place - c.first.place in
          let same = apart b c h (inl refl) j i low at.0 at.1 in
          rw on (λ t. words_on (sym same.0 t).first (move (sym same.0 t) (sym same.1 t))))
      | inr off ↦ elim h [
        | inl is ↦ absurd (false≢true (sym off ∙ subst (λ (d : Block). is_in n c (words_on d.first j) ≡ true) is (of_block n c j low)))
        | inr rest ↦ rw off (block_led bs (λ x y f g. apart x y (inr f) (inr g)) b rest j low)
      ]
    ]

  -- a word is one of a block, or free
  abbrev IsOneOf : List Block → WordId → Type 0
  IsOneOf bs w = (b : Block) × Has bs b × (j : ℕ) × (j < n) × (w ≡ words_on b.first j)

  one_or_free : (bs : List Block) (w : WordId) → IsOneOf bs w ⊎ IsFree n bs w
  one_or_free [] w = inr (λ b h. absurd h)
  one_or_free (b ∷ bs) w = elim (cases_Bool (is_in n b w)) [
    | inl on ↦ (let at = in_block n b w on in inl (b, inl refl, w.place - b.first.place, at.0, at.1))
    | inr off ↦ elim (one_or_free bs w) [
      | inl one ↦ inl (one.0, inr one.1, one.2, one.3, one.4)
      | inr free ↦ inr (λ c h j low e. elim h [
        | inl is ↦ false≢true (sym off ∙ subst (λ (v : WordId). is_in n b v ≡ true) (sym e) (subst (λ (d : Block). is_in n b (words_on d.first j) ≡ true) is (of_block n b j low)))
        | inr rest ↦ free c rest j low e
      ])
    ]
  ]

  -- what undoes the moves within versions, and the rest, undoes the whole
  pub led_back : (bs : List Block) → AreApart n bs → (to from : Block → ℕ → ℕ) (ids ids_back : WordId → WordId) → ((b : Block) (j : ℕ) → j < n → from b j < n) → ((b : Block) (j : ℕ) → j < n → to b (from b j) ≡ j) →
      ((w : WordId) → ids (ids_back w) ≡ w) → ((w : WordId) → IsFree n bs w → IsFree n bs (ids_back w)) → (w : WordId) → led_by to ids bs (led_by from ids_back bs w) ≡ w
  led_back bs apart to from ids ids_back low undo back stays w = elim (one_or_free bs w) [
    | inl one ↦ (
        let b : Block = one.0 in
        let j : ℕ = one.2 in
        ap (led_by to ids bs) (ap (led_by from ids_back bs) one.4 ∙ block_led from ids_back bs apart b one.1 j one.3)
        ∙ block_led to ids bs apart b one.1 (from b j) (low b j one.3) ∙ ap (λ (i : ℕ). words_on b.first i) (undo b j one.3) ∙ sym one.4)
    | inr free ↦ ap (led_by to ids bs) (free_led from ids_back bs w free) ∙ free_led to ids bs (ids_back w) (stays w free) ∙ back w
  ]
