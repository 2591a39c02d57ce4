-- The words of three tapes, of three generations.
use Rattle.std.specs.Prelude.{if◌then◌else◌, slice_index, ◌==◌}
use Rattle.std.proofs.Common.{◌≡◌, ◌∙◌, ℕ, Bool, List, ap, refl}
use Rattle.std.proofs.lemmas.Bool.{eq-eqb, ne_eqb}
use Rattle.ob_recover.specs.Life.{WordId}
use Rattle.ob_vault.specs.Acts.{AreTapeWords}

-- those of one generation are the first run's tape's, those of generation 1 the format's, and all others the second run's
pub word_in : (generation : ℕ) (made first second : List ℕ) → WordId → ℕ
word_in generation made first second w = if w.generation == generation then slice_index first w.place else (if w.generation == 1 then slice_index made w.place else slice_index second w.place)

module _ (generation : ℕ) (made first second : List ℕ) where
  -- the words of any other generation
  abbrev other_at : ℕ → Bool → ℕ
  other_at i b = if b then slice_index made i else slice_index second i

  pub first_given : AreTapeWords (word_in generation made first second) generation first
  unfolding word_in
  first_given i lt = ap (λ (b : Bool). if b then slice_index first i else other_at i (generation == 1)) (eq-eqb generation generation refl)

  pub made_given : (1 ≡ generation → ⊥) → AreTapeWords (word_in generation made first second) 1 made
  unfolding word_in
  made_given apart i lt = ap (λ (b : Bool). if b then slice_index first i else other_at i (1 == 1)) (ne_eqb 1 generation apart)

  pub second_given : (other : ℕ) → (other ≡ generation → ⊥) → (other ≡ 1 → ⊥) → AreTapeWords (word_in generation made first second) other second
  unfolding word_in
  second_given other apart later i lt = ap (λ (b : Bool). if b then slice_index first i else other_at i (other == 1)) (ne_eqb other generation apart) ∙ ap (other_at i) (ne_eqb other 1 later)
