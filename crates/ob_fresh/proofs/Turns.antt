-- Acts that draw in turn, one behind the other.
use Rattle.std.specs.Prelude.{◌≡◌, ℕ, ◌+◌, List, [], ◌∷◌, ◌++◌, length, Option, None, Some}
use Rattle.std.proofs.Common.{refl, sym, ap, ◌∙◌}
use Rattle.ob_base.specs.declared.params.Params.{Params}
use Rattle.ob_recover.specs.Life.{WordId, LifeState, LifeAct, Open, Append, ShowBatch, ShowLifts, End, life_step, reached}
use Rattle.ob_fresh.specs.Drawn.{AllDrawNext, DrawInTurn, DrawsNext, WordsKept, words_behind, words_step}

module _ (p : Params) (word_of : WordId → ℕ) where
  pub kept_on : (s : LifeState) (k : WordsKept) (xs ys : List LifeAct) → words_behind p word_of s k (xs ++ ys) ≡ words_behind p word_of (reached p word_of s xs) (words_behind p word_of s k xs) ys
  kept_on s k [] ys = refl
  kept_on s k (x ∷ xs) ys = kept_on (life_step p word_of s x) (words_step p word_of s k x) xs ys

  pub next_on : (s : LifeState) (k : WordsKept) (xs ys : List LifeAct) → AllDrawNext p word_of s k xs → AllDrawNext p word_of (reached p word_of s xs) (words_behind p word_of s k xs) ys → AllDrawNext p word_of s k (xs ++ ys)
  next_on s k [] ys one two = two
  next_on s k (x ∷ xs) ys one two = (one.0, next_on (life_step p word_of s x) (words_step p word_of s k x) xs ys one.1 two)

  -- so many words as the life has drawn
  drawn_step : (s : LifeState) (k : WordsKept) (a : LifeAct) → DrawsNext p word_of s k a → k.drawn ≡ s.drawn → (words_step p word_of s k a).drawn ≡ (life_step p word_of s a).drawn
  drawn_step s k (Open g) next same = refl
  drawn_step s k (Append r) next same = ap (λ (w : WordId). w.place + length r.asks) (sym next)
  drawn_step s k ShowBatch next same = same
  drawn_step s k ShowLifts next same = same
  drawn_step s k (End ws drawn slot) next same = sym next.many

  pub drawn_same : (s : LifeState) (k : WordsKept) (acts : List LifeAct) → AllDrawNext p word_of s k acts → k.drawn ≡ s.drawn → (words_behind p word_of s k acts).drawn ≡ (reached p word_of s acts).drawn
  drawn_same s k [] next same = same
  drawn_same s k (a ∷ rest) next same = drawn_same (life_step p word_of s a) (words_step p word_of s k a) rest next.1 (drawn_step s k a next.0 same)

  -- where nothing is in flight
  none_flies : (a : LifeAct) (A : Type 0) → ◌≡◌ {A = Option LifeAct} None (Some a) → A
  none_flies a A e = absurd (cc)

  pub all_made : (s : LifeState) (k : WordsKept) (made : List LifeAct) → AllDrawNext p word_of s k made → DrawInTurn p word_of s k made None
  all_made s k made next = record { made_next = next; flying_next = λ a e. none_flies a (DrawsNext p word_of (reached p word_of s made) (words_behind p word_of s k made) a) e }
