-- What the places of a record tell, place by place.
use Rattle.std.proofs.Common.{◌≡◌, inl, inr, ℕ, zero, suc, ◌+◌, ◌<◌, true, false, if◌then◌else◌, List, [], ◌∷◌, ◌++◌, Option, Some, None, length, refl, sym, ap, ◌∙◌, arith, add-one, length-append}
use Rattle.std.proofs.lemmas.Bool.{cases_eq}
use Rattle.ob_base.specs.declared.params.Params.{Params}
use Rattle.ob_base.specs.declared.fault.Damaged.{Damaged}
use Rattle.ob_cells.specs.Rules.{Rule, first_broken, told_of}
use Rattle.ob_cells.proofs.RuleLaws.{kept_then, broken_then}
use Rattle.ob_log.specs.Places.{ask_in, asks_in, word_in, words_in, is_asked, least_from, kind_rule, key_rule, place_rules}

-- ---- the least key that no place asks for

pub least_on : (asks : List (Option ℕ)) (key left : ℕ) → is_asked asks key ≡ true → least_from asks key (suc left) ≡ least_from asks (key + 1) left
least_on asks key left e = ap (λ b. if b then least_from asks (key + 1) left else key) e

pub least_here : (asks : List (Option ℕ)) (key left : ℕ) → is_asked asks key ≡ false → least_from asks key (suc left) ≡ key
least_here asks key left e = ap (λ b. if b then least_from asks (key + 1) left else key) e

-- ---- one place more

pub asks_more : (bytes : List ℕ) (n : ℕ) → asks_in bytes (n + 1) ≡ asks_in bytes n ++ ask_in bytes n ∷ []
asks_more bytes n = ap (asks_in bytes) (add-one n)

pub words_more : (bytes : List ℕ) (n : ℕ) → words_in bytes (n + 1) ≡ words_in bytes n ++ word_in bytes n ∷ []
words_more bytes n = ap (words_in bytes) (add-one n)

pub rules_more : (p : Params) (bytes : List ℕ) (n : ℕ) → place_rules p bytes (n + 1) ≡ place_rules p bytes n ++ (kind_rule p bytes n ∷ key_rule p bytes n ∷ [])
rules_more p bytes n = ap (place_rules p bytes) (add-one n)

pub asks_many : (bytes : List ℕ) (n : ℕ) → length (asks_in bytes n) ≡ n
asks_many bytes zero = refl
asks_many bytes (suc n) = let so = asks_many bytes n in omega (arith, length-append (asks_in bytes n) (ask_in bytes n ∷ []))

pub words_many : (bytes : List ℕ) (n : ℕ) → length (words_in bytes n) ≡ n
words_many bytes zero = refl
words_many bytes (suc n) = let so = words_many bytes n in omega (arith, length-append (words_in bytes n) (word_in bytes n ∷ []))

-- ---- the first rule that is broken

module _ (p : Params) (bytes : List ℕ) where
  abbrev rules_at : ℕ → List Rule
  rules_at i = kind_rule p bytes i ∷ key_rule p bytes i ∷ []

  pub kept_on : (i : ℕ) → first_broken (place_rules p bytes i) ≡ None → first_broken (kind_rule p bytes i ∷ key_rule p bytes i ∷ []) ≡ None → first_broken (place_rules p bytes (i + 1)) ≡ None
  kept_on i so_far here = ap first_broken (rules_more p bytes i) ∙ kept_then (place_rules p bytes i) (rules_at i) so_far ∙ here

  broken_at : (many i : ℕ) (r : Rule) → i < many → first_broken (place_rules p bytes i) ≡ None → first_broken (rules_at i) ≡ Some r → first_broken (place_rules p bytes many) ≡ Some r
  broken_at zero i r lt so_far here = absurd (omega arith)
  broken_at (suc n) i r lt so_far here = elim (cases_eq i n) [
    | inl same ↦ kept_then (place_rules p bytes n) (rules_at n) (ap (λ m. first_broken (place_rules p bytes m)) (sym same) ∙ so_far) ∙ ap (λ m. first_broken (rules_at m)) (sym same) ∙ here
    | inr ne ↦ broken_then (place_rules p bytes n) (rules_at n) r (broken_at n i r (omega arith) so_far here)
  ]

  -- a place that breaks a rule is told, whatever the later ones have
  pub stops_at : (cell i many : ℕ) (d : Damaged) → i < many → first_broken (place_rules p bytes i) ≡ None → told_of cell (first_broken (kind_rule p bytes i ∷ key_rule p bytes i ∷ [])) ≡ Some d
      → told_of cell (first_broken (place_rules p bytes many)) ≡ Some d
  stops_at cell i many d lt so_far told = by_rule (first_broken (rules_at i)) refl
    where
      none≢some : None ≡ Some d → ⊥
      none≢some h = cc

      by_rule : (o : Option Rule) → first_broken (rules_at i) ≡ o → told_of cell (first_broken (place_rules p bytes many)) ≡ Some d
      by_rule None is = absurd (none≢some (sym (ap (told_of cell) is) ∙ told))
      by_rule (Some r) is = ap (told_of cell) (broken_at many i r lt so_far is ∙ sym is) ∙ told
