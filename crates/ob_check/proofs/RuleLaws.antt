-- The first broken rule of a row of parts.
use Rattle.std.specs.Prelude.{◌≡◌, ◌<◌, ◌≤◌, ℕ, ◌+◌, Bool, true, false, List, [], ◌∷◌, ◌++◌, Option, Some, None, if◌then◌else◌}
use Rattle.std.specs.List.{flat_map}
use Rattle.std.proofs.Common.{zero, suc, arith, refl, sym, ap, ◌∙◌, inl, inr}
use Rattle.std.proofs.lemmas.Bool.{cases_eq}
use Rattle.std.proofs.lemmas.List.{append-nil}
use Rattle.std.proofs.lemmas.List.Concat.{flat_map-append}
use Rattle.ob_base.specs.Tree.{below}
use Rattle.ob_tables.proofs.VersionLaws.{range_up}
use Rattle.ob_cells.specs.Rules.{Rule, first_broken, or_rule}
use Rattle.ob_cells.proofs.RuleLaws.{first_append, or_none, kept_then, broken_then}

if_none : (b : Bool) (x : Option Rule) (r : Rule) → (if b then x else Some r) ≡ None → (b ≡ true) × (x ≡ None)
if_none true x r e = (refl, e)
if_none false x r e = absurd (some≢none e)
  where
    some≢none : {r : Rule} → Some r ≡ None → ⊥
    some≢none e = cc

pub one_kept : (r : Rule) (rs : List Rule) → first_broken (r ∷ rs) ≡ None → (r.obeys ≡ true) × (first_broken rs ≡ None)
one_kept r rs e = if_none r.obeys (first_broken rs) r e

module _ (f : ℕ → List Rule) where
  pub parts_more : (n : ℕ) → flat_map f (below (n + 1)) ≡ flat_map f (below n) ++ f n
  parts_more n = ap (flat_map f) (range_up n) ∙ flat_map-append f (below n) (n ∷ []) ∙ ap (λ (xs : List Rule). flat_map f (below n) ++ xs) (append-nil (f n))

  pub parts_go : (n : ℕ) → first_broken (flat_map f (below n)) ≡ None → first_broken (f n) ≡ None → first_broken (flat_map f (below (n + 1))) ≡ None
  parts_go n so_far here = ap first_broken (parts_more n) ∙ kept_then (flat_map f (below n)) (f n) so_far ∙ here

  parts_suc : (n : ℕ) → first_broken (flat_map f (below (suc n))) ≡ or_rule (first_broken (flat_map f (below n))) (first_broken (f n))
  parts_suc n = let e : suc n ≡ n + 1 = omega arith in ap (λ m. first_broken (flat_map f (below m))) e ∙ ap first_broken (parts_more n) ∙ first_append (flat_map f (below n)) (f n)

  pub parts_stop : (n i : ℕ) (r : Rule) → i < n → first_broken (flat_map f (below i)) ≡ None → first_broken (f i) ≡ Some r → first_broken (flat_map f (below n)) ≡ Some r
  parts_stop zero i r lt so_far here = absurd (omega arith)
  parts_stop (suc n) i r lt so_far here = elim (cases_eq i n) [
    | inl same ↦ parts_suc n ∙ ap (λ (o : Option Rule). or_rule o (first_broken (f n))) (ap (λ m. first_broken (flat_map f (below m))) (sym same) ∙ so_far) ∙ ap (λ m. first_broken (f m)) (sym same) ∙ here
    | inr ne ↦ parts_suc n ∙ ap (λ (o : Option Rule). or_rule o (first_broken (f n))) (parts_stop n i r (omega arith) so_far here)
  ]

  pub parts_at : (n i : ℕ) → i < n → first_broken (flat_map f (below n)) ≡ None → first_broken (f i) ≡ None
  parts_at zero i lt all = absurd (omega arith)
  parts_at (suc n) i lt all =
      let both : (first_broken (flat_map f (below n)) ≡ None) × (first_broken (f n) ≡ None) = or_none _ _ (sym (parts_suc n) ∙ all) in
      elim (cases_eq i n) [
        | inl same ↦ ap (λ m. first_broken (f m)) same ∙ both.1
        | inr ne ↦ parts_at n i (omega arith) both.0
      ]

  pub parts_all : (n i : ℕ) → n ≤ i → i ≤ n → first_broken (flat_map f (below i)) ≡ None → first_broken (flat_map f (below n)) ≡ None
  parts_all n i le ge e = let same : n ≡ i = omega arith in ap (λ m. first_broken (flat_map f (below m))) same ∙ e

pub rule_is : (a b c d : ℕ) (x y : Bool) (e f : ℕ) → a ≡ b → c ≡ d → x ≡ y → e ≡ f → ◌≡◌ {A = Rule} (record { place = a; kept = c; obeys = x; least = e }) (record { place = b; kept = d; obeys = y; least = f })
rule_is a b c d x y e f p q r s = rw (p, q, r, s) refl

-- one rule
pub kept_rule : (a k : ℕ) (x : Bool) (l : ℕ) → x ≡ true → None ≡ first_broken (record { place = a; kept = k; obeys = x; least = l } ∷ [])
kept_rule a k x l is = rw is refl

pub broken_rule : (a k : ℕ) (x : Bool) (l m : ℕ) → x ≡ false → l ≡ m → Some (record { place = a; kept = k; obeys = false; least = l }) ≡ first_broken (record { place = a; kept = k; obeys = x; least = m } ∷ [])
broken_rule a k x l m is same = rw (is, same) refl

-- two rules that were tested one after the other
pub two_rules : (r r' s s' : Rule) (a b c : Option Rule) → c ≡ or_rule a b → a ≡ first_broken (r ∷ []) → b ≡ first_broken (s ∷ []) → r ≡ r' → s ≡ s' → c ≡ first_broken (r' ∷ s' ∷ [])
two_rules r r' s s' a b c joined one other same same' =
    joined ∙ ap (λ (o : Option Rule). or_rule o b) (one ∙ ap (λ (x : Rule). first_broken (x ∷ [])) same) ∙ ap (or_rule (first_broken (r' ∷ []))) (other ∙ ap (λ (x : Rule). first_broken (x ∷ [])) same')
    ∙ sym (first_append (r' ∷ []) (s' ∷ []))

-- four parts, one behind the other
module _ (a b c d : List Rule) where
  pub at_first : (r : Rule) → first_broken a ≡ Some r → first_broken (a ++ (b ++ (c ++ d))) ≡ Some r
  at_first r one = broken_then a (b ++ (c ++ d)) r one

  pub at_second : (r : Rule) → first_broken a ≡ None → first_broken b ≡ Some r → first_broken (a ++ (b ++ (c ++ d))) ≡ Some r
  at_second r one two = kept_then a (b ++ (c ++ d)) one ∙ broken_then b (c ++ d) r two

  pub at_third : (r : Rule) → first_broken a ≡ None → first_broken b ≡ None → first_broken c ≡ Some r → first_broken (a ++ (b ++ (c ++ d))) ≡ Some r
  at_third r one two three = kept_then a (b ++ (c ++ d)) one ∙ kept_then b (c ++ d) two ∙ broken_then c d r three

  pub at_last : first_broken a ≡ None → first_broken b ≡ None → first_broken c ≡ None → first_broken (a ++ (b ++ (c ++ d))) ≡ first_broken d
  at_last one two three = kept_then a (b ++ (c ++ d)) one ∙ kept_then b (c ++ d) two ∙ kept_then c d three
