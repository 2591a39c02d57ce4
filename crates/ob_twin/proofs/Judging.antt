-- What the four cells of a register tell.
use Rattle.std.proofs.Common.{◌≡◌, ◌⊎◌, inl, inr, ⊎_elim, ℕ, zero, suc, ◌+◌, ◌-◌, ◌%◌, ◌<◌, ◌≤◌, max, List, Option, Some, None, Result, Ok, Err, sym, ◌∙◌, ap, subst, arith}
use Rattle.std.proofs.lemmas.Bool.{cases_eq}
use Rattle.ob_base.specs.declared.fault.Damaged.{Damaged}
use Rattle.ob_store.specs.Disk.{Image}
use Rattle.ob_twin.specs.Bodies.{Tagging, IsWholeBody, number_of}
use Rattle.ob_twin.specs.Register.{body_at, gate_at, place_of, IsOpen, number_at, StandsAt}
use Rattle.ob_twin.specs.Reading.{IsTwinDamage, IsPlace, AllWhole, IsRead, greater}

pub at_place : (Q : ℕ → Type 0) → Q 0 → Q 1 → (place : ℕ) → place < 2 → Q place
at_place Q a b zero lt = a
at_place Q a b (suc zero) lt = b
at_place Q a b (suc (suc n)) lt = absurd (omega arith)

-- the cells of a place, as an image has them
module _ (tag : Tagging) (first place cell : ℕ) (image : Image) (gate body : List ℕ) (at : cell ≡ body_at first place) (body_is : body ≡ image (body_at first place)) (gate_is : gate ≡ image (gate_at first place)) where
  pub place_none : IsPlace tag cell gate body (Ok None) → IsOpen first image place → ⊥
  place_none shut opened = shut (gate_is ∙ opened)

  pub place_some : (n : ℕ) → IsPlace tag cell gate body (Ok (Some n)) → IsOpen first image place × IsWholeBody tag (body_at first place) (image (body_at first place)) × (number_at first image place ≡ n)
  place_some n p = (
    sym gate_is ∙ p.0,
    subst (λ (l : List ℕ). IsWholeBody tag (body_at first place) l) body_is (subst (λ k. IsWholeBody tag k body) at p.1),
    sym (p.2 ∙ ap number_of body_is),
  )

  pub place_err : (d : Damaged) → IsPlace tag cell gate body (Err d) → IsOpen first image place × IsTwinDamage tag (body_at first place) (image (body_at first place)) d
  place_err d p = (
    sym gate_is ∙ p.0,
    subst (λ (l : List ℕ). IsTwinDamage tag (body_at first place) l d) body_is (subst (λ k. IsTwinDamage tag k body d) at p.1),
  )

module _ (tag : Tagging) (first a b : ℕ) (image : Image) (gz bz go bo : List ℕ) (at_zero : a ≡ body_at first 0) (at_one : b ≡ body_at first 1)
    (bz_is : bz ≡ image (body_at first 0)) (gz_is : gz ≡ image (gate_at first 0)) (bo_is : bo ≡ image (body_at first 1)) (go_is : go ≡ image (gate_at first 1)) where
  pub err_zero : (d : Damaged) → IsPlace tag a gz bz (Err d) → IsRead tag first image (Err d)
  err_zero d p =
      let here = place_err tag first 0 a image gz bz at_zero bz_is gz_is d p in
      (0, omega arith, here.0, here.1, λ earlier lt _. absurd (omega arith))

  whole_zero : (o : Option ℕ) → IsPlace tag a gz bz (Ok o) → IsOpen first image 0 → IsWholeBody tag (body_at first 0) (image (body_at first 0))
  whole_zero None p opened = absurd (place_none tag first 0 a image gz bz at_zero bz_is gz_is p opened)
  whole_zero (Some n) p opened = (place_some tag first 0 a image gz bz at_zero bz_is gz_is n p).1

  whole_one : (o : Option ℕ) → IsPlace tag b go bo (Ok o) → IsOpen first image 1 → IsWholeBody tag (body_at first 1) (image (body_at first 1))
  whole_one None p opened = absurd (place_none tag first 1 b image go bo at_one bo_is go_is p opened)
  whole_one (Some n) p opened = (place_some tag first 1 b image go bo at_one bo_is go_is n p).1

  pub err_one : (low : Option ℕ) (d : Damaged) → IsPlace tag a gz bz (Ok low) → IsPlace tag b go bo (Err d) → IsRead tag first image (Err d)
  err_one low d p q =
      let here = place_err tag first 1 b image go bo at_one bo_is go_is d q in
      (1, omega arith, here.0, here.1, λ earlier lt. only_zero earlier lt)
    where
      only_zero : (earlier : ℕ) → earlier < 1 → IsOpen first image earlier → IsWholeBody tag (body_at first earlier) (image (body_at first earlier))
      only_zero earlier lt = let none : 0 ≡ earlier = omega arith in subst (λ k. IsOpen first image k → IsWholeBody tag (body_at first k) (image (body_at first k))) none (whole_zero low p)

  all_whole : (low high : Option ℕ) → IsPlace tag a gz bz (Ok low) → IsPlace tag b go bo (Ok high) → AllWhole tag first image
  all_whole low high p q = at_place (λ k. IsOpen first image k → IsWholeBody tag (body_at first k) (image (body_at first k))) (whole_zero low p) (whole_one high q)

  pub both_read : (low high : Option ℕ) → IsPlace tag a gz bz (Ok low) → IsPlace tag b go bo (Ok high) → IsRead tag first image (Ok (greater low high))
  both_read None None p q =
      at_place (λ k. IsOpen first image k → ⊥) (place_none tag first 0 a image gz bz at_zero bz_is gz_is p) (place_none tag first 1 b image go bo at_one bo_is go_is q)
  both_read (Some n) None p q =
      let here = place_some tag first 0 a image gz bz at_zero bz_is gz_is n p in (
        all_whole (Some n) None p q,
        record {
          some = (0, omega arith, here.0, here.2);
          greatest = at_place (λ k. IsOpen first image k → number_at first image k ≤ n) (λ _. omega (arith, here.2)) (λ opened. absurd (place_none tag first 1 b image go bo at_one bo_is go_is q opened));
        },
      )
  both_read None (Some n) p q =
      let here = place_some tag first 1 b image go bo at_one bo_is go_is n q in (
        all_whole None (Some n) p q,
        record {
          some = (1, omega arith, here.0, here.2);
          greatest = at_place (λ k. IsOpen first image k → number_at first image k ≤ n) (λ opened. absurd (place_none tag first 0 a image gz bz at_zero bz_is gz_is p opened)) (λ _. omega (arith, here.2));
        },
      )
  both_read (Some n) (Some m) p q =
      let one = place_some tag first 0 a image gz bz at_zero bz_is gz_is n p in
      let two = place_some tag first 1 b image go bo at_one bo_is go_is m q in (
        all_whole (Some n) (Some m) p q,
        record {
          some = ⊎_elim (λ none. (1, omega arith, two.0, two.2 ∙ omega arith)) (λ more. (0, omega arith, one.0, one.2 ∙ omega arith)) (cases_eq (n - m) 0);
          greatest = at_place (λ k. IsOpen first image k → number_at first image k ≤ max n m) (λ _. omega (arith, one.2)) (λ _. omega (arith, two.2));
        },
      )

-- Where a register stands at a number, that is what is read.
module _ (tag : Tagging) (first n : ℕ) (image : Image) (stands : StandsAt tag first image n) where
  either_place : (place : ℕ) → place < 2 → (place ≡ place_of n) ⊎ (place ≡ place_of (n + 1))
  either_place place lt = ⊎_elim (λ e. inl e) (λ ne. inr (omega arith)) (cases_eq place (n % 2))

  at_or_under : (place : ℕ) → place < 2 → IsOpen first image place → IsWholeBody tag (body_at first place) (image (body_at first place)) × (number_at first image place ≤ n)
  at_or_under place lt opened = ⊎_elim
      (λ (e : place ≡ place_of n).
      let number = stands.number in
      let small = stands.small in
      subst (λ k. IsWholeBody tag (body_at first k) (image (body_at first k)) × (number_at first image k ≤ n)) (sym e) ((stands.stamped, omega arith), omega arith))
      (λ (e : place ≡ place_of (n + 1)).
      let small = stands.small in
      let under = stands.other (subst (λ k. IsOpen first image k) e opened) in
      let le = under.1 in
      subst (λ k. IsWholeBody tag (body_at first k) (image (body_at first k)) × (number_at first image k ≤ n)) (sym e) ((under.0, omega arith), le))
      (either_place place lt)

  pub read_at : (r : Result (Option ℕ) Damaged) → IsRead tag first image r → r ≡ Ok (Some n)
  read_at (Ok None) none = absurd (none (place_of n) (omega arith) stands.open_at)
  read_at (Ok (Some m)) p =
      let some = p.1.some in
      let le = (at_or_under some.0 some.1 some.2).1 in
      let ge = p.1.greatest (place_of n) (omega arith) stands.open_at in
      let number = stands.number in
      let is = some.3 in
      let same : m ≡ n = omega arith in
      ap (λ (k : ℕ). Ok (Some k)) same
  read_at (Err d) p =
      let whole = (at_or_under p.0 p.1 p.2).0 in
      absurd (⊎_elim (λ misstamped. misstamped.differs whole.0) (λ great. let g = great.1.great in let small = whole.1 in omega arith) p.3)

  pub number_read : (o : Option ℕ) → IsRead tag first image (Ok o) → o ≡ Some n
  number_read o p = let is = read_at (Ok o) p in cc

  pub damage_read : (d : Damaged) → IsRead tag first image (Err d) → ⊥
  damage_read d p = let is = read_at (Err d) p in cc
