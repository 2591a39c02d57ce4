-- Records that are accepted have as many places as a batch, and ask for keys, each at one place.
use Rattle.std.proofs.Common.{◌≡◌, ◌⊎◌, inl, inr, ⊎_elim, ℕ, zero, suc, ◌+◌, ◌-◌, ◌<◌, ◌≤◌, ◌==◌, Bool, true, false, not, ◌&&◌, ◌||◌, if◌then◌else◌, List, [], ◌∷◌, ◌++◌, length, Option, Some, None, get_or, refl, sym, ap, ◌∙◌, subst, arith, length-append}
use Rattle.std.specs.Prelude.{nat_lt}
use Rattle.std.specs.Int.{w64}
use Rattle.std.proofs.lemmas.Bool.Decides.{nat_tests}
use Rattle.std.proofs.lemmas.Bool.{cases_lt, cases_order}
use Rattle.std.proofs.lemmas.List.{get_or_past}
use Rattle.std.proofs.Math.ListN.{get_or-append}
use Rattle.std.proofs.Math.Seq.{get_or-append_seam}
use Rattle.ob_base.specs.declared.params.Params.{Params}
use Rattle.ob_base.specs.LittleEndian.{field_at}
use Rattle.ob_seal.specs.declared.keys.Keys.{Keys}
use Rattle.ob_store.specs.Disk.{Image}
use Rattle.ob_store.specs.Calls.{Holds}
use Rattle.ob_cells.specs.Rules.{Rule, first_broken, told_of, form_damage, epoch_damage}
use Rattle.ob_log.specs.Logs.{BatchRecord, RecordFits, RecordsFit, record_at}
use Rattle.ob_log.specs.Places.{kind_in, key_in, ask_in, asks_in, is_for, is_asked, kind_rule, key_rule, place_rules, batch_rule, record_rules, plain_damage}
use Rattle.ob_log.specs.Reads.{IsBody, AreAccepted}
use Rattle.ob_log.proofs.Apart.{AreBelow, AreApart}
use Rattle.ob_log.proofs.PlaceReads.{asks_many, words_many}

some≢none : {A : Type 0} {x : A} → ◌≡◌ {A = Option A} (Some x) None → ⊥
some≢none e = cc

some_same : (x y : ℕ) → ◌≡◌ {A = Option ℕ} (Some x) (Some y) → x ≡ y
some_same x y e = cc

true≢false : ◌≡◌ {A = Bool} true false → ⊥
true≢false e = cc

-- ---- rules that are all kept

head_kept : (r : Rule) (rules : List Rule) → first_broken (r ∷ rules) ≡ None → (r.obeys ≡ true) × (first_broken rules ≡ None)
head_kept r rules e = by_test r.obeys refl
  where
    by_test : (b : Bool) → r.obeys ≡ b → (r.obeys ≡ true) × (first_broken rules ≡ None)
    by_test true is = (is, sym (ap (λ t. if t then first_broken rules else Some r) is) ∙ e)
    by_test false is = absurd (some≢none (sym (ap (λ t. if t then first_broken rules else Some r) is) ∙ e))

both_kept : (xs ys : List Rule) → first_broken (xs ++ ys) ≡ None → (first_broken xs ≡ None) × (first_broken ys ≡ None)
both_kept [] ys e = (refl, e)
both_kept (r ∷ xs) ys e =
    let here = head_kept r (xs ++ ys) e in
    let more = both_kept xs ys here.1 in
    (ap (λ t. if t then first_broken xs else Some r) here.0 ∙ more.0, more.1)

-- ---- a key that no place asks for

for_itself : (k : ℕ) → is_for k (Some k) ≡ true
for_itself k = grind (arith, nat_tests)

asked_here : (k : ℕ) (asks : List (Option ℕ)) (i : ℕ) → get_or asks i None ≡ Some k → is_asked asks k ≡ true
asked_here k [] i e = absurd (some≢none (sym e))
asked_here k (a ∷ asks) zero e = ap (λ b. b || is_asked asks k) (ap (is_for k) e ∙ for_itself k)
asked_here k (a ∷ asks) (suc i) e = by_test (is_for k a) refl (asked_here k asks i e)
  where
    by_test : (b : Bool) → is_for k a ≡ b → is_asked asks k ≡ true → is_asked (a ∷ asks) k ≡ true
    by_test true is later = ap (λ b. b || is_asked asks k) is
    by_test false is later = ap (λ b. b || is_asked asks k) is ∙ later

-- ---- one place more

module _ (asks : List (Option ℕ)) (last : Option ℕ) where
  at_end : (i k : ℕ) → get_or (asks ++ last ∷ []) i None ≡ Some k → ((i < length asks) × (get_or asks i None ≡ Some k)) ⊎ ((i ≡ length asks) × (last ≡ Some k))
  at_end i k e = ⊎_elim
      (λ (lt : i < length asks). inl (lt, sym (get_or-append asks (last ∷ []) None i lt) ∙ e))
      (λ (ge : length asks ≤ i). ⊎_elim
      (λ (is : i ≡ length asks). inr (is, sym (get_or-append_seam asks last [] None) ∙ sym (ap (λ n. get_or (asks ++ last ∷ []) n None) is) ∙ e))
      (λ other. absurd (⊎_elim
      (λ (less : i < length asks). (let h : length asks ≤ i = ge in omega arith))
      (λ (past : length asks < i). some≢none (sym e ∙ get_or_past (asks ++ last ∷ []) i None (omega (arith, length-append asks (last ∷ [])))))
      other))
      (cases_order i (length asks)))
      (cases_lt i (length asks))

  module _ (n : ℕ) (low : AreBelow n asks) (apart : AreApart asks) (key_low : (k : ℕ) → last ≡ Some k → k < n) (new : (k : ℕ) → last ≡ Some k → is_asked asks k ≡ false) where
    low_on : AreBelow n (asks ++ last ∷ [])
    low_on i k e = ⊎_elim (λ at. low i k at.1) (λ at. key_low k at.1) (at_end i k e)

    apart_on : AreApart (asks ++ last ∷ [])
    apart_on i j k one two = ⊎_elim
        (λ a. ⊎_elim (λ b. apart i j k a.1 b.1) (λ b. absurd (true≢false (sym (asked_here k asks i a.1) ∙ new k b.1))) (at_end j k two))
        (λ a. ⊎_elim (λ b. absurd (true≢false (sym (asked_here k asks j b.1) ∙ new k a.1))) (λ b. a.0 ∙ sym b.0) (at_end j k two))
        (at_end i k one)

-- ---- the places of plain bytes

module _ (p : Params) (bytes : List ℕ) where
  and_true : (a b : Bool) → (a && b) ≡ true → (a ≡ true) × (b ≡ true)
  and_true true b e = (refl, e)
  and_true false b e = absurd (true≢false (sym e))

  lt_of : (a b : ℕ) → nat_lt a b ≡ true → a < b
  lt_of a b e = grind (arith, nat_tests)

  not_false : (b : Bool) → not b ≡ true → b ≡ false
  not_false true e = absurd (true≢false (sym e))
  not_false false e = refl

  -- what a kept rule says of the key that is told
  key_told : (i k : ℕ) → (key_rule p bytes i).obeys ≡ true → ask_in bytes i ≡ Some k → (k < p.keys) × (is_asked (asks_in bytes i) k ≡ false)
  key_told i k obeys e = by_test (kind_in bytes i == 0) refl
    where
      by_test : (b : Bool) → (kind_in bytes i == 0) ≡ b → (k < p.keys) × (is_asked (asks_in bytes i) k ≡ false)
      by_test true is = absurd (some≢none (sym e ∙ ap (λ b. if b then None else Some (key_in bytes i)) is))
      by_test false is =
          let same : key_in bytes i ≡ k = some_same (key_in bytes i) k (sym (ap (λ b. if b then None else Some (key_in bytes i)) is) ∙ e) in
          let both = and_true (nat_lt (key_in bytes i) p.keys) (not (is_asked (asks_in bytes i) (key_in bytes i)))
          (sym (ap (λ b. if b then key_in bytes i == 0 else nat_lt (key_in bytes i) p.keys && not (is_asked (asks_in bytes i) (key_in bytes i))) is) ∙ obeys) in
          (subst (λ n. n < p.keys) same (lt_of (key_in bytes i) p.keys both.0), subst (λ n. is_asked (asks_in bytes i) n ≡ false) same (not_false _ both.1))

  places_fit : (n : ℕ) → first_broken (place_rules p bytes n) ≡ None → AreBelow p.keys (asks_in bytes n) × AreApart (asks_in bytes n)
  places_fit zero e = (λ i k none. absurd (some≢none (sym none)), λ i j k none two. absurd (some≢none (sym none)))
  places_fit (suc n) e =
      let parts = both_kept (place_rules p bytes n) (kind_rule p bytes n ∷ key_rule p bytes n ∷ []) e in
      let before = places_fit n parts.0 in
      let key = (head_kept (key_rule p bytes n) [] (head_kept (kind_rule p bytes n) (key_rule p bytes n ∷ []) parts.1).1).0 in (
        low_on (asks_in bytes n) (ask_in bytes n) p.keys before.0 before.1 (λ k is. (key_told n k key is).0) (λ k is. (key_told n k key is).1),
        apart_on (asks_in bytes n) (ask_in bytes n) p.keys before.0 before.1 (λ k is. (key_told n k key is).0) (λ k is. (key_told n k key is).1),
      )

  plain_kept : (epoch b cell : ℕ) → plain_damage p epoch b cell bytes ≡ None → first_broken (place_rules p bytes p.places) ≡ None
  plain_kept epoch b cell e = by_test (field_at w64 bytes 0 == epoch) refl
    where
      by_test : (t : Bool) → (field_at w64 bytes 0 == epoch) ≡ t → first_broken (place_rules p bytes p.places) ≡ None
      by_test true is = (head_kept (batch_rule b bytes) (place_rules p bytes p.places) (none_told _ (sym (ap (λ t. if t then form_damage cell (record_rules p b bytes) else Some (epoch_damage cell (field_at w64 bytes 0) epoch)) is) ∙ e))).1
        where
          none_told : (o : Option Rule) → told_of cell o ≡ None → o ≡ None
          none_told None h = refl
          none_told (Some r) h = absurd (some≢none h)
      by_test false is = absurd (some≢none (sym (ap (λ t. if t then form_damage cell (record_rules p b bytes) else Some (epoch_damage cell (field_at w64 bytes 0) epoch)) is) ∙ e))

-- ---- the records

module _ (keys : Keys) (p : Params) (epoch : ℕ) where
  body_fits : (b cell : ℕ) (cells : ℕ → List ℕ) (r : BatchRecord) → IsBody keys p epoch b cell cells r → RecordFits p b r
  body_fits b cell cells r body =
      let fit = places_fit p body.bytes p.places (plain_kept p body.bytes epoch b cell body.whole) in
      subst (RecordFits p b) (sym body.tells) (record {
        batch_is = refl;
        asks_many = asks_many body.bytes p.places;
        words_many = words_many body.bytes p.places;
        keys_low = fit.0;
        keys_apart = fit.1;
      })

  pub accepted_fit : (rs : List BatchRecord) (image : Image) → AreAccepted keys p epoch rs image → RecordsFit p rs
  accepted_fit rs image are = record { few = are.few; each = λ b lt. body_fits b _ _ (record_at rs b) (are.each b lt) }

-- ---- cells lie in some image

abbrev pub image_of : ℕ → List (List ℕ) → Image
image_of base cells c = get_or cells (c - base) []

pub image_holds : (base : ℕ) (cells : List (List ℕ)) → Holds base cells (image_of base cells)
image_holds base cells i lt = ap (λ n. get_or cells n []) (let h : base + i - base ≡ i = omega arith in h)
