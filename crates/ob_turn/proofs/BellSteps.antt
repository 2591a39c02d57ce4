-- Each step at a bell keeps its rule.
use Rattle.std.proofs.Common.{◌≡◌, ◌≢◌, ℕ, zero, suc, ◌+◌, ◌%◌, ◌^◌, ◌<◌, ◌≤◌, Bool, true, false, cond, ◌||◌, ◌⊎◌, inl, inr, List, [], ◌∷◌, ◌++◌, set, slice_set, slice_index, refl, ap, sym, ◌∙◌, subst, arith, ⊎_elim, le_refl}
use Rattle.std.specs.List.{All}
use Rattle.std.proofs.lemmas.List.Elements.{All-nil, All-cons, All-append, All-weaker}
use mathlib.Core.Option.{some, none, some-injective, some-ne-none}
use mathlib.Core.Logic.{dite}
use mathlib.Core.List.{IsPrefix}
use native.Mathlib.Decide.{ℕ_discrete}
use lib.ListN.{get_elem?}
use Rattle.atomic_table.specs.Table.{State, Me, step, keeps, Allows, Splits, Joins, Final, Seen, opening}
use Rattle.atomic_table.proofs.Lists.{at_set, at_snoc, at_longer, set_else}
use Rattle.ob_turn.specs.declared.bell.Heard.{Heard}
use Rattle.ob_turn.specs.TurnRule.{total}
use Rattle.ob_turn.specs.BellHistory.{latest, NumbersRise, Knows, HasRaiser, Rung, parts_heard, first_heard, kept_part, heard_anew, told_either, both_heard, spent_heard, Looks, AddsNumber}
use Rattle.ob_turn.proofs.Prefixes.{prefix_self, prefix_snoc, longer-prefix}
use Rattle.ob_turn.proofs.Totals.{total_set, total_snoc, total_two, set_there}

pub latest-snoc : (n x : ℕ) (xs : List ℕ) → latest n (xs ++ x ∷ []) ≡ x
latest-snoc n x [] = refl
latest-snoc n x (y ∷ ys) = latest-snoc y x ys

rises-snoc : (n x : ℕ) (xs : List ℕ) → NumbersRise n xs → latest n xs ≤ x → NumbersRise n (xs ++ x ∷ [])
rises-snoc n x [] r le = (le, tt)
rises-snoc n x (y ∷ ys) r le = (r.0, rises-snoc y x ys r.1 le)

-- What was told is at most what is there.
rises-up : (n : ℕ) (xs : List ℕ) → NumbersRise n xs → n ≤ latest n xs
rises-up n [] r = le_refl n
rises-up n (x ∷ xs) r = let h = rises-up x xs r.1 in let a = r.0 in omega arith

rises-prefix : (n : ℕ) (xs ys zs : List ℕ) → xs ++ zs ≡ ys → NumbersRise n ys → latest n xs ≤ latest n ys
rises-prefix n [] ys zs e r = rises-up n ys r
rises-prefix n (x ∷ xs) [] zs e r = absurd (cc e)
rises-prefix n (x ∷ xs) (y ∷ ys) zs e r =
    let head : x ≡ y = cc e in
    let tail : xs ++ zs ≡ ys = cc e in
    subst (λ (k : ℕ). latest k xs ≤ latest y ys) (sym head) (rises-prefix y xs ys zs tail r.1)

-- Which of two seats raises, once one took in the other.
one_of : (a b : Bool) → (a || b) ≡ true → (a ≡ true) ⊎ (b ≡ true)
one_of true b e = inl refl
one_of false b e = inr e

either_raises : (a b : Bool) → (a ≡ true) ⊎ (b ≡ true) → (a || b) ≡ true
either_raises true b _ = refl
either_raises false b (inl e) = absurd (cc e)
either_raises false b (inr e) = e

either_prefix : (a b : Bool) (xs ys zs : List ℕ) → IsPrefix xs zs → IsPrefix ys zs → IsPrefix (told_either a b xs ys) zs
either_prefix true b xs ys zs p q = p
either_prefix false true xs ys zs p q = q
either_prefix false false xs ys zs p q = longer-prefix xs ys zs p q

either_whole : (a b : Bool) (xs ys log : List ℕ) → (a ≡ true → xs ≡ log) → (b ≡ true → ys ≡ log) → (a || b) ≡ true → told_either a b xs ys ≡ log
either_whole true b xs ys log f g _ = f refl
either_whole false true xs ys log f g _ = g refl
either_whole false false xs ys log f g e = absurd (cc e)

own_raiser : (b : Bool) (id raiser : ℕ) → id ≡ raiser → id ≡ cond b id raiser
own_raiser true id raiser e = refl
own_raiser false id raiser e = e

taken_raiser : (b : Bool) (id raiser : ℕ) → b ≡ true → id ≡ cond b id raiser
taken_raiser true id raiser e = refl
taken_raiser false id raiser e = absurd (cc e)

other_raiser : (b : Bool) (id raiser j : ℕ) → (b ≡ true → ⊥) → j ≡ raiser → j ≡ cond b id raiser
other_raiser true id raiser j no_one e = absurd (no_one refl)
other_raiser false id raiser j no_one e = e

-- What each seat knows is so, after one of them changed.
others : (log : List ℕ) (raiser : ℕ) (views : List Heard) (id : ℕ) (w : Heard) → Knows log raiser id w
    → ((j : ℕ) (v : Heard) → j ≢ id → get_elem? views j ≡ some v → Knows log raiser j v)
    → (j : ℕ) (v : Heard) → get_elem? (set views id w) j ≡ some v → Knows log raiser j v
others log raiser views id w mine rest j v e = ⊎_elim
    (λ (t : (j ≡ id) × (w ≡ v)). subst (λ (u : Heard). Knows log raiser j u) t.1 (subst (λ (k : ℕ). Knows log raiser k w) (sym t.0) mine))
    (λ (t : (j ≢ id) × (get_elem? views j ≡ some v)). rest j v t.0 t.1)
    (at_set views id j w v e)

-- The seat that raises still is there, after one seat changed that raises as before and has a part where it had one.
raiser_stays : (views : List Heard) (id raiser : ℕ) (v w : Heard) → get_elem? views id ≡ some v → (v.raises ≡ true → w.raises ≡ true) → (0 < v.parts → 0 < w.parts) → HasRaiser views raiser → HasRaiser (set views id w) raiser
raiser_stays views id raiser v w at raises parts h = dite (ℕ_discrete raiser id)
    (λ same.
    let is : h.0 ≡ v = some-injective h.0 v (sym h.1 ∙ (ap (get_elem? views) same ∙ at)) in
    (w, subst (λ (k : ℕ). get_elem? (set views id w) k ≡ some w) (sym same) (set_there views id v w at), raises (subst (λ (u : Heard). u.raises ≡ true) is h.2), parts (subst (λ (u : Heard). 0 < u.parts) is h.3)))
    (λ ne. (h.0, set_else views id raiser w ne ∙ h.1, h.2, h.3))

parts_stay : (seats : ℕ) (views : List Heard) (id : ℕ) (v w : Heard) → get_elem? views id ≡ some v → w.parts ≡ v.parts → total parts_heard views ≡ seats → total parts_heard (set views id w) ≡ seats
parts_stay seats views id v w at same all = let sum = total_set parts_heard views id v w at in omega (arith, sum, same, all)

-- The seat that has all parts raises.
pub has_all : (S : Type 0) (seats : ℕ) (s : State S Heard) (id : ℕ) (v : Heard) → Rung seats s → get_elem? s.views id ≡ some v → v.parts ≡ seats → v.raises ≡ true
has_all S seats s id v r at all =
    let h = r.raises in
    dite (ℕ_discrete id r.raiser)
    (λ same. subst (λ (u : Heard). u.raises ≡ true) (some-injective h.0 v (sym h.1 ∙ (ap (get_elem? s.views) (sym same) ∙ at))) h.2)
    (λ ne. let two = total_two parts_heard s.views id r.raiser v h.0 ne at h.1 in let sum = r.parts in let one = h.3 in absurd (omega (arith, two, sum, one, all)))

alone : (seats : ℕ) (j : ℕ) (v : Heard) → get_elem? (first_heard seats ∷ []) j ≡ some v → Knows [] 0 j v
alone seats zero v e = subst (Knows [] 0 0) (some-injective (first_heard seats) v e) record { prefix = ([], refl); joined = All-nil (λ told. IsPrefix told []); whole = λ _. (refl, refl) }
alone seats (suc j) v e = absurd (some-ne-none v (sym e))

module _ (S : Type 0) where
  pub looks : (seats slots id : ℕ) (me : Me S Heard) → Allows (Rung seats) slots id me 0 (λ n. n) (Looks (step slots 0 0 0 none) me)
  looks seats slots id me s r _ at _ =
      let w : Heard = record me.0 { seen = r.log } in
      let known = r.each id me.0 at in
      let found : slice_index s.words 0 ≡ latest 0 r.log = ap (λ (l : List ℕ). slice_index l 0) r.word in (
        w,
        keeps,
        tt,
        record {
          log = r.log;
          raiser = r.raiser;
          word = subst (λ (l : List ℕ). slice_set l 0 (slice_index l 0) ≡ latest 0 r.log ∷ []) (sym r.word) refl;
          rising = r.rising;
          each = others r.log r.raiser s.views id w record { prefix = prefix_self r.log; joined = known.joined; whole = λ is. ((known.whole is).0, refl) } (λ j v _ e. r.each j v e);
          parts = parts_stay seats s.views id me.0 w at refl r.parts;
          raises = raiser_stays s.views id r.raiser me.0 w at (λ is. is) (λ some_part. some_part) r.raises;
        },
        (
          refl,
          known.prefix,
          known.joined,
          found,
          subst (λ (k : ℕ). latest 0 me.0.seen ≤ k) (sym found) (rises-prefix 0 me.0.seen r.log known.prefix.0 known.prefix.1 r.rising),
          λ is. sym (known.whole is).1,
          refl,
        ),
      )

  pub adds : (seats slots id : ℕ) (me : Me S Heard) (k : ℕ) → me.0.raises ≡ true → latest 0 me.0.seen + k < 2 ^ 64
      → Allows (Rung seats) slots id me 0 (λ n. (n + k) % 2 ^ 64) (AddsNumber (step slots 0 k 0 none) me)
  adds seats slots id me k is small s r _ at _ =
      let known = r.each id me.0 at in
      let whole : me.0.seen ≡ r.log = (known.whole is).1 in
      let found : slice_index s.words 0 ≡ latest 0 me.0.seen = ap (λ (l : List ℕ). slice_index l 0) r.word ∙ ap (latest 0) (sym whole) in
      let top : ℕ = slice_index s.words 0 + k in
      let log : List ℕ = me.0.seen ++ top ∷ [] in
      let longer_log : (told : List ℕ) → IsPrefix told r.log → IsPrefix told log = λ told p. prefix_snoc told me.0.seen top (subst (IsPrefix told) (sym whole) p) in
      let w : Heard = record me.0 { seen = log } in
      let fits : top % 2 ^ 64 ≡ top = grind (arith, found, small) in (
        w,
        keeps,
        tt,
        record {
          log = log;
          raiser = r.raiser;
          word = subst (λ (l : List ℕ). slice_set l 0 (top % 2 ^ 64) ≡ latest 0 log ∷ []) (sym r.word) (ap (λ (n : ℕ). n ∷ []) (fits ∙ sym (latest-snoc 0 top me.0.seen)));
          rising = rises-snoc 0 top me.0.seen (subst (NumbersRise 0) (sym whole) r.rising) (omega (arith, found));
          each = others log r.raiser s.views id w
              record { prefix = prefix_self log; joined = All-weaker (λ told. IsPrefix told r.log) (λ told. IsPrefix told log) longer_log me.0.joined known.joined; whole = λ _. ((known.whole is).0, refl) }
              (λ j v not e. let u = r.each j v e in record {
                prefix = longer_log v.seen u.prefix;
                joined = All-weaker (λ told. IsPrefix told r.log) (λ told. IsPrefix told log) longer_log v.joined u.joined;
                whole = λ also. absurd (not ((u.whole also).0 ∙ sym (known.whole is).0));
              });
          parts = parts_stay seats s.views id me.0 w at refl r.parts;
          raises = raiser_stays s.views id r.raiser me.0 w at (λ is. is) (λ some_part. some_part) r.raises;
        },
        (refl, found),
      )

  pub splits : (seats id : ℕ) (v : Heard) → 2 ≤ v.parts → Splits {S = S} (Rung seats) id v (kept_part v) (heard_anew v)
  splits seats id v two s r at =
      let w : Heard = kept_part v in
      let u : Heard = heard_anew v in
      let known = r.each id v at in
      let here = others r.log r.raiser s.views id w record { prefix = known.prefix; joined = known.joined; whole = known.whole } (λ j x _ e. r.each j x e) in
      let kept = raiser_stays s.views id r.raiser v w at (λ is. is) (λ some_part. omega (arith, two)) r.raises in record {
        log = r.log;
        raiser = r.raiser;
        word = r.word;
        rising = r.rising;
        each = λ j x e. ⊎_elim (λ was. here j x was)
            (λ (t : u ≡ x). subst (Knows r.log r.raiser j) t record { prefix = known.prefix; joined = All-nil (λ told. IsPrefix told r.log); whole = λ is. absurd (cc is) })
            (at_snoc (set s.views id w) u x j e);
        parts = let sum = total_set parts_heard s.views id v w at in let more = total_snoc parts_heard (set s.views id w) u in let all = r.parts in omega (arith, sum, more, all, two);
        raises = (kept.0, at_longer (set s.views id w) (u ∷ []) r.raiser kept.0 kept.1, kept.2, kept.3);
      }

  -- the one that raises, where the two were joined
  raiser_joins : (seats id other : ℕ) (v w : Heard) (s : State S Heard) (r : Rung seats s) → get_elem? s.views id ≡ some v → other ≢ id → get_elem? s.views other ≡ some w
      → (b : Bool) → w.raises ≡ b → HasRaiser (set (set s.views id (both_heard v w)) other spent_heard) (cond b id r.raiser)
  raiser_joins seats id other v w s r at apart was true is =
      let both : Heard = both_heard v w in
      let h = r.raises in
      let there : other ≡ r.raiser = ((r.each other w was).whole is).0 in
      let its : h.0 ≡ w = some-injective h.0 w (sym h.1 ∙ (ap (get_elem? s.views) (sym there) ∙ was)) in
      let one : 0 < w.parts = subst (λ (u : Heard). 0 < u.parts) its h.3 in
      (both, set_else (set s.views id both) other id spent_heard (λ e. apart (sym e)) ∙ set_there s.views id v both at, either_raises v.raises w.raises (inr is), omega (arith, one))
  raiser_joins seats id other v w s r at apart was false is =
      let both : Heard = both_heard v w in
      let h = raiser_stays s.views id r.raiser v both at (λ e. either_raises v.raises w.raises (inl e)) (λ one. omega (arith, one)) r.raises in
      let apart_too : r.raiser ≢ other = λ same. let u = r.raises in let its : u.0 ≡ w = some-injective u.0 w (sym u.1 ∙ (ap (get_elem? s.views) same ∙ was)) in absurd (cc (subst (λ (x : Heard). x.raises ≡ true) its u.2, is)) in
      (h.0, set_else (set s.views id both) other r.raiser spent_heard apart_too ∙ h.1, h.2, h.3)

  pub joins : (seats id : ℕ) (v : Heard) (other : ℕ) (w : Heard) → Joins {S = S} (Rung seats) id v other w (both_heard v w) spent_heard
  joins seats id v other w s r at apart there =
      let both : Heard = both_heard v w in
      let gone : Heard = spent_heard in
      let mine = r.each id v at in
      let was : get_elem? s.views other ≡ some w = ⊎_elim (λ t. absurd (apart t.0)) (λ t. t.1) (at_set s.views id other both w there) in
      let its = r.each other w was in
      let raiser : ℕ = cond w.raises id r.raiser in
      let Begins : List ℕ → Type 0 = λ told. IsPrefix told r.log in
      let here : Knows r.log raiser id both = record {
        prefix = either_prefix v.raises w.raises v.seen w.seen r.log mine.prefix its.prefix;
        joined = All-append Begins v.joined (w.joined ++ v.seen ∷ w.seen ∷ []) mine.joined
            (All-append Begins w.joined (v.seen ∷ w.seen ∷ []) its.joined (All-cons Begins v.seen (w.seen ∷ []) mine.prefix (All-cons Begins w.seen [] its.prefix (All-nil Begins))));
        whole = λ is. (
          ⊎_elim (λ h. own_raiser w.raises id r.raiser (mine.whole h).0) (λ h. taken_raiser w.raises id r.raiser h) (one_of v.raises w.raises is),
          either_whole v.raises w.raises v.seen w.seen r.log (λ h. (mine.whole h).1) (λ h. (its.whole h).1) is,
        );
      } in
      let rest : (j : ℕ) (x : Heard) → j ≢ other → j ≢ id → get_elem? s.views j ≡ some x → Knows r.log raiser j x = λ j x not _ e. let k = r.each j x e in record {
        prefix = k.prefix;
        joined = k.joined;
        whole = λ is. let m = k.whole is in (other_raiser w.raises id r.raiser j (λ h. not (m.0 ∙ sym (its.whole h).0)) m.0, m.1);
      } in record {
        log = r.log;
        raiser = raiser;
        word = r.word;
        rising = r.rising;
        each = others r.log raiser (set s.views id both) other gone record { prefix = (r.log, refl); joined = All-nil Begins; whole = λ is. absurd (cc is) }
            (λ j x not e. ⊎_elim
            (λ (t : (j ≡ id) × (both ≡ x)). subst (λ (u : Heard). Knows r.log raiser j u) t.1 (subst (λ (k : ℕ). Knows r.log raiser k both) (sym t.0) here))
            (λ (t : (j ≢ id) × (get_elem? s.views j ≡ some x)). rest j x not t.0 t.1)
            (at_set s.views id j both x e));
        parts = let one = total_set parts_heard s.views id v both at in let two = total_set parts_heard (set s.views id both) other w gone there in let all = r.parts in omega (arith, one, two, all);
        raises = raiser_joins seats id other v w s r at apart was w.raises refl;
      }

  pub opens : (seats : ℕ) → 1 ≤ seats → Rung {S = S} seats (opening (0 ∷ []) [] (first_heard seats))
  opens seats one = record {
    log = [];
    raiser = 0;
    word = refl;
    rising = tt;
    each = λ j v e. alone seats j v e;
    parts = omega arith;
    raises = (first_heard seats, refl, refl, omega (arith, one));
  }

  -- What stands at the end, where the seat has all parts.
  pub ends : (seats id number : ℕ) (v : Heard) (words : List ℕ) (slots : List S) → Final (Seen (Rung seats) id v) words slots → v.parts ≡ seats → get_elem? words 0 ≡ some number
      → (v.raises ≡ true) × All (λ told. IsPrefix told v.seen) v.joined × (number ≡ latest 0 v.seen)
  ends seats id number v words slots f all last =
      let s = f.0 in
      let r = f.1.0 in
      let at = f.1.1 in
      let is : v.raises ≡ true = has_all S seats s id v r at all in
      let known = r.each id v at in
      let whole : r.log ≡ v.seen = sym (known.whole is).1 in
      let found : some (latest 0 r.log) ≡ some number = ap (λ (l : List ℕ). get_elem? l 0) (sym r.word ∙ f.2) ∙ last in
      let number_is : latest 0 r.log ≡ number = some-injective (latest 0 r.log) number found in
      (is, subst (λ (log : List ℕ). All (λ told. IsPrefix told log) v.joined) whole known.joined, sym number_is ∙ ap (latest 0) whole)
