-- Rising tickets: one more, one less, and how many there are.
use Rattle.std.proofs.Common.{◌≡◌, ℕ, zero, suc, ◌+◌, ◌<◌, ◌≤◌, Bool, true, false, ◌||◌, ◌==◌, List, [], ◌∷◌, ◌++◌, take, drop, get_or, length, Option, None, Some, refl, sym, ap, ◌∙◌, subst, ⊎_elim, arith, eq-eqb, ne_eqb}
use Rattle.std.proofs.lemmas.Bool.{cases_eq, cases_Bool, false≢true}
use Rattle.std.proofs.lemmas.List.Folds.{list_any_at}
use Rattle.std.proofs.lemmas.List.Sorted.{searched}
use Rattle.std.specs.List.Sorted.{IsBinarySearchResult}
use Rattle.std.specs.Ordering.{nat_cmp}
use Rattle.std.specs.Option.{option_to_list, IfSome}
use Rattle.std.specs.Result.{MatchResult, OnOk, OnErr}
use Rattle.std.specs.declared.result.Result.{Result}
use Rattle.std.specs.declared.result.Result.TheVariants.{Ok, Err}
use Rattle.ob_key_versions.specs.Agendas.{AgendaModel, has_ticket, RisesBetween, Adds}

pub rises_weaker : (low low' high high' : ℕ) (ts : List ℕ) → low' ≤ low → high ≤ high' → RisesBetween low high ts → RisesBetween low' high' ts
rises_weaker low low' high high' [] a b h = omega (arith, a, b, h)
rises_weaker low low' high high' (t ∷ ts) a b h = (omega (arith, a, h.0), rises_weaker t t high high' ts (omega arith) b h.1)

pub moved_rises : (room room' : ℕ) (old new : List ℕ) → new ≡ old → room ≤ room' → RisesBetween 0 room old → RisesBetween 0 room' new
moved_rises room room' old new e l h = subst (RisesBetween 0 room') (sym e) (rises_weaker 0 0 room room' old (omega arith) l h)

pub above_each : (low high : ℕ) (ts : List ℕ) → RisesBetween low high ts → (u : ℕ) → has_ticket ts u ≡ true → low < u
above_each low high [] h u e = absurd (false≢true e)
above_each low high (t ∷ ts) h u e = ⊎_elim
    (λ same. omega (arith, same, h.0))
    (λ other. let l = above_each t high ts h.1 u (sym (ap (λ b. b || has_ticket ts u) (ne_eqb t u other)) ∙ e) in omega (arith, l, h.0))
    (cases_eq t u)

at_place : (low high : ℕ) (ts : List ℕ) → RisesBetween low high ts → (j : ℕ) → j < length ts → low < get_or ts j 0
at_place low high [] h j l = absurd (omega arith)
at_place low high (t ∷ ts) h zero l = h.0
at_place low high (t ∷ ts) h (suc j) l = let a = at_place t high ts h.1 j (omega arith) in omega (arith, a, h.0)

pub in_order : (low high : ℕ) (ts : List ℕ) → RisesBetween low high ts → (i j : ℕ) → i ≤ j → j < length ts → get_or ts i 0 ≤ get_or ts j 0
in_order low high [] h i j a l = absurd (omega arith)
in_order low high (t ∷ ts) h zero zero a l = omega arith
in_order low high (t ∷ ts) h zero (suc j) a l = let b = at_place t high ts h.1 j (omega arith) in omega (arith, b)
in_order low high (t ∷ ts) h (suc i) zero a l = absurd (omega arith)
in_order low high (t ∷ ts) h (suc i) (suc j) a l = in_order t high ts h.1 i j (omega arith) (omega arith)

-- there are no more than numbers between the bounds
few : (low high : ℕ) (ts : List ℕ) → RisesBetween low high ts → low + length ts ≤ high
few low high [] h = omega (arith, h)
few low high (t ∷ ts) h = let a = few t high ts h.1 in omega (arith, a, h.0)

-- ---- one more

abbrev pub put : List ℕ → ℕ → ℕ → List ℕ
put ts i x = take i ts ++ x ∷ drop i ts

pub put_rises : (low high : ℕ) (ts : List ℕ) (i x : ℕ) → RisesBetween low high ts → low < x → x ≤ high → i ≤ length ts → ((k : ℕ) → k < i → get_or ts k 0 < x) → ((k : ℕ) → i ≤ k → k < length ts → x < get_or ts k 0) → RisesBetween low high (put ts i x)
put_rises low high [] zero x h a b l before behind = (a, b)
put_rises low high [] (suc i) x h a b l before behind = absurd (omega arith)
put_rises low high (t ∷ ts) zero x h a b l before behind = (a, (behind 0 (omega arith) (omega arith), h.1))
put_rises low high (t ∷ ts) (suc i) x h a b l before behind = (h.0, put_rises t high ts i x h.1 (before 0 (omega arith)) b (omega arith) (λ k c. before (suc k) (omega arith)) (λ k c d. behind (suc k) (omega arith) (omega arith)))

put_len : (ts : List ℕ) (i x : ℕ) → i ≤ length ts → length (put ts i x) ≡ suc (length ts)
put_len [] zero x l = refl
put_len [] (suc i) x l = absurd (omega arith)
put_len (t ∷ ts) zero x l = refl
put_len (t ∷ ts) (suc i) x l = ap suc (put_len ts i x (omega arith))

pub put_has : (ts : List ℕ) (i x u : ℕ) → has_ticket (put ts i x) u ≡ ((x == u) || has_ticket ts u)
put_has [] zero x u = refl
put_has [] (suc i) x u = refl
put_has (t ∷ ts) zero x u = refl
put_has (t ∷ ts) (suc i) x u = ap (λ b. (t == u) || b) (put_has ts i x u) ∙ turned (t == u) (x == u) (has_ticket ts u)
  where
    turned : (a b c : Bool) → (a || (b || c)) ≡ (b || (a || c))
    turned true true c = refl
    turned true false c = refl
    turned false b c = refl

-- there is room for it
pub put_fits : (high : ℕ) (ts : List ℕ) (i x : ℕ) → i ≤ length ts → RisesBetween 0 high (put ts i x) → length ts < high
put_fits high ts i x l h = let a = few 0 high (put ts i x) h in let b = put_len ts i x l in omega (arith, a, b)

pub sure : {A B : Type 0} (r : Result A B) (X : Type 0) (room len : ℕ) → OnErr r (room ≤ len) → len < room → OnOk r X → X
sure (Ok a) X room len e l ok = ok
sure (Err b) X room len e l ok = absurd (omega (arith, e, l))

-- what is there already
pub has_found : (ts : List ℕ) (i x u : ℕ) → i < length ts → get_or ts i 0 ≡ x → has_ticket ts u ≡ ((x == u) || has_ticket ts u)
has_found ts i x u l is = ⊎_elim
    (λ same. list_any_at (λ t. t == u) ts i 0 l (eq-eqb (get_or ts i 0) u (is ∙ same)) ∙ sym (ap (λ b. b || has_ticket ts u) (eq-eqb x u same)))
    (λ other. sym (ap (λ b. b || has_ticket ts u) (ne_eqb x u other)))
    (cases_eq x u)

-- ---- one less

pub rest_rises : (r : Option ℕ) (high : ℕ) (old new : List ℕ) → old ≡ option_to_list r ++ new → RisesBetween 0 high old → RisesBetween 0 high new
rest_rises None high old new e h = subst (RisesBetween 0 high) e h
rest_rises (Some t) high old new e h = let q = subst (RisesBetween 0 high) e h in rises_weaker t 0 high high new (omega arith) (omega arith) q.1

pub rest_above : (r : Option ℕ) (high : ℕ) (old new : List ℕ) → old ≡ option_to_list r ++ new → RisesBetween 0 high old → IfSome r (λ t. (u : ℕ) → has_ticket new u ≡ true → t < u)
rest_above None high old new e h = tt
rest_above (Some t) high old new e h = let q = subst (RisesBetween 0 high) e h in above_each t high new q.1

-- ---- what came to an agenda

pub adds_none : (a : AgendaModel) (P : ℕ → Type 0) → Adds a a P
adds_none a P = record { kept = λ u e. e; came = λ u e f. absurd (false≢true (sym f ∙ e)); room = omega arith }

pub adds_then : (a b c : AgendaModel) (P : ℕ → Type 0) → Adds a b P → Adds b c P → Adds a c P
adds_then a b c P one two = record {
  kept = λ u e. two.kept u (one.kept u e);
  came = λ u e f. ⊎_elim
      (λ there. one.came u there f)
      (λ isnt. two.came u e isnt)
      (cases_Bool (has_ticket b.tickets u));
  room = omega (arith, one.room, two.room);
}

pub added : (a b : AgendaModel) (t : ℕ) (P : ℕ → Type 0) → ((u : ℕ) → has_ticket b.tickets u ≡ ((t == u) || has_ticket a.tickets u)) → a.room ≤ b.room → P t → Adds a b P
added a b t P has room p = record {
  kept = λ u e. has u ∙ or_true (t == u) (has_ticket a.tickets u) e;
  came = λ u e f. ⊎_elim
      (λ same. subst P same p)
      (λ other. absurd (false≢true (sym f ∙ (sym (has u ∙ ap (λ x. x || has_ticket a.tickets u) (ne_eqb t u other)) ∙ e))))
      (cases_eq t u);
  room = room;
}
  where
    or_true : (x y : Bool) → y ≡ true → (x || y) ≡ true
    or_true true y e = refl
    or_true false y e = e

-- what a search for the ticket found
pub missed : (r : Result ℕ ℕ) (room : ℕ) (ts : List ℕ) (x : ℕ) → IsBinarySearchResult (λ y. nat_cmp y x) ts r → RisesBetween 0 room ts → 0 < x → x ≤ room → (i : ℕ) → r ≡ Err i → (i ≤ length ts) × RisesBetween 0 room (put ts i x)
missed r room ts x is h above within i e =
    let s = subst (λ (q : Result ℕ ℕ). MatchResult q (λ i. (i < length ts) × (get_or ts i 0 ≡ x)) (λ i. (i ≤ length ts) × ((k : ℕ) → k < i → get_or ts k 0 < x) × ((k : ℕ) → i ≤ k → k < length ts → x < get_or ts k 0))) e (searched ts x r is (in_order 0 room ts h)) in
    (s.0, put_rises 0 room ts i x h above within s.0 s.1 s.2)

pub found : (r : Result ℕ ℕ) (room : ℕ) (ts : List ℕ) (x : ℕ) → IsBinarySearchResult (λ y. nat_cmp y x) ts r → RisesBetween 0 room ts → (i : ℕ) → r ≡ Ok i → (u : ℕ) → has_ticket ts u ≡ ((x == u) || has_ticket ts u)
found r room ts x is h i e u =
    let s = subst (λ (q : Result ℕ ℕ). MatchResult q (λ i. (i < length ts) × (get_or ts i 0 ≡ x)) (λ i. (i ≤ length ts) × ((k : ℕ) → k < i → get_or ts k 0 < x) × ((k : ℕ) → i ≤ k → k < length ts → x < get_or ts k 0))) e (searched ts x r is (in_order 0 room ts h)) in
    has_found ts i x u s.0 s.1

-- an insert where there is room
pub put_there : {A B : Type 0} (r : Result A B) (room room' len : ℕ) (ts new : List ℕ) (i x : ℕ) → len ≡ length ts → i ≤ length ts → RisesBetween 0 room (put ts i x) → OnErr r (room ≤ len) → OnOk r (new ≡ put ts i x) → room ≤ room'
    → RisesBetween 0 room' new × ((u : ℕ) → has_ticket new u ≡ ((x == u) || has_ticket ts u))
put_there r room room' len ts new i x size l h full ok more =
    let fits = put_fits room ts i x l h in
    let e = sure r (new ≡ put ts i x) room len full (omega (arith, size, fits)) ok in
    (moved_rises room room' (put ts i x) new e more h, λ u. ap (λ q. has_ticket q u) e ∙ put_has ts i x u)
