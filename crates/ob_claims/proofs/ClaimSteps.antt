-- Each step on claims keeps their rule.
use Rattle.std.proofs.Common.{◌≡◌, ℕ, suc, ◌+◌, ◌%◌, ◌^◌, ◌<◌, ◌≤◌, Bool, true, false, cond, List, [], ◌∷◌, ◌++◌, get_or, set, slice_set, slice_index, refl, ap, sym, ◌∙◌, subst, arith, ⊎_elim, lt_of_not-le}
use Rattle.std.specs.List.{All, sum_by, count_by}
use Rattle.std.proofs.lemmas.List.{set-set}
use Rattle.std.proofs.lemmas.List.Elements.{All-nil, All-cons, All-push, All-set}
use Rattle.std.proofs.lemmas.List.Sums.{sum_by_push}
use mathlib.Core.Option.{some, none}
use mathlib.Core.Logic.{dite}
use native.Mathlib.Decide.{dec_le}
use lib.ListN.{get_elem?}
use Rattle.atomic_table.specs.Table.{State, Me, step, keeps, stepped, Allows, Splits, Joins, opening}
use Rattle.atomic_table.proofs.Lists.{at_set}
use Rattle.ob_base.specs.Tree.{below}
use Rattle.ob_claims.specs.declared.claims.Hold.{Hold}
use Rattle.ob_claims.specs.ClaimRule.{times, hold, first_hold, kept_hold, new_hold, both_holds, spent_hold, FitsCounter, Claimed, ClaimsAllBelow, SeesCounter, TakesNumber, CountsAnew}
use Rattle.ob_claims.proofs.Sums.{of_all, sum_set, sum_at, sum_under, sum_none, others_none}
use Rattle.ob_claims.proofs.Counts.{times_append, below_more}

abbrev parts_in : Hold → ℕ
parts_in v = v.parts

abbrev ready_in : Hold → ℕ
ready_in v = cond v.ready 1 0

abbrev claims_in : ℕ → Hold → ℕ
claims_in x v = times x v.claimed

-- who may claim has a part
ready_part : (v : Hold) (b : Bool) → (b ≡ true → 0 < v.parts) → cond b 1 0 ≤ v.parts
ready_part v true h = let p = h refl in omega (arith, p)
ready_part v false h = omega arith

ready_parts : (seats counter : ℕ) (views : List Hold) → All (FitsCounter seats counter) views → count_by (λ v. v.ready) views ≤ sum_by (λ v. v.parts) views
ready_parts seats counter views each = sum_under ready_in parts_in views (λ k d lt. let f = each k d lt in ready_part (get_or views k d) (get_or views k d).ready f.ready)

-- what a spent seat knows is so
spent_fits : (seats counter : ℕ) → FitsCounter seats counter spent_hold
spent_fits seats counter = record { seats_are = λ p. absurd (omega (arith, p)); reached = omega arith; ready = λ e. absurd (cc e); spent = λ _. (refl, refl) }

-- one seat becomes ready, where the counter is small, or no more seats are
bounded : (b : Bool) (n counter seats was before after : ℕ) → (b ≡ true → n < 2 ^ 62) → after + was ≡ before + cond b 1 0 → n ≡ counter → after ≤ seats → counter + before ≤ 2 ^ 62 + seats → counter + after ≤ 2 ^ 62 + seats
bounded true n counter seats was before after small t e few old = let s = small refl in omega (arith, s, e, few)
bounded false n counter seats was before after small t e few old = omega (arith, t, old)

-- who has all parts has claimed all that is claimed
all_mine : (seats counter : ℕ) (views : List Hold) (id : ℕ) (v : Hold) → All (FitsCounter seats counter) views → get_elem? views id ≡ some v → v.parts ≡ sum_by (λ v. v.parts) views → (x : ℕ) → sum_by (λ v. times x v.claimed) views ≡ times x v.claimed
all_mine seats counter views id v each at all x =
    let others = others_none parts_in views id v spent_hold at all refl in
    let fits = All-set (FitsCounter seats counter) views id spent_hold (spent_fits seats counter) each in
    let none = sum_none (claims_in x) (set views id spent_hold) (λ k d lt. let f = fits k d lt in ap (times x) (f.spent (others k d lt)).1) in
    let changed = sum_set (claims_in x) views id v spent_hold at in
    let empty : times x spent_hold.claimed ≡ 0 = refl in
    omega (arith, none, changed, empty)

module _ (S : Type 0) (seats : ℕ) where
  abbrev Rule : State S Hold → Type 0
  Rule s = Claimed seats s

  -- who has all parts has claimed each number below the counter
  all_below : (s : State S Hold) (r : Claimed seats s) (id : ℕ) (v : Hold) (n : ℕ) → get_elem? s.views id ≡ some v → 0 < v.parts → n ≡ r.counter → ClaimsAllBelow n v
  all_below s r id v n at some_part found all x =
      let fit = of_all (FitsCounter seats r.counter) s.views id v r.each at in
      let whole : v.parts ≡ sum_by (λ v. v.parts) s.views = all ∙ fit.seats_are some_part ∙ sym r.parts in
      sym (all_mine seats r.counter s.views id v r.each at whole x) ∙ (r.once x ∙ ap (λ (k : ℕ). times x (below k)) (sym found))

  pub looks : (slots id : ℕ) (me : Me S Hold) → 0 < me.0.parts → Allows Rule slots id me 0 (λ n. n) (SeesCounter (step slots 0 0 0 none) me)
  looks slots id me some_part s r _ at _ =
      let v : Hold = me.0 in
      let n : ℕ = slice_index s.words 0 in
      let found : n ≡ r.counter = ap (λ (l : List ℕ). slice_index l 0) r.word in
      let same : slice_set s.words 0 n ≡ s.words = subst (λ (l : List ℕ). slice_set l 0 (slice_index l 0) ≡ l) (sym r.word) refl in
      let fit = of_all (FitsCounter seats r.counter) s.views id v r.each at in
      let made : (b : Bool) → (b ≡ true → n < 2 ^ 62) → Rule (stepped s 0 n id me.1 (record v { ready = b; reached = n }) keeps) =
      λ b small.
      let w : Hold = record v { ready = b; reached = n } in
      let fits : FitsCounter seats r.counter w = record {
        seats_are = fit.seats_are;
        reached = omega (arith, found);
        ready = λ _. some_part;
        spent = λ e. absurd (omega (arith, e, some_part));
      } in
      let each' = All-set (FitsCounter seats r.counter) s.views id w fits r.each in
      let parts : sum_by (λ v. v.parts) (set s.views id w) ≡ seats = omega (arith, sum_set parts_in s.views id v w at, r.parts) in
      let few = ready_parts seats r.counter (set s.views id w) each' in
      record {
        counter = r.counter;
        few = r.few;
        word = same ∙ r.word;
        parts = parts;
        bound = bounded b n r.counter seats (ready_in v) (count_by (λ v. v.ready) s.views) (count_by (λ v. v.ready) (set s.views id w)) small (sum_set ready_in s.views id v w at) found (omega (arith, parts, few)) r.bound;
        each = each';
        once = λ x. let t = sum_set (claims_in x) s.views id v w at in let o = r.once x in omega (arith, t, o);
      } in
      let rises : v.reached ≤ n = let a = fit.reached in omega (arith, a, found) in
      dite (dec_le (2 ^ 62) n)
      (λ late. (
        record v { ready = false; reached = n },
        keeps,
        tt,
        made false (λ e. absurd (cc e)),
        record { rises = rises; knows = refl; may = λ early. absurd (omega (arith, late, early)); all = all_below s r id v n at some_part found },
      ))
      (λ early. (
        record v { ready = true; reached = n },
        keeps,
        tt,
        made true (λ _. lt_of_not-le early),
        record { rises = rises; knows = refl; may = λ _. refl; all = all_below s r id v n at some_part found },
      ))

  pub takes : (slots id : ℕ) (me : Me S Hold) → me.0.ready ≡ true → Allows Rule slots id me 0 (λ n. (n + 1) % 2 ^ 64) (TakesNumber (step slots 0 1 0 none) me)
  takes slots id me is_ready s r _ at _ =
      let v : Hold = me.0 in
      let n : ℕ = slice_index s.words 0 in
      let found : n ≡ r.counter = ap (λ (l : List ℕ). slice_index l 0) r.word in
      let fit = of_all (FitsCounter seats r.counter) s.views id v r.each at in
      let some_part : 0 < v.parts = fit.ready is_ready in
      let w : Hold = hold v.seats v.parts (n + 1) (v.claimed ++ n ∷ []) in
      let was : ready_in v ≡ 1 = ap (λ (b : Bool). cond b 1 0) is_ready in
      let one : ready_in v ≤ count_by (λ v. v.ready) s.views = sum_at ready_in s.views id v at in
      let fits : (n + 1) % 2 ^ 64 ≡ suc r.counter = grind (arith, found, one, was, r.bound, r.few) in
      let up = fit.reached in
      let here : FitsCounter seats (suc r.counter) w = record {
        seats_are = fit.seats_are;
        reached = omega (arith, found);
        ready = λ e. absurd (cc e);
        spent = λ e. absurd (omega (arith, e, some_part));
      } in
      let rest : All (FitsCounter seats (suc r.counter)) s.views = λ k d lt. let f = r.each k d lt in let q = f.reached in
      record { seats_are = f.seats_are; reached = omega (arith, q); ready = f.ready; spent = f.spent } in (
        w,
        keeps,
        tt,
        record {
          counter = suc r.counter;
          few = r.few;
          word = subst (λ (l : List ℕ). slice_set l 0 ((n + 1) % 2 ^ 64) ≡ suc r.counter ∷ []) (sym r.word) (ap (λ (k : ℕ). k ∷ []) fits);
          parts = omega (arith, sum_set parts_in s.views id v w at, r.parts);
          bound = omega (arith, sum_set ready_in s.views id v w at, was, r.bound);
          each = All-set (FitsCounter seats (suc r.counter)) s.views id w here rest;
          once = λ x.
              let t = sum_set (claims_in x) s.views id v w at in
              let o = r.once x in
              let m = times_append x v.claimed (n ∷ []) in
              let more = below_more x r.counter in
              let i : times x (n ∷ []) ≡ times x (r.counter ∷ []) = ap (λ (k : ℕ). times x (k ∷ [])) found in
              omega (arith, t, o, m, more, i);
        },
        record { rises = omega (arith, up, found); knows = refl; all = all_below s r id v n at some_part found },
      )

  -- who has all parts sets the counter to 0, and nothing is claimed
  pub clears : (slots id : ℕ) (me : Me S Hold) → 0 < me.0.parts → me.0.parts ≡ me.0.seats → Allows Rule slots id me 0 (λ _. 0) (λ _. CountsAnew (step slots 0 0 0 none) me 0)
  clears slots id me some_part all s r _ at _ =
      let v : Hold = me.0 in
      let w : Hold = hold v.seats v.parts 0 [] in
      let fit = of_all (FitsCounter seats r.counter) s.views id v r.each at in
      let whole : v.parts ≡ sum_by (λ v. v.parts) s.views = all ∙ fit.seats_are some_part ∙ sym r.parts in
      let others = others_none parts_in s.views id v spent_hold at whole refl in
      let fits = All-set (FitsCounter seats r.counter) s.views id spent_hold (spent_fits seats r.counter) r.each in
      let anew : All (FitsCounter seats 0) (set s.views id spent_hold) = λ k d lt. let f = fits k d lt in let none = f.spent (others k d lt) in let low = none.0 in
      record { seats_are = f.seats_are; reached = omega (arith, low); ready = f.ready; spent = f.spent } in
      let here : FitsCounter seats 0 w = record { seats_are = fit.seats_are; reached = omega arith; ready = λ e. absurd (cc e); spent = λ _. (refl, refl) } in
      let each' : All (FitsCounter seats 0) (set s.views id w) = subst (All (FitsCounter seats 0)) (set-set s.views id spent_hold w) (All-set (FitsCounter seats 0) (set s.views id spent_hold) id w here anew) in
      let parts : sum_by (λ v. v.parts) (set s.views id w) ≡ seats = omega (arith, sum_set parts_in s.views id v w at, r.parts) in
      let few = ready_parts seats 0 (set s.views id w) each' in (
        w,
        keeps,
        tt,
        record {
          counter = 0;
          few = r.few;
          word = subst (λ (l : List ℕ). slice_set l 0 0 ≡ 0 ∷ []) (sym r.word) refl;
          parts = parts;
          bound = omega (arith, parts, few);
          each = each';
          once = λ x.
              let t = sum_set (claims_in x) s.views id v w at in
              let mine = all_mine seats r.counter s.views id v r.each at whole x in
              let empty : times x w.claimed ≡ 0 = refl in
              let none : times x (below 0) ≡ 0 = refl in
              omega (arith, t, mine, empty, none);
        },
        refl,
      )

  pub splits : (id : ℕ) (v : Hold) → 2 ≤ v.parts → Splits {S = S} Rule id v (kept_hold v) (new_hold v)
  splits id v two s r at =
      let w : Hold = kept_hold v in
      let u : Hold = new_hold v in
      let fit = of_all (FitsCounter seats r.counter) s.views id v r.each at in
      let views' : List Hold = set s.views id w in
      let kept : FitsCounter seats r.counter w = record {
        seats_are = λ _. fit.seats_are (omega (arith, two));
        reached = fit.reached;
        ready = λ e. absurd (cc e);
        spent = λ e. absurd (omega (arith, e, two));
      } in
      let given : FitsCounter seats r.counter u = record {
        seats_are = λ _. fit.seats_are (omega (arith, two));
        reached = fit.reached;
        ready = λ e. absurd (cc e);
        spent = λ e. absurd (cc e);
      } in
      record {
        counter = r.counter;
        few = r.few;
        word = r.word;
        parts = omega (arith, sum_set parts_in s.views id v w at, sum_by_push parts_in views' u, r.parts, two);
        bound = omega (arith, sum_set ready_in s.views id v w at, sum_by_push ready_in views' u, r.bound);
        each = All-push (FitsCounter seats r.counter) views' u (All-set (FitsCounter seats r.counter) s.views id w kept r.each) given;
        once = λ x. let t = sum_set (claims_in x) s.views id v w at in let l = sum_by_push (claims_in x) views' u in let o = r.once x in let empty : times x u.claimed ≡ 0 = refl in omega (arith, t, l, o, empty);
      }

  pub joins : (id : ℕ) (v : Hold) (other : ℕ) (w : Hold) → 0 < v.parts → Joins {S = S} Rule id v other w (both_holds v w) spent_hold
  joins id v other w some_part s r at apart there =
      let both : Hold = both_holds v w in
      let views' : List Hold = set s.views id both in
      let was : get_elem? s.views other ≡ some w = ⊎_elim (λ t. absurd (apart t.0)) (λ t. t.1) (at_set s.views id other both w there) in
      let fit = of_all (FitsCounter seats r.counter) s.views id v r.each at in
      let its = of_all (FitsCounter seats r.counter) s.views other w r.each was in
      let a = fit.reached in
      let b = its.reached in
      let here : FitsCounter seats r.counter both = record {
        seats_are = λ _. fit.seats_are some_part;
        reached = omega (arith, a, b);
        ready = λ e. absurd (cc e);
        spent = λ e. absurd (omega (arith, e, some_part));
      } in
      record {
        counter = r.counter;
        few = r.few;
        word = r.word;
        parts = omega (arith, sum_set parts_in s.views id v both at, sum_set parts_in views' other w spent_hold there, r.parts);
        bound = omega (arith, sum_set ready_in s.views id v both at, sum_set ready_in views' other w spent_hold there, r.bound);
        each = All-set (FitsCounter seats r.counter) views' other spent_hold (spent_fits seats r.counter) (All-set (FitsCounter seats r.counter) s.views id both here r.each);
        once = λ x.
            let t = sum_set (claims_in x) s.views id v both at in
            let l = sum_set (claims_in x) views' other w spent_hold there in
            let m = times_append x v.claimed w.claimed in
            let empty : times x spent_hold.claimed ≡ 0 = refl in
            let o = r.once x in
            omega (arith, t, l, m, o, empty);
      }

  pub opens : 1 ≤ seats → seats ≤ 2 ^ 62 → Rule (opening (0 ∷ []) [] (first_hold seats))
  opens some_seat few = record {
    counter = 0;
    few = few;
    word = refl;
    parts = omega arith;
    bound = omega arith;
    each = All-cons (FitsCounter seats 0) (first_hold seats) [] record { seats_are = λ _. refl; reached = omega arith; ready = λ e. absurd (cc e); spent = λ _. (refl, refl) } (All-nil (FitsCounter seats 0));
    once = λ x. refl;
  }
