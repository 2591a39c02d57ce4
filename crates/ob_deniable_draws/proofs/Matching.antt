-- A work of other calls, side by side with what a row of runs did.
use Rattle.std.specs.Prelude.{◌≡◌, ◌⊎◌, ℕ, ◌≤◌, List, [], ◌∷◌, ◌++◌, length, map, Option, None, Some}
use Rattle.std.proofs.Common.{arith, refl, sym, ap, subst, ◌∙◌, inl, inr, append_assoc}
use Rattle.std.proofs.lemmas.List.{append-nil}
use Rattle.ob_base.specs.declared.params.Params.{Params}
use Rattle.ob_deniable.proofs.Pairs.{cons_head, cons_tail}
use Rattle.ob_deniable.specs.Works.{Ends, LifeWork, Lifts, Logs, SameShape, Shows}
use Rattle.ob_deniable_runs.proofs.Calling.{Makes, counted, kept_by, kept_many, kept_next, kept_told, puts_join}
use Rattle.ob_deniable_runs.specs.OtherCalls.{AreOtherCalls, IsOtherCall, IsOtherRefused, IsWorkOfCall, IsWorkOfCalls, IsWorkOfRefused, told_write}
use Rattle.ob_deniable_runs.specs.RunsDenied.{work_of}
use Rattle.ob_recover.specs.Calls.{Finds}
use Rattle.ob_recover.specs.Life.{Append, End as EndAct, LifeAct, LifeBatch, LifeState, ShowBatch, ShowLifts, WordId, reached}
use Rattle.ob_schedule.specs.Schedule.{Fills}
use Rattle.ob_serial.specs.Vaults.{End, Fetch, VaultCall}
use Rattle.ob_vault.specs.Lives.{AreFirstActs}
use Rattle.ob_vault.specs.Shapes.{Shape}
use Rattle.ob_vault.specs.Shown.{AreActsOf, AreFilledBy, AreShownBy}

-- ---- a call

-- the same places under the same first word, or any writes under as many words
abbrev pub CallMatch : VaultCall → VaultCall → List LifeAct → List LifeWork → Type 0
CallMatch (Fetch asks) (Fetch others) acts work = (b : LifeBatch) × (b.asks ≡ asks) × (acts ≡ Append b ∷ ShowBatch ∷ []) × (work ≡ Logs others b.first ∷ Shows ∷ [])
CallMatch (End writes) (End others) acts work =
    (ws : List (ℕ × Option WordId)) × (drawn : ℕ) × (slot : ℕ → ℕ → ℕ) × (kept : List (ℕ × Option WordId)) × (acts ≡ ShowLifts ∷ EndAct ws drawn slot ∷ []) × (work ≡ Lifts ∷ Ends kept drawn ∷ []) × (map told_write kept ≡ map told_write others)
CallMatch (Fetch asks) (End others) acts work = ⊥
CallMatch (End writes) (Fetch others) acts work = ⊥

pub work_of_match : (call other : VaultCall) (acts : List LifeAct) (work : List LifeWork) → CallMatch call other acts work → IsWorkOfCall other work
work_of_match (Fetch asks) (Fetch others) acts work (b, same, is, are) = (b.first, are)
work_of_match (End writes) (End others) acts work (ws, drawn, slot, kept, is, are, told) = (kept, drawn, told, are)
work_of_match (Fetch asks) (End others) acts work m = absurd m
work_of_match (End writes) (Fetch others) acts work m = absurd m

-- the first of a refused call's acts: none, one, or all
abbrev pub FrontMatch : VaultCall → VaultCall → List LifeAct → List LifeWork → Type 0
FrontMatch (Fetch asks) (Fetch others) acts work = ((acts ≡ []) × (work ≡ [])) ⊎ (((b : LifeBatch) × (b.asks ≡ asks) × (acts ≡ Append b ∷ []) × (work ≡ Logs others b.first ∷ [])) ⊎ CallMatch (Fetch asks) (Fetch others) acts work)
FrontMatch (End writes) (End others) acts work = ((acts ≡ []) × (work ≡ [])) ⊎ (((acts ≡ ShowLifts ∷ []) × (work ≡ Lifts ∷ [])) ⊎ CallMatch (End writes) (End others) acts work)
FrontMatch (Fetch asks) (End others) acts work = ⊥
FrontMatch (End writes) (Fetch others) acts work = ⊥

abbrev pub RefusedMatch : Option VaultCall → Option VaultCall → List LifeAct → List LifeWork → Type 0
RefusedMatch None None acts work = (acts ≡ []) × (work ≡ [])
RefusedMatch (Some call) (Some other) acts work = FrontMatch call other acts work
RefusedMatch None (Some other) acts work = ⊥
RefusedMatch (Some call) None acts work = ⊥

front_work : (call other : VaultCall) (acts : List LifeAct) (work : List LifeWork) → FrontMatch call other acts work → IsWorkOfRefused (Some other) work
front_work (Fetch asks) (Fetch others) acts work (inl (none, empty)) = (Logs others (record { generation = 0; place = 0 }) ∷ Shows ∷ [], (record { generation = 0; place = 0 }, ap (λ (w : List LifeWork). w ++ Logs others (record { generation = 0; place = 0 }) ∷ Shows ∷ []) empty))
front_work (Fetch asks) (Fetch others) acts work (inr (inl (b, same, is, are))) = (Shows ∷ [], (b.first, ap (λ (w : List LifeWork). w ++ Shows ∷ []) are))
front_work (Fetch asks) (Fetch others) acts work (inr (inr (b, same, is, are))) = ([], (b.first, append-nil work ∙ are))
front_work (End writes) (End others) acts work (inl (none, empty)) =
    let first : WordId = record { generation = 0; place = 0 } in
    (Lifts ∷ Ends (kept_by first others) 0 ∷ [], (kept_by first others, 0, kept_told first others, ap (λ (w : List LifeWork). w ++ Lifts ∷ Ends (kept_by first others) 0 ∷ []) empty))
front_work (End writes) (End others) acts work (inr (inl (is, are))) =
    let first : WordId = record { generation = 0; place = 0 } in
    (Ends (kept_by first others) 0 ∷ [], (kept_by first others, 0, kept_told first others, ap (λ (w : List LifeWork). w ++ Ends (kept_by first others) 0 ∷ []) are))
front_work (End writes) (End others) acts work (inr (inr (ws, drawn, slot, kept, is, are, told))) = ([], (kept, drawn, told, append-nil work ∙ are))
front_work (Fetch asks) (End others) acts work m = absurd m
front_work (End writes) (Fetch others) acts work m = absurd m

pub refused_work : (refused other : Option VaultCall) (acts : List LifeAct) (work : List LifeWork) → RefusedMatch refused other acts work → IsWorkOfRefused other work
refused_work None None acts work m = m.1
refused_work (Some call) (Some other) acts work m = front_work call other acts work m
refused_work None (Some other) acts work m = absurd m
refused_work (Some call) None acts work m = absurd m

-- ---- calls, and runs

module _ (p : Params) (w : WordId → ℕ) where
  abbrev pub CallsMatch : LifeState → List VaultCall → List VaultCall → List (Shape × Fills) → List LifeAct → List LifeWork → Type 0
  CallsMatch s [] [] [] acts work = (acts ≡ []) × (work ≡ [])
  CallsMatch s (call ∷ calls) (other ∷ others) (step ∷ steps) acts work = (first : List LifeAct) × (rest : List LifeAct) × (first_work : List LifeWork) × (rest_work : List LifeWork) × (acts ≡ first ++ rest) × (work ≡ first_work ++ rest_work)
      × CallMatch call other first first_work × AreFilledBy p w s first call step.1 × CallsMatch (reached p w s first) calls others steps rest rest_work
  CallsMatch s _ _ _ acts work = ⊥

  pub calls_work : (s : LifeState) (calls others : List VaultCall) (steps : List (Shape × Fills)) (acts : List LifeAct) (work : List LifeWork) → CallsMatch s calls others steps acts work → IsWorkOfCalls others work
  calls_work s [] [] [] acts work m = m.1
  calls_work s (call ∷ calls) (other ∷ others) (step ∷ steps) acts work (first, rest, first_work, rest_work, are, is, own, filled, more) =
      (first_work, rest_work, is, work_of_match call other first first_work own, calls_work (reached p w s first) calls others steps rest rest_work more)
  calls_work s [] [] (step ∷ steps) acts work m = absurd m
  calls_work s [] (other ∷ others) steps acts work m = absurd m
  calls_work s (call ∷ calls) [] steps acts work m = absurd m
  calls_work s (call ∷ calls) (other ∷ others) [] acts work m = absurd m

-- ---- they are made

none_left : (xs ys : List LifeAct) → xs ++ ys ≡ [] → xs ≡ []
none_left [] ys e = refl
none_left (z ∷ xs) ys e = absurd (cc)

whole_row : (x y : LifeAct) (xs ys : List LifeAct) (a b : LifeAct) → x ∷ y ∷ (xs ++ ys) ≡ a ∷ b ∷ [] → x ∷ y ∷ xs ≡ a ∷ b ∷ []
whole_row x y xs ys a b e =
    let tail : y ∷ (xs ++ ys) ≡ b ∷ [] = cons_tail x a (y ∷ (xs ++ ys)) (b ∷ []) e in
    λ i. cons_head x a (y ∷ (xs ++ ys)) (b ∷ []) e i ∷ cons_head y b (xs ++ ys) [] tail i ∷ none_left xs ys (cons_tail y b (xs ++ ys) [] tail) i

pub join_shapes : (xs ys : List LifeAct) (us vs : List LifeWork) → SameShape (map work_of xs) us → SameShape (map work_of ys) vs → SameShape (map work_of (xs ++ ys)) (us ++ vs)
join_shapes [] ys [] vs one two = two
join_shapes [] ys (u ∷ us) vs one two = absurd one
join_shapes (x ∷ xs) ys [] vs one two = absurd one
join_shapes (x ∷ xs) ys (u ∷ us) vs one two = (one.0, join_shapes xs ys us vs one.1 two)

module _ (p : Params) where
  call_matched : (at : ℕ × ℕ) (call other : VaultCall) (acts : List LifeAct) → IsOtherCall p call other → AreActsOf call acts → Makes p at acts (CallMatch call other acts)
  call_matched at (Fetch asks) (Fetch others) acts like (b, same, is) = record {
    work = Logs others b.first ∷ Shows ∷ [];
    shape = subst (λ (xs : List LifeAct). SameShape (map work_of xs) (Logs others b.first ∷ Shows ∷ [])) (sym is) ((ap length same ∙ like, refl), (tt, tt));
    puts = tt;
    is = (b, same, is, refl);
  }
  call_matched at (End writes) (End others) acts like (ws, drawn, slot, is) =
      let first : WordId = record { generation = at.0; place = at.1 } in
      let few : length (kept_by first others) ≤ p.writes = (let many : length (kept_by first others) ≡ length others = kept_many first others in omega arith) in
      record {
        work = Lifts ∷ Ends (kept_by first others) drawn ∷ [];
        shape = subst (λ (xs : List LifeAct). SameShape (map work_of xs) (Lifts ∷ Ends (kept_by first others) drawn ∷ [])) (sym is) (tt, (refl, tt));
        puts = (few, kept_next first others, tt);
        is = (ws, drawn, slot, kept_by first others, is, refl, kept_told first others);
      }
  call_matched at (Fetch asks) (End others) acts like own = absurd like
  call_matched at (End writes) (Fetch others) acts like own = absurd like

  nothing_made : (at : ℕ × ℕ) (acts : List LifeAct) (Is : List LifeWork → Type 0) → acts ≡ [] → Is [] → Makes p at acts Is
  nothing_made at acts Is none is = record { work = []; shape = subst (λ (xs : List LifeAct). SameShape (map work_of xs) []) (sym none) tt; puts = tt; is = is }

  front_matched : (at : ℕ × ℕ) (call other : VaultCall) (acts rest : List LifeAct) → IsOtherCall p call other → AreActsOf call (acts ++ rest) → Makes p at acts (FrontMatch call other acts)
  front_matched at (Fetch asks) (Fetch others) [] rest like own = nothing_made at [] (FrontMatch (Fetch asks) (Fetch others) []) refl (inl (refl, refl))
  front_matched at (Fetch asks) (Fetch others) (x ∷ []) rest like (b, same, is) =
      let head : x ≡ Append b = cons_head x (Append b) rest (ShowBatch ∷ []) is in
      record {
        work = Logs others b.first ∷ [];
        shape = subst (λ (y : LifeAct). SameShape (map work_of (y ∷ [])) (Logs others b.first ∷ [])) (sym head) ((ap length same ∙ like, refl), tt);
        puts = tt;
        is = inr (inl (b, same, ap (λ (y : LifeAct). y ∷ []) head, refl));
      }
  front_matched at (Fetch asks) (Fetch others) (x ∷ y ∷ acts) rest like (b, same, is) =
      let whole : x ∷ y ∷ acts ≡ Append b ∷ ShowBatch ∷ [] = whole_row x y acts rest (Append b) ShowBatch is in
      let made = call_matched at (Fetch asks) (Fetch others) (x ∷ y ∷ acts) like (b, same, whole) in
      record { work = made.work; shape = made.shape; puts = made.puts; is = inr (inr made.is) }
  front_matched at (End writes) (End others) [] rest like own = nothing_made at [] (FrontMatch (End writes) (End others) []) refl (inl (refl, refl))
  front_matched at (End writes) (End others) (x ∷ []) rest like (ws, drawn, slot, is) =
      let head : x ≡ ShowLifts = cons_head x ShowLifts rest (EndAct ws drawn slot ∷ []) is in
      record {
        work = Lifts ∷ [];
        shape = subst (λ (y : LifeAct). SameShape (map work_of (y ∷ [])) (Lifts ∷ [])) (sym head) (tt, tt);
        puts = tt;
        is = inr (inl (ap (λ (y : LifeAct). y ∷ []) head, refl));
      }
  front_matched at (End writes) (End others) (x ∷ y ∷ acts) rest like (ws, drawn, slot, is) =
      let whole : x ∷ y ∷ acts ≡ ShowLifts ∷ EndAct ws drawn slot ∷ [] = whole_row x y acts rest ShowLifts (EndAct ws drawn slot) is in
      let made = call_matched at (End writes) (End others) (x ∷ y ∷ acts) like (ws, drawn, slot, whole) in
      record { work = made.work; shape = made.shape; puts = made.puts; is = inr (inr made.is) }
  front_matched at (Fetch asks) (End others) acts rest like own = absurd like
  front_matched at (End writes) (Fetch others) acts rest like own = absurd like

  none_act : (A : Type 0) (a : LifeAct) → ◌≡◌ {A = Option LifeAct} None (Some a) → A
  none_act A a e = absurd (cc)

  one_act : (a b : LifeAct) → ◌≡◌ {A = Option LifeAct} (Some a) (Some b) → a ≡ b
  one_act a b e = cc

  pub refused_matched : (at : ℕ × ℕ) (refused other : Option VaultCall) (made found : List LifeAct) (in_flight : Option LifeAct) → IsOtherRefused p refused other → AreFirstActs refused made in_flight → Finds in_flight found →
      Makes p at (made ++ found) (RefusedMatch refused other (made ++ found))
  refused_matched at None None made found in_flight like (none, idle) (inl nothing) =
      let all : made ++ found ≡ [] = (λ i. none i ++ nothing i) in
      nothing_made at (made ++ found) (RefusedMatch None None (made ++ found)) all (all, refl)
  refused_matched at None None made found in_flight like (none, idle) (inr (a, flies, is)) = none_act _ a (sym idle ∙ flies)
  refused_matched at None (Some other) made found in_flight like first finds = absurd like
  refused_matched at (Some call) None made found in_flight like first finds = absurd like
  refused_matched at (Some call) (Some other) made found in_flight like (rest, own, next) (inl nothing) =
      front_matched at call other (made ++ found) rest like (subst (λ (xs : List LifeAct). AreActsOf call (xs ++ rest)) (sym (append-nil made) ∙ ap (λ (xs : List LifeAct). made ++ xs) (sym nothing)) own)
  refused_matched at (Some call) (Some other) made found in_flight like (rest, own, inl idle) (inr (a, flies, is)) = none_act _ a (sym idle ∙ flies)
  refused_matched at (Some call) (Some other) made found in_flight like (rest, own, inr (b, more, here, are)) (inr (a, flies, is)) =
      let same : b ≡ a = one_act b a (sym here ∙ flies) in
      let whole : made ++ rest ≡ (made ++ found) ++ more =
      ap (λ (xs : List LifeAct). made ++ xs) (are ∙ ap (λ (x : LifeAct). x ∷ more) same) ∙ sym (append_assoc made (a ∷ []) more) ∙ ap (λ (xs : List LifeAct). (made ++ xs) ++ more) (sym is) in
      front_matched at call other (made ++ found) more like (subst (λ (xs : List LifeAct). AreActsOf call xs) whole own)

  pub calls_matched : (w : WordId → ℕ) (at : ℕ × ℕ) (s : LifeState) (calls others : List VaultCall) (steps : List (Shape × Fills)) (acts : List LifeAct) → AreOtherCalls p calls others → AreShownBy p w s calls steps acts → Makes p at acts (CallsMatch p w s calls others steps acts)
  calls_matched w at s [] [] [] acts like is = nothing_made at acts (CallsMatch p w s [] [] [] acts) is (is, refl)
  calls_matched w at s [] [] (step ∷ steps) acts like is = absurd is
  calls_matched w at s [] (other ∷ others) steps acts like is = absurd like
  calls_matched w at s (call ∷ calls) [] steps acts like is = absurd like
  calls_matched w at s (call ∷ calls) (other ∷ others) [] acts like is = absurd is
  calls_matched w at s (call ∷ calls) (other ∷ others) (step ∷ steps) acts like (first, rest, is, own, filled, more) =
      let one = call_matched at call other first like.0 own in
      let two = calls_matched w (counted at one.work) (reached p w s first) calls others steps rest like.1 more in
      record {
        work = one.work ++ two.work;
        shape = subst (λ (xs : List LifeAct). SameShape (map work_of xs) (one.work ++ two.work)) (sym is) (join_shapes first rest one.work two.work one.shape two.shape);
        puts = puts_join p at one.work two.work one.puts two.puts;
        is = (first, rest, one.work, two.work, is, refl, one.is, filled, two.is);
      }
