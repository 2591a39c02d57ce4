-- The work of other calls, of the shape of what a row of runs did.
use Rattle.std.specs.Prelude.{◌≡◌, ℕ, zero, suc, ◌+◌, ◌*◌, ◌≤◌, Bool, true, false, List, [], ◌∷◌, ◌++◌, length, map, Option, None, Some}
use Rattle.std.proofs.Common.{arith, refl, sym, ap, subst, ◌∙◌, inl, inr, append_assoc}
use Rattle.std.proofs.lemmas.List.{append-nil, map-append}
use Rattle.ob_base.specs.declared.params.Params.{Params}
use Rattle.ob_base.specs.Tree.{buckets, width}
use Rattle.ob_deniable.specs.Works.{LifeWork, Opens, Logs, Shows, Lifts, Ends, SameShape}
use Rattle.ob_deniable_runs.specs.OtherCalls.{AreOtherCalls, AreOtherRuns, CallsAreDeniable, IsOtherCall, IsOtherRefused, IsWorkOfCall, IsWorkOfCalls, IsWorkOfOpening, IsWorkOfRefused, IsWorkOfRun, IsWorkOfRuns, OtherRun, shows_again, told_write}
use Rattle.ob_deniable_runs.specs.RunsDenied.{work_of}
use Rattle.ob_deniable_runs.specs.Tapes.{ArePutsNext}
use Rattle.ob_deniable_runs.proofs.Denied.{own_shape, runs_are_deniable}
use Rattle.ob_fresh.specs.Drawn.{AreNextPuts}
use Rattle.ob_recover.specs.Calls.{Finds, repeated}
use Rattle.ob_recover.specs.Life.{WordId, LifeAct, LifeState, formatted_life, next_word, reached}
use Rattle.ob_schedule.specs.Schedule.{Fills}
use Rattle.ob_seal.specs.declared.keys.Keys.{Keys}
use Rattle.ob_serial.specs.Vaults.{End, Fetch, VaultCall}
use Rattle.ob_store.specs.Disk.{Disk}
use Rattle.ob_vault.specs.Joined.{AreParts, RunPart, Served, Stopped}
use Rattle.ob_vault.specs.Lives.{AreFirstActs, opening_acts}
use Rattle.ob_vault.specs.Shapes.{Shape}
use Rattle.ob_vault.specs.Shown.{AreActsOf, AreShownBy}

-- ---- shapes and puts of rows

pub shapes_join : (xs ys us vs : List LifeWork) → SameShape xs us → SameShape ys vs → SameShape (xs ++ ys) (us ++ vs)
shapes_join [] ys [] vs one two = two
shapes_join [] ys (u ∷ us) vs one two = absurd one
shapes_join (x ∷ xs) ys [] vs one two = absurd one
shapes_join (x ∷ xs) ys (u ∷ us) vs one two = (one.0, shapes_join xs ys us vs one.1 two)

pub record IsCut (p : Params) (xs : List LifeWork) (work : List LifeWork) : Type 0 where
  pub first : List LifeWork
  pub rest : List LifeWork
  pub is : work ≡ first ++ rest
  pub shape : SameShape xs first

pub cut_at : (p : Params) (xs ys work : List LifeWork) → SameShape (xs ++ ys) work → IsCut p xs work
cut_at p [] ys work sh = record { first = []; rest = work; is = refl; shape = tt }
cut_at p (x ∷ xs) ys [] sh = absurd sh
cut_at p (x ∷ xs) ys (w ∷ work) sh = let r = cut_at p xs ys work sh.1 in record { first = w ∷ r.first; rest = r.rest; is = ap (λ (more : List LifeWork). w ∷ more) r.is; shape = (sh.0, r.shape) }

-- the generation, and how many of its words were drawn, behind a work
pub counted : ℕ × ℕ → List LifeWork → ℕ × ℕ
counted at [] = at
counted at (Opens h ∷ rest) = counted (h, 0) rest
counted at (Logs asks first ∷ rest) = counted (at.0, at.1 + length asks) rest
counted at (Shows ∷ rest) = counted at rest
counted at (Lifts ∷ rest) = counted at rest
counted at (Ends ws n ∷ rest) = counted (at.0, n) rest

abbrev pub PutsFrom : Params → ℕ × ℕ → List LifeWork → Type 0
PutsFrom p at work = ArePutsNext p at.0 at.1 work

pub puts_join : (p : Params) (at : ℕ × ℕ) (xs ys : List LifeWork) → PutsFrom p at xs → PutsFrom p (counted at xs) ys → PutsFrom p at (xs ++ ys)
unfolding counted
puts_join p at [] ys one two = two
puts_join p at (Opens h ∷ xs) ys one two = puts_join p (h, 0) xs ys one two
puts_join p at (Logs asks first ∷ xs) ys one two = puts_join p (at.0, at.1 + length asks) xs ys one two
puts_join p at (Shows ∷ xs) ys one two = puts_join p at xs ys one two
puts_join p at (Lifts ∷ xs) ys one two = puts_join p at xs ys one two
puts_join p at (Ends ws n ∷ xs) ys one two = (one.0, one.1, puts_join p (at.0, n) xs ys one.2 two)

pub puts_front : (p : Params) (at : ℕ × ℕ) (xs ys : List LifeWork) → PutsFrom p at (xs ++ ys) → PutsFrom p at xs
puts_front p at [] ys all = tt
puts_front p at (Opens h ∷ xs) ys all = puts_front p (h, 0) xs ys all
puts_front p at (Logs asks first ∷ xs) ys all = puts_front p (at.0, at.1 + length asks) xs ys all
puts_front p at (Shows ∷ xs) ys all = puts_front p at xs ys all
puts_front p at (Lifts ∷ xs) ys all = puts_front p at xs ys all
puts_front p at (Ends ws n ∷ xs) ys all = (all.0, all.1, puts_front p (at.0, n) xs ys all.2)

-- ---- a call

pub kept_by : WordId → List (ℕ × Option (List ℕ)) → List (ℕ × Option WordId)
kept_by w [] = []
kept_by w ((key, None) ∷ rest) = (key, None) ∷ kept_by (next_word w) rest
kept_by w ((key, Some value) ∷ rest) = (key, Some w) ∷ kept_by (next_word w) rest

pub kept_next : (w : WordId) (writes : List (ℕ × Option (List ℕ))) → AreNextPuts w (kept_by w writes)
unfolding kept_by
kept_next w [] = tt
kept_next w ((key, None) ∷ rest) = (tt, kept_next (next_word w) rest)
kept_next w ((key, Some value) ∷ rest) = (refl, kept_next (next_word w) rest)

pub kept_told : (w : WordId) (writes : List (ℕ × Option (List ℕ))) → map told_write (kept_by w writes) ≡ map told_write writes
unfolding kept_by
kept_told w [] = refl
kept_told w ((key, None) ∷ rest) = ap (λ (ts : List (ℕ × Bool)). (key, false) ∷ ts) (kept_told (next_word w) rest)
kept_told w ((key, Some value) ∷ rest) = ap (λ (ts : List (ℕ × Bool)). (key, true) ∷ ts) (kept_told (next_word w) rest)

pub kept_many : (w : WordId) (writes : List (ℕ × Option (List ℕ))) → length (kept_by w writes) ≡ length writes
unfolding kept_by
kept_many w [] = refl
kept_many w ((key, None) ∷ rest) = ap suc (kept_many (next_word w) rest)
kept_many w ((key, Some value) ∷ rest) = ap suc (kept_many (next_word w) rest)

-- a work of this shape, whose puts are next, of which this holds
pub record Makes (p : Params) (at : ℕ × ℕ) (acts : List LifeAct) (Is : List LifeWork → Type 0) : Type 0 where
  pub work : List LifeWork
  pub shape : SameShape (map work_of acts) work
  pub puts : PutsFrom p at work
  pub is : Is work

pub call_made : (p : Params) (at : ℕ × ℕ) (call other : VaultCall) (acts : List LifeAct) → IsOtherCall p call other → AreActsOf call acts → Makes p at acts (IsWorkOfCall other)
call_made p at (Fetch asks) (Fetch others) acts like (b, same, is) = record {
  work = Logs others b.first ∷ Shows ∷ [];
  shape = subst (λ (xs : List LifeAct). SameShape (map work_of xs) (Logs others b.first ∷ Shows ∷ [])) (sym is) ((ap length same ∙ like, refl), (tt, tt));
  puts = tt;
  is = (b.first, refl);
}
call_made p at (End writes) (End others) acts like (ws, drawn, slot, is) =
    let first : WordId = record { generation = at.0; place = at.1 } in
    let few : length (kept_by first others) ≤ p.writes = (let many : length (kept_by first others) ≡ length others = kept_many first others in omega arith) in
    record {
      work = Lifts ∷ Ends (kept_by first others) drawn ∷ [];
      shape = subst (λ (xs : List LifeAct). SameShape (map work_of xs) (Lifts ∷ Ends (kept_by first others) drawn ∷ [])) (sym is) (tt, (refl, tt));
      puts = (few, kept_next first others, tt);
      is = (kept_by first others, drawn, kept_told first others, refl);
    }
call_made p at (Fetch asks) (End others) acts like own = absurd like
call_made p at (End writes) (Fetch others) acts like own = absurd like

pub both_made : (p : Params) (at : ℕ × ℕ) (xs ys : List LifeAct) (A B : List LifeWork → Type 0) (one : Makes p at xs A) → Makes p (counted at one.work) ys B → Makes p at (xs ++ ys) (λ work. (first : List LifeWork) × (rest : List LifeWork) × (work ≡ first ++ rest) × A first × B rest)
both_made p at xs ys A B one two = record {
  work = one.work ++ two.work;
  shape = subst (λ (w : List LifeWork). SameShape w (one.work ++ two.work)) (sym (map-append work_of xs ys)) (shapes_join (map work_of xs) (map work_of ys) one.work two.work one.shape two.shape);
  puts = puts_join p at one.work two.work one.puts two.puts;
  is = (one.work, two.work, refl, one.is, two.is);
}

calls_made : (p : Params) (tape : WordId → ℕ) (at : ℕ × ℕ) (s : LifeState) (calls others : List VaultCall) (steps : List (Shape × Fills)) (acts : List LifeAct) → AreOtherCalls p calls others → AreShownBy p tape s calls steps acts → Makes p at acts (IsWorkOfCalls others)
calls_made p tape at s [] [] [] acts like is = record { work = []; shape = subst (λ (xs : List LifeAct). SameShape (map work_of xs) []) (sym is) tt; puts = tt; is = refl }
calls_made p tape at s [] [] (step ∷ steps) acts like is = absurd is
calls_made p tape at s [] (other ∷ others) steps acts like is = absurd like
calls_made p tape at s (call ∷ calls) [] steps acts like is = absurd like
calls_made p tape at s (call ∷ calls) (other ∷ others) [] acts like is = absurd is
calls_made p tape at s (call ∷ calls) (other ∷ others) (step ∷ steps) acts like (first, rest, is, own, filled, more) =
    let one : Makes p at first (IsWorkOfCall other) = call_made p at call other first like.0 own in
    let two : Makes p (counted at one.work) rest (IsWorkOfCalls others) = calls_made p tape (counted at one.work) (reached p tape s first) calls others steps rest like.1 more in
    subst (λ (xs : List LifeAct). Makes p at xs (IsWorkOfCalls (other ∷ others))) (sym is) (both_made p at first rest (IsWorkOfCall other) (IsWorkOfCalls others) one two)

-- ---- the first of what a refused call does

pub front_made : (p : Params) (at : ℕ × ℕ) (call other : VaultCall) (acts rest : List LifeAct) → IsOtherCall p call other → AreActsOf call (acts ++ rest) → Makes p at acts (IsWorkOfRefused (Some other))
front_made p at call other acts rest like own =
    let all : Makes p at (acts ++ rest) (IsWorkOfCall other) = call_made p at call other (acts ++ rest) like own in
    let cut : IsCut p (map work_of acts) all.work = cut_at p (map work_of acts) (map work_of rest) all.work (subst (λ (w : List LifeWork). SameShape w all.work) (map-append work_of acts rest) all.shape) in
    record {
      work = cut.first;
      shape = cut.shape;
      puts = puts_front p at cut.first cut.rest (subst (λ (w : List LifeWork). PutsFrom p at w) cut.is all.puts);
      is = (cut.rest, subst (λ (w : List LifeWork). IsWorkOfCall other w) cut.is all.is);
    }

pub none_some : (A : Type 0) (a : LifeAct) → ◌≡◌ {A = Option LifeAct} None (Some a) → A
none_some A a e = absurd (cc)

pub same_some : (a b : LifeAct) → ◌≡◌ {A = Option LifeAct} (Some a) (Some b) → a ≡ b
same_some a b e = cc

pub refused_made : (p : Params) (at : ℕ × ℕ) (refused other : Option VaultCall) (made found : List LifeAct) (in_flight : Option LifeAct) → IsOtherRefused p refused other → AreFirstActs refused made in_flight → Finds in_flight found → Makes p at (made ++ found) (IsWorkOfRefused other)
refused_made p at None None made found in_flight like (none, idle) (inl nothing) =
    record { work = []; shape = subst (λ (xs : List LifeAct). SameShape (map work_of (xs ++ found)) []) (sym none) (subst (λ (xs : List LifeAct). SameShape (map work_of xs) []) (sym nothing) tt); puts = tt; is = refl }
refused_made p at None None made found in_flight like (none, idle) (inr (a, flies, is)) = none_some _ a (sym idle ∙ flies)
refused_made p at None (Some other) made found in_flight like first finds = absurd like
refused_made p at (Some call) None made found in_flight like first finds = absurd like
refused_made p at (Some call) (Some other) made found in_flight like (rest, own, next) (inl nothing) =
    subst (λ (xs : List LifeAct). Makes p at (made ++ xs) (IsWorkOfRefused (Some other))) (sym nothing) (subst (λ (xs : List LifeAct). Makes p at xs (IsWorkOfRefused (Some other))) (sym (append-nil made)) (front_made p at call other made rest like own))
refused_made p at (Some call) (Some other) made found in_flight like (rest, own, inl idle) (inr (a, flies, is)) = none_some _ a (sym idle ∙ flies)
refused_made p at (Some call) (Some other) made found in_flight like (rest, own, inr (b, more, here, are)) (inr (a, flies, is)) =
    let same : b ≡ a = same_some b a (sym here ∙ flies) in
    let whole : made ++ rest ≡ (made ++ found) ++ more =
    ap (λ (xs : List LifeAct). made ++ xs) (are ∙ ap (λ (x : LifeAct). x ∷ more) same) ∙ sym (append_assoc made (a ∷ []) more) ∙ ap (λ (xs : List LifeAct). (made ++ xs) ++ more) (sym is) in
    front_made p at call other (made ++ found) more like (subst (λ (xs : List LifeAct). AreActsOf call xs) whole own)

-- ---- an opening

pub again_same : (n : ℕ) → map work_of (repeated n) ≡ shows_again n
again_same zero = refl
again_same (suc n) = ap (λ (more : List LifeWork). Shows ∷ more) (again_same n)

pub again_puts : (p : Params) (at : ℕ × ℕ) (n : ℕ) → PutsFrom p at (shows_again n)
again_puts p at zero = tt
again_puts p at (suc n) = again_puts p at n

pub opening_made : (p : Params) (at : ℕ × ℕ) (s : LifeState) → Makes p at (opening_acts s) IsWorkOfOpening
opening_made p at s = record {
  work = Opens (suc s.generation) ∷ shows_again (length s.log);
  shape = (refl, subst (λ (w : List LifeWork). SameShape w (shows_again (length s.log))) (sym (again_same (length s.log))) (own_shape (shows_again (length s.log))));
  puts = again_puts p (suc s.generation, 0) (length s.log);
  is = (suc s.generation, length s.log, refl);
}

pub first_of_opening : (p : Params) (at : ℕ × ℕ) (s : LifeState) (acts rest : List LifeAct) → opening_acts s ≡ acts ++ rest → Makes p at acts (λ work. (more : List LifeWork) × IsWorkOfOpening (work ++ more))
first_of_opening p at s acts rest is =
    let all : Makes p at (acts ++ rest) IsWorkOfOpening = subst (λ (xs : List LifeAct). Makes p at xs IsWorkOfOpening) is (opening_made p at s) in
    let cut : IsCut p (map work_of acts) all.work = cut_at p (map work_of acts) (map work_of rest) all.work (subst (λ (w : List LifeWork). SameShape w all.work) (map-append work_of acts rest) all.shape) in
    record {
      work = cut.first;
      shape = cut.shape;
      puts = puts_front p at cut.first cut.rest (subst (λ (w : List LifeWork). PutsFrom p at w) cut.is all.puts);
      is = (cut.rest, subst (λ (w : List LifeWork). IsWorkOfOpening w) cut.is all.is);
    }

-- ---- runs

module _ {S : Type 0} (disk : S → Disk) (keys : Keys) (p : Params) (tape : WordId → ℕ) where
  runs_made : (at : ℕ × ℕ) (s : LifeState) (parts : List (RunPart S)) (runs : List OtherRun) (acts : List LifeAct) → AreOtherRuns p parts runs → AreParts disk keys p tape s parts acts → Makes p at acts (IsWorkOfRuns parts runs)
  runs_made at s [] [] acts like is = record { work = []; shape = subst (λ (xs : List LifeAct). SameShape (map work_of xs) []) (sym is) tt; puts = tt; is = refl }
  runs_made at s [] (run ∷ runs) acts like is = absurd like
  runs_made at s (Served most old found opened calls steps behind refused words seen new ∷ parts) [] acts like is = absurd like
  runs_made at s (Served most old found opened calls steps behind refused words seen new ∷ parts) (other ∷ runs) acts like (first, later, is, (run, m, is_map, rest, finds, are), more) =
      let left = (run.goes).left m is_map in
      let opening : Makes p at (opening_acts s) IsWorkOfOpening = opening_made p at s in
      let called : Makes p (counted at opening.work) (run.goes).acts (IsWorkOfCalls other.calls) = calls_made p tape (counted at opening.work) (reached p tape s (opening_acts s)) calls other.calls steps (run.goes).acts like.0 (run.goes).shown in
      let served = both_made p at (opening_acts s) (run.goes).acts IsWorkOfOpening (IsWorkOfCalls other.calls) opening called in
      let cut : Makes p (counted at served.work) (left.made ++ rest) (IsWorkOfRefused other.refused) = refused_made p (counted at served.work) refused other.refused left.made rest left.in_flight like.1 left.first finds in
      let all = both_made p at (opening_acts s ++ (run.goes).acts) (left.made ++ rest) _ (IsWorkOfRefused other.refused) served cut in
      let one : Makes p at ((opening_acts s ++ (run.goes).acts) ++ (left.made ++ rest)) (IsWorkOfRun other) =
      record { work = all.work; shape = all.shape; puts = all.puts; is = (all.is.3.0, all.is.3.1, all.is.1, all.is.2 ∙ ap (λ (w : List LifeWork). w ++ all.is.1) all.is.3.2, all.is.3.3, all.is.3.4, all.is.4) } in
      let part : Makes p at first (IsWorkOfRun other) = subst (λ (xs : List LifeAct). Makes p at xs (IsWorkOfRun other)) (sym are) one in
      let then : Makes p (counted at part.work) later (IsWorkOfRuns parts runs) = runs_made (counted at part.work) (reached p tape s first) parts runs later like.2 more in
      subst (λ (xs : List LifeAct). Makes p at xs (IsWorkOfRuns (Served most old found opened calls steps behind refused words seen new ∷ parts) (other ∷ runs))) (sym is) (both_made p at first later (IsWorkOfRun other) (IsWorkOfRuns parts runs) part then)
  runs_made at s (Stopped old new ∷ parts) runs acts like (first, later, is, (rest, opens), more) =
      let part = first_of_opening p at s first rest opens in
      let then : Makes p (counted at part.work) later (IsWorkOfRuns parts runs) = runs_made (counted at part.work) (reached p tape s first) parts runs later like more in
      subst (λ (xs : List LifeAct). Makes p at xs (IsWorkOfRuns (Stopped old new ∷ parts) runs)) (sym is) (both_made p at first later _ (IsWorkOfRuns parts runs) part then)

pub calls_are_deniable : {S : Type 0} (disk : S → Disk) → CallsAreDeniable disk
calls_are_deniable disk keys p drawn parts tape runs some given one untied like =
    let made : Makes p (1, buckets p * width p) one.acts (IsWorkOfRuns parts runs) = runs_made disk keys p tape (1, buckets p * width p) (formatted_life one.slot) parts runs one.acts like one.parts_are in
    (made.work, made.is, runs_are_deniable disk keys p drawn parts tape made.work some given one untied made.shape made.puts)
