-- Each end of a row of runs stands right behind its lifts, so that its attempt has shown all batches.
use Rattle.std.specs.Prelude.{◌≡◌, ℕ, zero, suc, ◌≤◌, Bool, true, false, List, [], ◌∷◌, ◌++◌, length, Option, None, Some, ⊤}
use Rattle.std.proofs.Common.{arith, refl, sym, ap, subst, ◌∙◌, inl, inr, append_assoc}
use Rattle.std.proofs.lemmas.Bool.{false≢true}
use Rattle.std.proofs.lemmas.List.{append-nil}
use Rattle.ob_base.specs.declared.params.Params.{Params}
use Rattle.ob_fresh.specs.PublicLives.{AreEndsShown}
use Rattle.ob_recover.specs.Calls.{Finds, repeated}
use Rattle.ob_recover.specs.Life.{WordId, LifeState, LifeAct, Open, Append, ShowBatch, ShowLifts, End as EndAct, IsLife, life_step, reached}
use Rattle.ob_schedule.specs.Schedule.{Fills}
use Rattle.ob_serial.specs.Vaults.{End, Fetch, VaultCall}
use Rattle.ob_store.specs.Disk.{Disk}
use Rattle.ob_seal.specs.declared.keys.Keys.{Keys}
use Rattle.ob_vault.specs.Joined.{AreParts, IsPart, RunPart, Served, Stopped}
use Rattle.ob_vault.specs.Lives.{AreFirstActs, opening_acts}
use Rattle.ob_vault.specs.Shapes.{Shape}
use Rattle.ob_vault.specs.Shown.{AreActsOf, AreShownBy}

-- each end stands right behind lifts; these may stand before the first act
abbrev pub AreLifted : Bool → List LifeAct → Type 0
AreLifted b [] = ⊤
AreLifted b (Open g ∷ rest) = AreLifted false rest
AreLifted b (Append r ∷ rest) = AreLifted false rest
AreLifted b (ShowBatch ∷ rest) = AreLifted false rest
AreLifted b (ShowLifts ∷ rest) = AreLifted true rest
AreLifted b (EndAct ws drawn slot ∷ rest) = (b ≡ true) × AreLifted false rest

any_lifted : (b : Bool) (acts : List LifeAct) → AreLifted false acts → AreLifted b acts
any_lifted b [] h = tt
any_lifted b (Open g ∷ rest) h = h
any_lifted b (Append r ∷ rest) h = h
any_lifted b (ShowBatch ∷ rest) h = h
any_lifted b (ShowLifts ∷ rest) h = h
any_lifted b (EndAct ws drawn slot ∷ rest) h = absurd (false≢true h.0)

pub both_lifted : (b : Bool) (xs ys : List LifeAct) → AreLifted b xs → AreLifted false ys → AreLifted b (xs ++ ys)
both_lifted b [] ys one two = any_lifted b ys two
both_lifted b (Open g ∷ xs) ys one two = both_lifted false xs ys one two
both_lifted b (Append r ∷ xs) ys one two = both_lifted false xs ys one two
both_lifted b (ShowBatch ∷ xs) ys one two = both_lifted false xs ys one two
both_lifted b (ShowLifts ∷ xs) ys one two = both_lifted true xs ys one two
both_lifted b (EndAct ws drawn slot ∷ xs) ys one two = (one.0, both_lifted false xs ys one.1 two)

pub front_lifted : (b : Bool) (xs ys : List LifeAct) → AreLifted b (xs ++ ys) → AreLifted b xs
front_lifted b [] ys h = tt
front_lifted b (Open g ∷ xs) ys h = front_lifted false xs ys h
front_lifted b (Append r ∷ xs) ys h = front_lifted false xs ys h
front_lifted b (ShowBatch ∷ xs) ys h = front_lifted false xs ys h
front_lifted b (ShowLifts ∷ xs) ys h = front_lifted true xs ys h
front_lifted b (EndAct ws drawn slot ∷ xs) ys h = (h.0, front_lifted false xs ys h.1)

-- then each is of an attempt that has shown all
pub ends_shown : (p : Params) (word_of : WordId → ℕ) (s : LifeState) (b : Bool) (acts : List LifeAct) → (b ≡ true → p.batches ≤ s.begun) → AreLifted b acts → IsLife p word_of s acts → AreEndsShown p word_of s acts
ends_shown p word_of s b [] low h life = tt
ends_shown p word_of s b (Open g ∷ rest) low h life = ends_shown p word_of (life_step p word_of s (Open g)) false rest (λ e. absurd (false≢true e)) h life.1
ends_shown p word_of s b (Append r ∷ rest) low h life = ends_shown p word_of (life_step p word_of s (Append r)) false rest (λ e. absurd (false≢true e)) h life.1
ends_shown p word_of s b (ShowBatch ∷ rest) low h life = ends_shown p word_of (life_step p word_of s ShowBatch) false rest (λ e. absurd (false≢true e)) h life.1
ends_shown p word_of s b (ShowLifts ∷ rest) low h life = ends_shown p word_of (life_step p word_of s ShowLifts) true rest (λ e. (let all : s.begun ≡ p.batches = life.0.1 in omega arith)) h life.1
ends_shown p word_of s b (EndAct ws drawn slot ∷ rest) low h life = (low h.0, ends_shown p word_of (life_step p word_of s (EndAct ws drawn slot)) false rest (λ e. absurd (false≢true e)) h.1 life.1)

-- ---- the acts of runs

repeats_lifted : (n : ℕ) → AreLifted false (repeated n)
repeats_lifted zero = tt
repeats_lifted (suc n) = repeats_lifted n

pub opening_lifted : (s : LifeState) → AreLifted false (opening_acts s)
opening_lifted s = repeats_lifted (length s.log)

call_lifted : (call : VaultCall) (acts : List LifeAct) → AreActsOf call acts → AreLifted false acts
call_lifted (Fetch asks) acts (b, same, is) = subst (λ (xs : List LifeAct). AreLifted false xs) (sym is) tt
call_lifted (End writes) acts (ws, drawn, slot, is) = subst (λ (xs : List LifeAct). AreLifted false xs) (sym is) (refl, tt)

calls_lifted : (p : Params) (word_of : WordId → ℕ) (s : LifeState) (calls : List VaultCall) (steps : List (Shape × Fills)) (acts : List LifeAct) → AreShownBy p word_of s calls steps acts → AreLifted false acts
calls_lifted p word_of s [] [] acts is = subst (λ (xs : List LifeAct). AreLifted false xs) (sym is) tt
calls_lifted p word_of s (call ∷ calls) (step ∷ steps) acts (first, rest, is, own, filled, more) =
    subst (λ (xs : List LifeAct). AreLifted false xs) (sym is) (both_lifted false first rest (call_lifted call first own) (calls_lifted p word_of (reached p word_of s first) calls steps rest more))
calls_lifted p word_of s [] (step ∷ steps) acts none = absurd none
calls_lifted p word_of s (call ∷ calls) [] acts none = absurd none

none_some : (A : Type 0) (a : LifeAct) → ◌≡◌ {A = Option LifeAct} None (Some a) → A
none_some A a e = absurd (cc)

same_some : (a b : LifeAct) → ◌≡◌ {A = Option LifeAct} (Some a) (Some b) → a ≡ b
same_some a b e = cc

-- those of a refused call, with the one that was found of it
refused_lifted : (refused : Option VaultCall) (made found : List LifeAct) (in_flight : Option LifeAct) → AreFirstActs refused made in_flight → Finds in_flight found → AreLifted false (made ++ found)
refused_lifted None made found in_flight (none, idle) (inl nothing) = subst (λ (xs : List LifeAct). AreLifted false (xs ++ found)) (sym none) (subst (λ (xs : List LifeAct). AreLifted false xs) (sym nothing) tt)
refused_lifted None made found in_flight (none, idle) (inr (a, flies, is)) = none_some _ a (sym idle ∙ flies)
refused_lifted (Some call) made found in_flight (rest, own, next) (inl nothing) =
    subst (λ (xs : List LifeAct). AreLifted false (made ++ xs)) (sym nothing) (subst (λ (xs : List LifeAct). AreLifted false xs) (sym (append-nil made)) (front_lifted false made rest (call_lifted call (made ++ rest) own)))
refused_lifted (Some call) made found in_flight (rest, own, inl idle) (inr (a, flies, is)) = none_some _ a (sym idle ∙ flies)
refused_lifted (Some call) made found in_flight (rest, own, inr (b, more, here, are)) (inr (a, flies, is)) =
    let same : b ≡ a = same_some b a (sym here ∙ flies) in
    let whole : made ++ rest ≡ (made ++ found) ++ more =
    ap (λ (xs : List LifeAct). made ++ xs) (are ∙ ap (λ (x : LifeAct). x ∷ more) same) ∙ sym (append_assoc made (a ∷ []) more) ∙ ap (λ (xs : List LifeAct). (made ++ xs) ++ more) (sym is) in
    front_lifted false (made ++ found) more (subst (λ (xs : List LifeAct). AreLifted false xs) whole (call_lifted call (made ++ rest) own))

module _ {S : Type 0} (disk : S → Disk) (keys : Keys) (p : Params) (word_of : WordId → ℕ) where
  pub part_lifted : (s : LifeState) (part : RunPart S) (acts : List LifeAct) → IsPart disk keys p word_of s part acts → AreLifted false acts
  part_lifted s (Served most old found opened calls steps behind refused words seen new) acts (run, m, is_map, rest, finds, is) =
      let left = (run.goes).left m is_map in
      subst (λ (xs : List LifeAct). AreLifted false xs) (sym is)
      (both_lifted false (opening_acts s ++ (run.goes).acts) (left.made ++ rest)
      (both_lifted false (opening_acts s) (run.goes).acts (opening_lifted s) (calls_lifted p word_of (reached p word_of s (opening_acts s)) calls steps (run.goes).acts (run.goes).shown))
      (refused_lifted refused left.made rest left.in_flight left.first finds))
  part_lifted s (Stopped old new) acts (rest, is) = front_lifted false acts rest (subst (λ (xs : List LifeAct). AreLifted false xs) is (opening_lifted s))

  pub parts_lifted : (s : LifeState) (parts : List (RunPart S)) (acts : List LifeAct) → AreParts disk keys p word_of s parts acts → AreLifted false acts
  parts_lifted s [] acts is = subst (λ (xs : List LifeAct). AreLifted false xs) (sym is) tt
  parts_lifted s (part ∷ parts) acts (first, later, is, own, more) =
      subst (λ (xs : List LifeAct). AreLifted false xs) (sym is) (both_lifted false first later (part_lifted s part first own) (parts_lifted (reached p word_of s first) parts later more))
