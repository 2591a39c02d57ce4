-- At each opening of a row of runs, what is public is what was seen.
use Rattle.std.specs.Prelude.{◌≡◌, ℕ, ◌<◌, ◌≤◌, Bool, true, false, List, [], ◌∷◌, ◌++◌}
use Rattle.std.proofs.Common.{sym, ap, subst, ◌∙◌}
use Rattle.std.proofs.lemmas.Bool.{false≢true}
use Rattle.ob_base.specs.declared.params.Params.{Params}
use Rattle.ob_fresh.proofs.Publics.{IsOpen, behind_both, life_seen, open_formatted, open_life, public_first}
use Rattle.ob_fresh.specs.PublicLives.{SeenAct, all_seen, public_after}
use Rattle.ob_recover.specs.Known.{gates_open}
use Rattle.ob_recover.specs.Life.{IsLife, LifeAct, LifeState, WordId, formatted_life, life_step, reached}
use Rattle.ob_recover.specs.LifePublic.{public_in}
use Rattle.ob_schedule.specs.Schedule.{Public, public_formatted}
use Rattle.ob_seal.specs.declared.keys.Keys.{Keys}
use Rattle.ob_store.specs.Disk.{Disk}
use Rattle.ob_vault.specs.Joined.{AreParts, IsPart, RunPart, Served, Stopped}
use Rattle.ob_vault.specs.Lives.{opening_acts}
use Rattle.ob_public_runs.specs.RunsPublic.{ArePartsPublic, IsPartPublic, RunsArePublic}
use Rattle.ob_public_runs.proofs.Lifted.{AreLifted, ends_shown, opening_lifted, part_lifted}

life_split : (p : Params) (word_of : WordId → ℕ) (s : LifeState) (xs ys : List LifeAct) → IsLife p word_of s (xs ++ ys) → IsLife p word_of s xs × IsLife p word_of (reached p word_of s xs) ys
life_split p word_of s [] ys life = (tt, life)
life_split p word_of s (x ∷ xs) ys life = let rest = life_split p word_of (life_step p word_of s x) xs ys life.1 in ((life.0, rest.0), rest.1)

no_lift : (p : Params) (s : LifeState) → false ≡ true → p.batches ≤ s.begun
no_lift p s e = absurd (false≢true e)

module _ {S : Type 0} (disk : S → Disk) (keys : Keys) (p : Params) (word_of : WordId → ℕ) (found_by : ℕ → ℕ → Bool) (some : 0 < p.dummies) where
  -- what was seen so far is what is public of the state
  abbrev IsKnown : LifeState → List SeenAct → Type 0
  IsKnown s before = public_in p word_of s (public_after p (public_formatted p) before).gates ≡ public_after p (public_formatted p) before

  known_then : (s : LifeState) (before : List SeenAct) (acts : List LifeAct) → IsOpen p word_of s → IsLife p word_of s acts → AreLifted false acts → IsKnown s before → IsKnown (reached p word_of s acts) (before ++ all_seen p word_of found_by s acts)
  known_then s before acts inv life lifted known =
      subst (λ (q : Public). public_in p word_of (reached p word_of s acts) q.gates ≡ q) (sym (behind_both p word_of some found_by (public_formatted p) before (all_seen p word_of found_by s acts)))
      (life_seen p word_of some found_by s acts (public_after p (public_formatted p) before) inv life (ends_shown p word_of s false acts (no_lift p s) lifted life) known)

  part_public : (s : LifeState) (before : List SeenAct) (part : RunPart S) (acts : List LifeAct) → IsPart disk keys p word_of s part acts → IsOpen p word_of s → IsKnown s before → IsPartPublic disk keys p word_of found_by s before part
  part_public s before (Served most old found opened calls steps behind refused words seen new) acts (run, m, is_map, rest, finds, is) inv known =
      let life : IsLife p word_of s (opening_acts s) = (life_split p word_of s (opening_acts s) (run.goes).acts run.is_life).0 in
      run.known ∙ ap (λ (q : Public). record q { gates = gates_open (found.run).gates }) (known_then s before (opening_acts s) inv life (opening_lifted s) known)
  part_public s before (Stopped old new) acts is inv known = tt

  parts_public : (s : LifeState) (before : List SeenAct) (parts : List (RunPart S)) (acts : List LifeAct) (are : AreParts disk keys p word_of s parts acts) → IsOpen p word_of s → IsLife p word_of s acts → IsKnown s before
      → ArePartsPublic disk keys p word_of found_by s before parts acts are
  parts_public s before [] acts are inv life known = tt
  parts_public s before (part ∷ parts) acts are inv life known =
      let split = life_split p word_of s are.0 are.1 (subst (λ (xs : List LifeAct). IsLife p word_of s xs) are.2 life) in
      let lifted : AreLifted false are.0 = part_lifted disk keys p word_of s part are.0 are.3 in (
        part_public s before part are.0 are.3 inv known,
        parts_public (reached p word_of s are.0) (before ++ all_seen p word_of found_by s are.0) parts are.1 are.4 (open_life p word_of some s are.0 split.0 inv) split.1 (known_then s before are.0 inv split.0 lifted known),
      )

pub runs_are_public : {S : Type 0} (disk : S → Disk) → RunsArePublic disk
runs_are_public disk keys p drawn parts word_of found_by some one =
    parts_public disk keys p word_of found_by some (formatted_life one.slot) [] parts one.acts one.parts_are (open_formatted p word_of some one.slot one.ranked) one.is_life (public_first p word_of one.slot)
