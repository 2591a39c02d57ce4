-- What is public of a store at each of a row of runs is what was seen before, and of the opening.
use Rattle.std.specs.Prelude.{◌≡◌, ℕ, ◌<◌, Bool, List, [], ◌∷◌, ◌++◌, ⊤}
use Rattle.ob_base.specs.declared.params.Params.{Params}
use Rattle.ob_fresh.specs.PublicLives.{SeenAct, all_seen, public_after}
use Rattle.ob_recover.specs.Known.{gates_open}
use Rattle.ob_recover.specs.Life.{LifeAct, LifeState, WordId, formatted_life, reached}
use Rattle.ob_schedule.specs.Schedule.{Public, public_formatted}
use Rattle.ob_seal.specs.declared.keys.Keys.{Keys}
use Rattle.ob_store.specs.Disk.{Disk}
use Rattle.ob_vault.specs.Joined.{AreParts, IsOneLife, RunPart, Served, Stopped}
use Rattle.ob_vault.specs.Lives.{opening_acts}
use Rattle.ob_vault.specs.RingKind.{ring_public}

module _ {S : Type 0} (disk : S → Disk) (keys : Keys) (p : Params) (word_of : WordId → ℕ) (found_by : ℕ → ℕ → Bool) where
  -- what anyone knows behind a format who saw this, where the run of a generation found these gates
  abbrev pub known_from : List SeenAct → Public
  known_from seen = public_after p (public_formatted p) seen

  -- Behind its opening a run goes on from what was seen before and of the opening's repeats, with the gates that it found itself.
  abbrev pub IsPartPublic : LifeState → (before : List SeenAct) → RunPart S → Type 0
  IsPartPublic s before (Served most old found opened calls steps behind refused words seen new) =
      (ring_public p found).known ≡ record (known_from (before ++ all_seen p word_of found_by s (opening_acts s))) { gates = gates_open (found.run).gates }
  IsPartPublic s before (Stopped old new) = ⊤

  -- each of a row, whose acts are a life's
  abbrev pub ArePartsPublic : (s : LifeState) → (before : List SeenAct) → (parts : List (RunPart S)) (acts : List LifeAct) → AreParts disk keys p word_of s parts acts → Type 0
  ArePartsPublic s before [] acts are = ⊤
  ArePartsPublic s before (part ∷ parts) acts are = IsPartPublic s before part × ArePartsPublic (reached p word_of s are.0) (before ++ all_seen p word_of found_by s are.0) parts are.1 are.4

abbrev pub RunsArePublic : {S : Type 0} → (S → Disk) → Type 0
RunsArePublic {S} disk = (keys : Keys) (p : Params) (drawn : List ℕ) (parts : List (RunPart S)) (word_of : WordId → ℕ) (found_by : ℕ → ℕ → Bool) → 0 < p.dummies → (one : IsOneLife disk keys p word_of drawn parts) →
    ArePartsPublic disk keys p word_of found_by (formatted_life one.slot) [] parts one.acts one.parts_are
