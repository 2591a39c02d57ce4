-- Other calls of the same shapes in each of a row of runs, and the work that they make.
use Rattle.std.specs.Prelude.{◌≡◌, ℕ, suc, zero, ◌<◌, ◌≤◌, Bool, true, false, List, [], ◌∷◌, ◌++◌, length, map, Option, None, Some, ⊤}
use Rattle.ob_base.specs.declared.params.Params.{Params}
use Rattle.ob_deniable.specs.Telling.{fills_of_acts}
use Rattle.ob_deniable.specs.Works.{LifeWork, Opens, Logs, Shows, Lifts, Ends}
use Rattle.ob_deniable_runs.specs.Tapes.{AreVersionsUntied, CouldBeDone}
use Rattle.ob_recover.specs.Life.{WordId, formatted_life}
use Rattle.ob_seal.specs.declared.keys.Keys.{Keys}
use Rattle.ob_serial.specs.Vaults.{End, Fetch, VaultCall}
use Rattle.ob_store.specs.Disk.{Disk}
use Rattle.ob_vault.specs.Acts.{AreTapeWords}
use Rattle.ob_vault.specs.Joined.{IsOneLife, RunPart, Served, Stopped}

-- ---- the other calls

-- a batch of as many places, or an end of any writes, no more than an epoch may have
abbrev pub IsOtherCall : Params → VaultCall → VaultCall → Type 0
IsOtherCall p (Fetch asks) (Fetch others) = length asks ≡ length others
IsOtherCall p (End writes) (End others) = length others ≤ p.writes
IsOtherCall p (Fetch asks) (End others) = ⊥
IsOtherCall p (End writes) (Fetch others) = ⊥

abbrev pub AreOtherCalls : Params → List VaultCall → List VaultCall → Type 0
AreOtherCalls p [] [] = ⊤
AreOtherCalls p (call ∷ calls) (other ∷ others) = IsOtherCall p call other × AreOtherCalls p calls others
AreOtherCalls p [] (other ∷ others) = ⊥
AreOtherCalls p (call ∷ calls) [] = ⊥

abbrev pub IsOtherRefused : Params → Option VaultCall → Option VaultCall → Type 0
IsOtherRefused p None None = ⊤
IsOtherRefused p (Some call) (Some other) = IsOtherCall p call other
IsOtherRefused p None (Some other) = ⊥
IsOtherRefused p (Some call) None = ⊥

-- of a run: the calls that were answered, and the one that was refused behind them
pub record OtherRun : Type 0 where
  pub calls : List VaultCall
  pub refused : Option VaultCall

-- one for each run whose opening wasn't refused
abbrev pub AreOtherRuns : {S : Type 0} → Params → List (RunPart S) → List OtherRun → Type 0
AreOtherRuns p [] [] = ⊤
AreOtherRuns p [] (run ∷ runs) = ⊥
AreOtherRuns p (Served most old found opened calls steps behind refused words seen new ∷ parts) (run ∷ runs) = AreOtherCalls p calls run.calls × IsOtherRefused p refused run.refused × AreOtherRuns p parts runs
AreOtherRuns p (Served most old found opened calls steps behind refused words seen new ∷ parts) [] = ⊥
AreOtherRuns p (Stopped old new ∷ parts) runs = AreOtherRuns p parts runs

-- ---- their work

-- a write's key, and whether it puts
abbrev pub is_put : {A : Type 0} → Option A → Bool
is_put None = false
is_put (Some x) = true

abbrev pub told_write : {A : Type 0} → ℕ × Option A → ℕ × Bool
told_write write = (write.0, is_put write.1)

-- a batch with these keys, or an end that puts and deletes these keys
abbrev pub IsWorkOfCall : VaultCall → List LifeWork → Type 0
IsWorkOfCall (Fetch asks) work = (first : WordId) × (work ≡ Logs asks first ∷ Shows ∷ [])
IsWorkOfCall (End writes) work = (kept : List (ℕ × Option WordId)) × (drawn : ℕ) × (map told_write kept ≡ map told_write writes) × (work ≡ Lifts ∷ Ends kept drawn ∷ [])

abbrev pub IsWorkOfCalls : List VaultCall → List LifeWork → Type 0
IsWorkOfCalls [] work = work ≡ []
IsWorkOfCalls (call ∷ calls) work = (first : List LifeWork) × (rest : List LifeWork) × (work ≡ first ++ rest) × IsWorkOfCall call first × IsWorkOfCalls calls rest

-- the first of what a refused call would do
abbrev pub IsWorkOfRefused : Option VaultCall → List LifeWork → Type 0
IsWorkOfRefused None work = work ≡ []
IsWorkOfRefused (Some call) work = (rest : List LifeWork) × IsWorkOfCall call (work ++ rest)

-- an opening's: a generation, and so many repeats
abbrev pub shows_again : ℕ → List LifeWork
shows_again zero = []
shows_again (suc n) = Shows ∷ shows_again n

abbrev pub IsWorkOfOpening : List LifeWork → Type 0
IsWorkOfOpening work = (generation : ℕ) × (repeats : ℕ) × (work ≡ Opens generation ∷ shows_again repeats)

abbrev pub IsWorkOfRun : OtherRun → List LifeWork → Type 0
IsWorkOfRun run work = (opening : List LifeWork) × (called : List LifeWork) × (left : List LifeWork) × (work ≡ (opening ++ called) ++ left) × IsWorkOfOpening opening × IsWorkOfCalls run.calls called × IsWorkOfRefused run.refused left

-- run by run; of an opening that was refused, the first of its work
abbrev pub IsWorkOfRuns : {S : Type 0} → List (RunPart S) → List OtherRun → List LifeWork → Type 0
IsWorkOfRuns [] runs work = work ≡ []
IsWorkOfRuns (Served most old found opened calls steps behind refused words seen new ∷ parts) [] work = ⊥
IsWorkOfRuns (Served most old found opened calls steps behind refused words seen new ∷ parts) (run ∷ runs) work = (first : List LifeWork) × (later : List LifeWork) × (work ≡ first ++ later) × IsWorkOfRun run first × IsWorkOfRuns parts runs later
IsWorkOfRuns (Stopped old new ∷ parts) runs work = (first : List LifeWork) × (later : List LifeWork) × (work ≡ first ++ later) × ((rest : List LifeWork) × IsWorkOfOpening (first ++ rest)) × IsWorkOfRuns parts runs later

-- ---- the law

-- Whatever other calls of the same shapes had been made in these runs, a work of those calls could have been done, on another tape.
abbrev pub CallsAreDeniable : {S : Type 0} → (S → Disk) → Type 0
CallsAreDeniable {S} disk = (keys : Keys) (p : Params) (drawn : List ℕ) (parts : List (RunPart S)) (tape : WordId → ℕ) (runs : List OtherRun) → 0 < p.dummies → AreTapeWords tape 1 drawn
    → (one : IsOneLife disk keys p tape drawn parts) → AreVersionsUntied p tape one.slot one.acts → AreOtherRuns p parts runs
    → (work : List LifeWork) × IsWorkOfRuns parts runs work × CouldBeDone p tape work (fills_of_acts p tape (formatted_life one.slot) one.acts)
