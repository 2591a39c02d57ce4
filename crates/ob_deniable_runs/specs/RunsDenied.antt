-- Whatever other work had been done over a row of runs, the store could have seen just this.
use Rattle.std.specs.Prelude.{ℕ, ◌<◌, List, map}
use Rattle.ob_base.specs.declared.params.Params.{Params}
use Rattle.ob_deniable.specs.Telling.{fills_of_acts}
use Rattle.ob_deniable.specs.Works.{LifeWork, Opens, Logs, Shows, Lifts, Ends, SameShape}
use Rattle.ob_deniable_runs.specs.Tapes.{ArePutsInTurn, AreVersionsUntied, CouldBeDone}
use Rattle.ob_recover.specs.Life.{WordId, LifeAct, Open, Append, ShowBatch, ShowLifts, End, formatted_life}
use Rattle.ob_seal.specs.declared.keys.Keys.{Keys}
use Rattle.ob_store.specs.Disk.{Disk}
use Rattle.ob_vault.specs.Acts.{AreTapeWords}
use Rattle.ob_vault.specs.Joined.{IsOneLife, RunPart}

-- an act but for the effects of words
abbrev pub work_of : LifeAct → LifeWork
work_of (Open g) = Opens g
work_of (Append r) = Logs r.asks r.first
work_of ShowBatch = Shows
work_of ShowLifts = Lifts
work_of (End ws drawn slot) = Ends ws drawn

-- What a row of runs did behind a format whose words the tape gave, no version with a tie: any other work of that shape, whose puts are of the
-- next words, could have been done, on another tape.
abbrev pub RunsAreDeniable : {S : Type 0} → (S → Disk) → Type 0
RunsAreDeniable {S} disk = (keys : Keys) (p : Params) (drawn : List ℕ) (parts : List (RunPart S)) (tape : WordId → ℕ) (other : List LifeWork) → 0 < p.dummies → AreTapeWords tape 1 drawn
    → (one : IsOneLife disk keys p tape drawn parts) → AreVersionsUntied p tape one.slot one.acts → SameShape (map work_of one.acts) other → ArePutsInTurn p other
    → CouldBeDone p tape other (fills_of_acts p tape (formatted_life one.slot) one.acts)
