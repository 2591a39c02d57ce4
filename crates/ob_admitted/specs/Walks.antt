-- Rows of runs over a formatted store, with what each showed.
use Rattle.std.specs.Prelude.{◌≡◌, ℕ, Bool, false, List, [], ◌∷◌, ◌++◌, length, Option, Some, None}
use Rattle.std.specs.Ordering.{nat_cmp}
use Rattle.ob_base.specs.Tree.{width}
use Rattle.ob_base.specs.declared.params.Params.{Params}
use Rattle.ob_store.specs.Disk.{Disk, Image}
use Rattle.ob_store.specs.declared.event.Event.{Event}
use Rattle.ob_store.specs.declared.watch.Note.{Note}
use Rattle.ob_tables.specs.Rank.{IsRanking}
use Rattle.ob_schedule.specs.Schedule.{Fills}
use Rattle.ob_seal.specs.declared.keys.Keys.{Keys}
use Rattle.ob_recover.specs.Calls.{Finds}
use Rattle.ob_recover.specs.Known.{gates_open}
use Rattle.ob_recover.specs.Life.{WordId, LifeAct, LifeState, IsLife, formatted_life, life_slots, planned_labels, reached}
use Rattle.ob_serial.specs.Serial.{Map}
use Rattle.ob_serial.specs.Vaults.{VaultCall}
use Rattle.ob_opening.specs.OpeningActs.{StandsInLife}
use Rattle.ob_vault.specs.Acts.{AreBatchesSmall}
use Rattle.ob_vault.specs.Hidden.{RingHidden}
use Rattle.ob_vault.specs.Joined.{AreGiven, AreRunsFrom, RunPart, Served, Stopped}
use Rattle.ob_vault.specs.Lives.{IsRunInLife, RingFormatted, opening_acts}
use Rattle.ob_vault.specs.RingKind.{IsRingMap, RingFound}
use Rattle.ob_vault.specs.Shapes.{Shape}
use Rattle.ob_histories.specs.Fills.{AllFills, AreAllFills}
use Rattle.ob_histories.specs.Histories.{IsHistory}
use Rattle.ob_histories.specs.Laws.{AreAdmitted}
use Rattle.ob_admitted.specs.Cuts.{life_behind_calls}
use Rattle.ob_admitted.specs.Fills.{FillsAll}
use Rattle.ob_admitted.specs.Parts.{IsLeftAsShown, IsServedShown}
use Rattle.ob_admitted.specs.Rows.{lines_of_runs}
use Rattle.ob_admitted.specs.Wholes.{found_of_life}

-- a run that served, in a life: it begins at an image that stands for the life there, and makes these acts; the last ones are those that
-- were made of a call that was refused, and what the next run found of the act in flight
pub record IsServedPart (keys : Keys) (most : ℕ) (p : Params) (word_of : WordId → ℕ) (s : LifeState) (image : Image) (found : RingFound) (opened : Disk) (calls : List VaultCall) (steps : List (Shape × Fills))
    (behind : RingHidden) (refused : Option VaultCall) (words : List ℕ) (seen : List Event) (new : Disk) (acts : List LifeAct) : Type 0 where
  pub stands : StandsInLife keys p word_of s image
  pub small : AreBatchesSmall s.log
  pub run : IsRunInLife keys most p word_of s found opened calls steps behind refused words seen new
  pub map : Map nat_cmp
  pub is_map : IsRingMap keys p opened found map
  pub rest : List LifeAct
  pub finds : Finds ((run.goes).left map is_map).in_flight rest
  pub are : acts ≡ (opening_acts s ++ (run.goes).acts) ++ (((run.goes).left map is_map).made ++ rest)

module _ {S : Type 0} (disk : S → Disk) (keys : Keys) (p : Params) where
  -- each run of the row served, and showed its notes
  abbrev pub AreRunsTold : List (RunPart S) → List (List Note) → Type 0
  AreRunsTold [] [] = Unit {0}
  AreRunsTold (Served most old found opened calls steps behind refused words seen new ∷ parts) (notes ∷ rows) = IsServedShown keys most p (disk old).cells found calls steps behind refused words seen notes × AreRunsTold parts rows
  AreRunsTold _ _ = ⊥

  -- the gates that the first run of the row finds, if there is one
  abbrev pub first_gates : (parts : List (RunPart S)) (rows : List (List Note)) → AreRunsTold parts rows → Option (ℕ → Bool)
  first_gates [] rows told = None
  first_gates (Stopped old new ∷ parts) rows told = None
  first_gates (Served most old found opened calls steps behind refused words seen new ∷ parts) [] told = None
  first_gates (Served most old found opened calls steps behind refused words seen new ∷ parts) (notes ∷ rows) told = Some (gates_open (((told.0).found_in).found).gates)

  module _ (word_of : WordId → ℕ) where
    -- the runs' acts, one behind the other
    abbrev pub AreServedParts : LifeState → List (RunPart S) → List LifeAct → Type 0
    AreServedParts s [] acts = acts ≡ []
    AreServedParts s (Served most old found opened calls steps behind refused words seen new ∷ parts) acts = (first : List LifeAct) × (later : List LifeAct) × (acts ≡ first ++ later)
        × IsServedPart keys most p word_of s (disk old).cells found (disk opened) calls steps behind refused words seen (disk new) first × AreServedParts (reached p word_of s first) parts later
    AreServedParts s (Stopped old new ∷ parts) acts = ⊥

    -- each leaves what it showed
    abbrev pub AreLeftAsShown : (f : AllFills) (s : LifeState) (parts : List (RunPart S)) (rows : List (List Note)) → AreRunsTold parts rows → (acts : List LifeAct) → AreServedParts s parts acts → Type 0
    AreLeftAsShown f s [] rows told acts are = Unit {0}
    AreLeftAsShown f s (Stopped old new ∷ parts) rows told acts are = Unit {0}
    AreLeftAsShown f s (Served most old found opened calls steps behind refused words seen new ∷ parts) [] told acts are = Unit {0}
    AreLeftAsShown f s (Served most old found opened calls steps behind refused words seen new ∷ parts) (notes ∷ rows) told acts are =
        IsLeftAsShown p word_of f s (life_behind_calls p word_of s (((are.3).run).goes).acts) (gates_open (((told.0).found_in).found).gates) steps refused ((((are.3).run).goes).left (are.3).map (are.3).is_map).made are.0
        (length (told.0).more) (first_gates parts rows told.1)
        × AreLeftAsShown f (reached p word_of s are.0) parts rows told.1 are.1 are.4

    -- the row is a life from the format on
    pub record IsRowInLife (parts : List (RunPart S)) : Type 0 where
      pub slot : ℕ → ℕ → ℕ
      pub ranked : (u : ℕ) → IsRanking (width p) (slot u)
      pub acts : List LifeAct
      pub is_life : IsLife p word_of (formatted_life slot) acts
      pub parts_are : AreServedParts (formatted_life slot) parts acts

    -- The first run finds the gates closed that a format leaves so, and each leaves what it showed.
    pub record IsRowAsShown (parts : List (RunPart S)) (rows : List (List Note)) (told : AreRunsTold parts rows) (row : IsRowInLife parts) (f : AllFills) : Type 0 where
      pub first : (gates : ℕ → Bool) → first_gates parts rows told ≡ Some gates
          → ((found_of_life p (formatted_life row.slot) gates).generation_gate ≡ false) × ((found_of_life p (formatted_life row.slot) gates).epoch_gate ≡ false)
      pub left : AreLeftAsShown f (formatted_life row.slot) parts rows told row.acts row.parts_are

-- Runs over a formatted store, each of which begins at an image that a crash left behind the one before, and served calls, are one life. It has
-- fills of all epochs; and if what each leaves is as it showed, then their lines are a history's with these fills, and so admitted.
abbrev pub RowsOfRunsAreAdmitted : {S : Type 0} → (S → Disk) → Type 0
RowsOfRunsAreAdmitted {S} disk = (keys : Keys) (p : Params) (drawn : List ℕ) (made : S) (parts : List (RunPart S)) (rows : List (List Note)) → RingFormatted keys p drawn (disk made) → AreRunsFrom disk keys p (disk made).may_leave parts
    → (told : AreRunsTold disk keys p parts rows) (word_of : WordId → ℕ) → AreGiven word_of parts
    → (row : IsRowInLife disk keys p word_of parts) × (f : AllFills) × AreAllFills p f × FillsAll p word_of f (planned_labels p word_of (reached p word_of (formatted_life row.slot) row.acts)) (life_slots p word_of (formatted_life row.slot) row.acts)
    × (IsRowAsShown disk keys p word_of parts rows told row f → IsHistory p (lines_of_runs p rows) × AreAdmitted (lines_of_runs p rows))
