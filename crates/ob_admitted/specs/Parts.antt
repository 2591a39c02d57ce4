-- A run of a row that one life makes, with what it showed, is a run of a public history.
use Rattle.std.specs.Prelude.{◌≡◌, ℕ, Bool, true, List, [], ◌++◌, length, Option, Some, None}
use Rattle.std.specs.Ordering.{nat_cmp}
use Rattle.ob_base.specs.Tree.{width}
use Rattle.ob_base.specs.declared.fault.Fault.{Fault}
use Rattle.ob_base.specs.declared.params.Params.{Params}
use Rattle.ob_store.specs.Disk.{Disk, Image}
use Rattle.ob_store.specs.declared.event.Event.{Event}
use Rattle.ob_store.specs.declared.watch.Note.{Note}
use Rattle.ob_tables.specs.Rank.{IsRanking}
use Rattle.ob_schedule.specs.Schedule.{Fills, head_notes}
use Rattle.ob_seal.specs.declared.keys.Keys.{Keys}
use Rattle.ob_recover.specs.Calls.{Finds}
use Rattle.ob_recover.specs.Known.{gates_open}
use Rattle.ob_recover.specs.Life.{WordId, LifeAct, LifeState, formatted_life, life_slots, planned_labels, reached}
use Rattle.ob_serial.specs.Serial.{Map}
use Rattle.ob_serial.specs.Vaults.{Fetch, VaultCall}
use Rattle.ob_opening.specs.OpeningActs.{StandsInLife}
use Rattle.ob_vault.specs.Acts.{AreBatchesSmall}
use Rattle.ob_vault.specs.Hidden.{RingCut, RingCutShown, RingHidden}
use Rattle.ob_vault.specs.KindShown.{public_behind, steps_notes}
use Rattle.ob_vault.specs.Lives.{IsRunInLife, RingBegins, opening_acts}
use Rattle.ob_vault.specs.RingKind.{IsRingFound, IsRingMap, RingFound, ring_kind, ring_public}
use Rattle.ob_vault.specs.Seen.{RingPublic, opening_shows}
use Rattle.ob_vault.specs.Shapes.{Shape}
use Rattle.ob_histories.specs.Fills.{AllFills}
use Rattle.ob_admitted.specs.Between.{IsFoundAsShown, turn_of_run}
use Rattle.ob_admitted.specs.Calls.{AreStepsOf}
use Rattle.ob_admitted.specs.Cuts.{life_behind_calls}
use Rattle.ob_admitted.specs.Fills.{FillsAll}
use Rattle.ob_admitted.specs.Lives.{IsLifeFilled}
use Rattle.ob_admitted.specs.Served.{IsRecordAlone, IsServedThen}
use Rattle.ob_admitted.specs.Wholes.{found_of_life}

-- what a call showed that was refused with some fault, its holes filled as it draws them; where none was refused nothing is shown
abbrev pub IsRefusedShown : (most : ℕ) → Params → RingPublic → RingHidden → Option VaultCall → (words : List ℕ) → (seen : List Event) → List Note → Type 0
IsRefusedShown most p q h None words seen more = more ≡ []
IsRefusedShown most p q h (Some call) words seen more = (c : Fills) × (refused : Fault) × RingCut most p q h call c words refused seen × RingCutShown most p q call c refused seen more

-- Over an image of which it found this, a run showed the opening of that, with the gates that it found; then what its calls show, one behind
-- the other; and what the one showed that was refused.
pub record IsServedShown (keys : Keys) (most : ℕ) (p : Params) (image : Image) (found : RingFound) (calls : List VaultCall) (steps : List (Shape × Fills)) (behind : RingHidden) (refused : Option VaultCall)
    (words : List ℕ) (seen : List Event) (notes : List Note) : Type 0 where
  pub found_in : IsRingFound keys p image found
  pub steps_are : AreStepsOf calls steps
  pub more : List Note
  pub refused_shown : IsRefusedShown most p (public_behind ring_kind p (ring_public p found) steps) behind refused words seen more
  pub notes_are : notes
      ≡ (head_notes ++ opening_shows p found.content found.records (found.run).epoch ((found.run).sealer).generation (found_in.found).gates ++ steps_notes ring_kind p (ring_public p found) steps) ++ more

-- A batch that was refused asked for so many places, and if no act of it was made it showed no more than its record. What the next run finds, if there is one, is as
-- the refused call's notes tell: so many of them were shown; and the gate of this run's generation stays open.
pub record IsLeftAsShown (p : Params) (word_of : WordId → ℕ) (f : AllFills) (s behind : LifeState) (found : ℕ → Bool) (steps : List (Shape × Fills)) (refused : Option VaultCall) (made acts : List LifeAct)
    (count : ℕ) (next : Option (ℕ → Bool)) : Type 0 where
  pub whole : (asks : List (Option ℕ)) → refused ≡ Some (Fetch asks) → length asks ≡ p.places
  pub alone : (asks : List (Option ℕ)) → refused ≡ Some (Fetch asks) → made ≡ [] → IsRecordAlone p behind (Fetch asks) count
  pub stays : (gates : ℕ → Bool) → next ≡ Some gates → (found_of_life p (reached p word_of s acts) gates).generation_gate ≡ true
  pub as_shown : (gates : ℕ → Bool) → next ≡ Some gates → IsFoundAsShown p f (turn_of_run p s found steps) refused count (found_of_life p (reached p word_of s acts) gates)

-- Behind these acts of a life from a format on, all of whose labels and slots are these fills: a run that goes on with the life, and showed
-- this, is a run as a history's, if what it leaves is as shown.
abbrev pub PartsAreRuns : {S : Type 0} → (S → Disk) → Type 0
PartsAreRuns {S} disk = (keys : Keys) (p : Params) (word_of : WordId → ℕ) (slot : ℕ → ℕ → ℕ) (f : AllFills) (before : List LifeAct) → ((u : ℕ) → IsRanking (width p) (slot u)) → IsLifeFilled p word_of slot f before
    → (most : ℕ) (old : S) (found : RingFound) (opened : S) (calls : List VaultCall) (steps : List (Shape × Fills)) (behind : RingHidden) (refused : Option VaultCall) (words : List ℕ) (seen : List Event) (new : S)
    → StandsInLife keys p word_of (reached p word_of (formatted_life slot) before) (disk old).cells → AreBatchesSmall (reached p word_of (formatted_life slot) before).log → RingBegins keys p (disk old).cells found
    → (run : IsRunInLife keys most p word_of (reached p word_of (formatted_life slot) before) found (disk opened) calls steps behind refused words seen (disk new)) (m : Map nat_cmp) (is : IsRingMap keys p (disk opened) found m)
    → (rest acts : List LifeAct) → Finds ((run.goes).left m is).in_flight rest → acts ≡ (opening_acts (reached p word_of (formatted_life slot) before) ++ (run.goes).acts) ++ (((run.goes).left m is).made ++ rest)
    → FillsAll p word_of f (planned_labels p word_of (reached p word_of (reached p word_of (formatted_life slot) before) acts)) (life_slots p word_of (reached p word_of (formatted_life slot) before) acts)
    → (notes : List Note) (shown : IsServedShown keys most p (disk old).cells found calls steps behind refused words seen notes) (next : Option (ℕ → Bool))
    → IsLeftAsShown p word_of f (reached p word_of (formatted_life slot) before) (life_behind_calls p word_of (reached p word_of (formatted_life slot) before) (run.goes).acts) (gates_open ((shown.found_in).found).gates) steps refused
    ((run.goes).left m is).made acts (length shown.more) next
    → IsServedThen p word_of f (reached p word_of (formatted_life slot) before) (gates_open ((shown.found_in).found).gates) next notes acts
