-- Any row of runs over a store that was formatted, with crashes between them, is one life.
use Rattle.std.specs.Prelude.{◌≡◌, ℕ, ◌<◌, List, [], ◌∷◌, ◌++◌, Option}
use Rattle.std.specs.Ordering.{nat_cmp}
use Rattle.ob_base.specs.declared.params.Params.{Params}
use Rattle.ob_base.specs.Tree.{width}
use Rattle.ob_tables.specs.Rank.{IsRanking}
use Rattle.ob_fresh.specs.Drawn.{AreWordsInTurn, formatted_words, life_words}
use Rattle.ob_fresh.specs.Fresh.{WordsAreApart}
use Rattle.ob_vault.specs.Shapes.{Shape}
use Rattle.ob_recover.specs.Calls.{Finds}
use Rattle.ob_recover.specs.Life.{HolesAreFresh, IsLife, LifeAct, LifeState, WordId, formatted_life, life_labels, life_slots, reached}
use Rattle.ob_vault.specs.Acts.{AreTapeWords}
use Rattle.ob_vault.specs.Hidden.{RingHidden}
use Rattle.ob_vault.specs.RingKind.{IsRingMap, RingFound, ring_hidden}
use Rattle.ob_schedule.specs.Schedule.{Fills}
use Rattle.ob_seal.specs.declared.keys.Keys.{Keys}
use Rattle.ob_serial.specs.Serial.{Map}
use Rattle.ob_serial.specs.Vaults.{VaultCall}
use Rattle.ob_stand.specs.Fresh.{fresh_content}
use Rattle.ob_store.specs.Disk.{Disk, Image}
use Rattle.ob_store.specs.declared.event.Event.{Event}
use Rattle.ob_opening.specs.Formats.{drawn_ranks}
use Rattle.ob_opening.specs.OpeningActs.{AreSlotsIn}
use Rattle.ob_vault.specs.Lives.{IsRunInLife, RingBegins, RingFormatted, RingGoesOn, RingStops, opening_acts}

-- A run by so many lanes at most: over this store it found that; the store was opened, calls drew this and hid that, one more may have been
-- refused, and the tape gave these words, and this was seen of the refused one; it left this store. Or its opening was refused.
pub data RunPart (S : Type 0) : Type 0 where
  Served : (most : ℕ) (old : S) (found : RingFound) (opened : S) (calls : List VaultCall) (steps : List (Shape × Fills)) (behind : RingHidden) (refused : Option VaultCall) (words : List ℕ) (seen : List Event) (new : S) → RunPart S
  Stopped : (old new : S) → RunPart S

-- the store as the run found it, and as it left it
abbrev pub begun_at : {S : Type 0} → RunPart S → S
begun_at (Served most old found opened calls steps behind refused words seen new) = old
begun_at (Stopped old new) = old

abbrev pub left_at : {S : Type 0} → RunPart S → S
left_at (Served most old found opened calls steps behind refused words seen new) = new
left_at (Stopped old new) = new

-- the tape of each run gave the words of the generation that it began
abbrev pub AreGiven : {S : Type 0} → (WordId → ℕ) → List (RunPart S) → Type 0
AreGiven word_of [] = Unit {0}
AreGiven word_of (Served most old found opened calls steps behind refused words seen new ∷ parts) = AreTapeWords word_of (ring_hidden found).generation words × AreGiven word_of parts
AreGiven word_of (Stopped old new ∷ parts) = AreGiven word_of parts

module _ {S : Type 0} (disk : S → Disk) (keys : Keys) (p : Params) where
  -- what `run` says of each: where it found a map; or where its opening was refused
  abbrev pub IsRunTold : RunPart S → Type 0
  IsRunTold (Served most old found opened calls steps behind refused words seen new) =
      RingBegins keys p (disk old).cells found × RingGoesOn keys most p found (disk opened) calls steps behind refused words seen (disk new) × ((m : Map nat_cmp) × IsRingMap keys p (disk opened) found m)
  IsRunTold (Stopped old new) = RingStops keys p (disk old) (disk new)

  -- It began at an image that might have been left. Where its opening was refused, writes may have waited there, so that a crash might then
  -- have left another one: each of these might have been left too.
  abbrev pub IsBegunWithin : (Image → Type 0) → RunPart S → Type 0
  IsBegunWithin may_leave (Served most old found opened calls steps behind refused words seen new) = may_leave (disk old).cells
  IsBegunWithin may_leave (Stopped old new) = may_leave (disk old).cells × ((c : Image) → (disk old).may_leave c → may_leave c)

  -- Each is told so, and begins at an image that a crash might have left: the first at one of these, each later one at one of the run
  -- before.
  abbrev pub AreRunsFrom : (Image → Type 0) → List (RunPart S) → Type 0
  AreRunsFrom may_leave [] = Unit {0}
  AreRunsFrom may_leave (part ∷ parts) = IsBegunWithin may_leave part × IsRunTold part × AreRunsFrom (disk (left_at part)).may_leave parts

  module _ (word_of : WordId → ℕ) where
    -- The acts of a run: the opening's, those of its calls, which show what fills its holes, those that were made of a call that was refused,
    -- which show what that showed, and what the next run found of the act in flight. Or the first acts of an opening.
    abbrev pub IsPart : LifeState → RunPart S → List LifeAct → Type 0
    IsPart s (Served most old found opened calls steps behind refused words seen new) acts = (run : IsRunInLife keys most p word_of s found (disk opened) calls steps behind refused words seen (disk new))
        × (m : Map nat_cmp) × (is : IsRingMap keys p (disk opened) found m) × (rest : List LifeAct) × Finds (run.goes.left m is).in_flight rest
        × (acts ≡ (opening_acts s ++ run.goes.acts) ++ ((run.goes.left m is).made ++ rest))
    IsPart s (Stopped old new) acts = (rest : List LifeAct) × (opening_acts s ≡ acts ++ rest)

    -- the runs' acts, one behind the other
    abbrev pub AreParts : LifeState → List (RunPart S) → List LifeAct → Type 0
    AreParts s [] acts = acts ≡ []
    AreParts s (part ∷ parts) acts = (first : List LifeAct) × (later : List LifeAct) × (acts ≡ first ++ later) × IsPart s part first × AreParts (reached p word_of s first) parts later

    -- From the format on, which drew these words, they are one life, in which no two labels show one word, no two reads one slot of a bucket's
    -- filling, and a hole that is shown again is filled as before.
    pub record IsOneLife (drawn : List ℕ) (parts : List (RunPart S)) : Type 0 where
      pub slot : ℕ → ℕ → ℕ
      pub of_words : AreSlotsIn p (fresh_content p (drawn_ranks p drawn)) slot
      pub ranked : (u : ℕ) → IsRanking (width p) (slot u)
      pub acts : List LifeAct
      pub is_life : IsLife p word_of (formatted_life slot) acts
      pub parts_are : AreParts (formatted_life slot) parts acts
      pub fresh : 0 < p.dummies → HolesAreFresh (life_labels p word_of (formatted_life slot) acts) (life_slots p word_of (formatted_life slot) acts)
      -- where the format's words were the tape's, the words of all of it are drawn in turn, so that none is shown in two holes, of labels and slots
      -- together
      pub turn : AreTapeWords word_of 1 drawn → AreWordsInTurn p word_of slot acts
      pub apart : 0 < p.dummies → AreTapeWords word_of 1 drawn → WordsAreApart p word_of (life_words p word_of (formatted_life slot) (formatted_words p) acts)

-- ---- the law

abbrev pub RunsAreOneLife : {S : Type 0} → (S → Disk) → Type 0
RunsAreOneLife {S} disk = (keys : Keys) (p : Params) (drawn : List ℕ) (made : S) (parts : List (RunPart S)) → RingFormatted keys p drawn (disk made) → AreRunsFrom disk keys p (disk made).may_leave parts
    → (word_of : WordId → ℕ) → AreGiven word_of parts → IsOneLife disk keys p word_of drawn parts

-- The law isn't empty: for each row there are words such that each run's tape gave those of its generation, and the format's those of the
-- first.
abbrev pub TapesExist : {S : Type 0} → (S → Disk) → Type 0
TapesExist {S} disk = (keys : Keys) (p : Params) (drawn : List ℕ) (made : S) (parts : List (RunPart S)) → RingFormatted keys p drawn (disk made) → AreRunsFrom disk keys p (disk made).may_leave parts
    → (word_of : WordId → ℕ) × AreTapeWords word_of 1 drawn × AreGiven word_of parts
