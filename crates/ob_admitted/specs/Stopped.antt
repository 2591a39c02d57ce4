-- Rows of runs in which openings stopped: what each showed, and what it left to be found.
use Rattle.std.specs.Prelude.{◌≡◌, ◌⊎◌, ◌<◌, ℕ, ◌+◌, ◌-◌, ◌%◌, List, [], ◌∷◌, ◌++◌, length, take, Option}
use Rattle.std.specs.Ordering.{nat_cmp}
use Rattle.std.proofs.Common.{zero, suc, inl, inr}
use Rattle.ob_base.specs.Layout.{EpochTwin, GenerationTwin, LogArea}
use Rattle.ob_base.specs.declared.params.Params.{Params}
use Rattle.ob_store.specs.Disk.{Disk, Image}
use Rattle.ob_store.specs.Images.{Shrinks}
use Rattle.ob_store.specs.declared.event.Event.{Event}
use Rattle.ob_store.specs.declared.watch.Note.{Note}
use Rattle.ob_schedule.specs.Schedule.{Fills, Public, before_repeats, check_cells, head_notes, open_notes, reads_of, region_cells}
use Rattle.ob_seal.specs.declared.keys.Keys.{Keys}
use Rattle.ob_tables.specs.Content.{content_of}
use Rattle.ob_twin.specs.Keyed.{tagging}
use Rattle.ob_twin.specs.Register.{StandsAt}
use Rattle.ob_start.specs.Beginning.{IsSyncedLeft}
use Rattle.ob_start.specs.Registers.{HaveOpen}
use Rattle.ob_recover.specs.Finds.{IsFoundInRing}
use Rattle.ob_recover.specs.declared.found.Found.{Found}
use Rattle.ob_recover.specs.Known.{fills_of, format_gates, gates_open, public_of_kept}
use Rattle.ob_recover.specs.Life.{LifeState, WordId}
use Rattle.ob_serial.specs.Serial.{Map}
use Rattle.ob_serial.specs.Vaults.{VaultCall}
use Rattle.ob_opening.specs.OpeningActs.{AreGatesIn}
use Rattle.ob_vault.specs.Acts.{AreTapeWords}
use Rattle.ob_vault.specs.Hidden.{RingHidden}
use Rattle.ob_vault.specs.Joined.{AreGiven, AreRunsFrom, IsRunTold, RunPart, Served, Stopped}
use Rattle.ob_vault.specs.KindShown.{public_behind}
use Rattle.ob_vault.specs.Lives.{RingFormatted}
use Rattle.ob_vault.specs.RingKind.{IsRingMap, RingFound, ring_hidden, ring_kind, ring_public}
use Rattle.ob_vault.specs.Shapes.{Shape}
use Rattle.ob_vault.specs.Shown.{IsInLife}
use Rattle.ob_histories.specs.Histories.{IsHistory}
use Rattle.ob_histories.specs.Laws.{AreAdmitted}
use Rattle.ob_admitted.specs.Gates.{LeavesGates, notes_lacking}
use Rattle.ob_admitted.specs.Parts.{IsServedShown}
use Rattle.ob_admitted.specs.Rows.{lines_of_runs}
use Rattle.ob_admitted.specs.Told.{IsRunNoted}

-- ---- an opening that stopped

-- what an opening reads where this epoch is durable: the head, both registers, the checkpoint, and the log of the epoch behind it
abbrev pub reads_of_opening : Params → (epoch : ℕ) → List Note
reads_of_opening p epoch = head_notes ++ (reads_of (region_cells p GenerationTwin ++ region_cells p EpochTwin) ++ reads_of (check_cells p (epoch % 2)) ++ reads_of (region_cells p (LogArea ((epoch + 1) % 2))))

-- It came to its reads at most, and showed the first of them; so each image might have been left before.
pub record StopsReading (keys : Keys) (p : Params) (old new : Disk) (notes : List Note) : Type 0 where
  pub shown : (epoch : ℕ) → StandsAt (tagging keys) 5 old.cells epoch → (count : ℕ) × (notes ≡ take count (reads_of_opening p epoch))
  pub shrinks : Shrinks old new

-- what is public of what was found
abbrev pub public_of_found : Params → Found → Public
public_of_found p found = public_of_kept p (content_of found.tables) [] found.epoch found.gates

-- the head, and of the schedule's opening what comes up to where the next generation has begun; or all of it
abbrev pub begun_row : Params → Found → List Note
begun_row p found = head_notes ++ before_repeats p (public_of_found p found) (gates_open found.gates) (suc found.generation)

abbrev pub opening_row : Params → Found → List Note
opening_row p found = head_notes ++ open_notes p (public_of_found p found) (fills_of p (content_of found.tables) found.records) (gates_open found.gates) (suc found.generation) (length found.records)

-- The generations' register stood at this number, and so many notes lack of the row that sets the next one: that has begun where none does. Where
-- just the sync lacks behind the write that opens its gate, it may have begun.
abbrev pub IsGenerationBy : Keys → (generation lacking : ℕ) → Image → Type 0
IsGenerationBy keys generation zero image = StandsAt (tagging keys) 1 image (suc generation)
IsGenerationBy keys generation (suc zero) image = StandsAt (tagging keys) 1 image generation ⊎ StandsAt (tagging keys) 1 image (suc generation)
IsGenerationBy keys generation (suc (suc lacking)) image = StandsAt (tagging keys) 1 image generation

-- an image that is left then: its other cells are as they were, and so is each gate but by these notes
pub record IsBegunLeft (keys : Keys) (generation : ℕ) (cells : Image) (lacking : ℕ) (image : Image) : Type 0 where
  pub gates : IsSyncedLeft keys (suc generation) cells lacking image
  pub stands : IsGenerationBy keys generation lacking image

-- It found this, and showed so many notes, its first sync among them. Each image is left by how many lack of those before its repeats.
pub record StopsBegun (keys : Keys) (p : Params) (old new : Disk) (notes : List Note) : Type 0 where
  pub found : Found
  pub found_in : IsFoundInRing keys p old.cells found
  pub found_open : HaveOpen found.gates
  pub count : ℕ
  pub settled : length (reads_of_opening p found.epoch) < count
  pub notes_are : notes ≡ take count (opening_row p found)
  pub left : (image : Image) → new.may_leave image → IsBegunLeft keys found.generation old.cells (length (begun_row p found) - count) image

abbrev pub IsStopShown : Keys → Params → (old new : Disk) → (notes : List Note) → Type 0
IsStopShown keys p old new notes = StopsReading keys p old new notes ⊎ StopsBegun keys p old new notes

-- ---- rows

module _ {S : Type 0} (disk : S → Disk) (keys : Keys) (p : Params) where
  -- A run that served: it showed these notes, and left of the call that was refused, and of the gates, what they tell.
  pub record IsServedAsShown (most : ℕ) (old : S) (found : RingFound) (opened : S) (calls : List VaultCall) (steps : List (Shape × Fills)) (behind : RingHidden) (refused : Option VaultCall) (words : List ℕ) (seen : List Event) (new : S)
      (told : IsRunTold disk keys p (Served most old found opened calls steps behind refused words seen new)) (notes : List Note) : Type 0 where
    pub shown : IsServedShown keys most p (disk old).cells found calls steps behind refused words seen notes
    pub noted : (word_of : WordId → ℕ) (s : LifeState) (here : IsInLife p word_of (ring_hidden found) s) (tape : AreTapeWords word_of (ring_hidden found).generation words) (m : Map nat_cmp) (is : IsRingMap keys p (disk opened) found m)
        → IsRunNoted most p (public_behind ring_kind p (ring_public p found) steps) behind refused words seen shown.more shown.refused_shown ((told.1 word_of s here tape).left m is).made ((told.1 word_of s here tape).left m is).in_flight
    pub gated : LeavesGates keys p (public_behind ring_kind p (ring_public p found) steps) behind refused
        (notes_lacking most p (public_behind ring_kind p (ring_public p found) steps) behind refused words seen shown.more shown.refused_shown) (disk new).may_leave

  -- of each run its notes: it served, or it is an opening that stopped
  abbrev pub AreAllShown : (may_leave : Image → Type 0) (parts : List (RunPart S)) (rows : List (List Note)) → AreRunsFrom disk keys p may_leave parts → Type 0
  AreAllShown may_leave [] [] from = Unit {0}
  AreAllShown may_leave [] (notes ∷ rows) from = ⊥
  AreAllShown may_leave (Served most old found opened calls steps behind refused words seen new ∷ parts) [] from = ⊥
  AreAllShown may_leave (Stopped old new ∷ parts) [] from = ⊥
  AreAllShown may_leave (Served most old found opened calls steps behind refused words seen new ∷ parts) (notes ∷ rows) from =
      IsServedAsShown most old found opened calls steps behind refused words seen new from.1 notes × AreAllShown (disk new).may_leave parts rows from.2
  AreAllShown may_leave (Stopped old new ∷ parts) (notes ∷ rows) from = IsStopShown keys p (disk old) (disk new) notes × AreAllShown (disk new).may_leave parts rows from.2

  -- The next run that shows its first sync, if there is one, begins at an image that is so.
  abbrev pub IsNextBegun : (Image → Type 0) → (may_leave : Image → Type 0) (parts : List (RunPart S)) (rows : List (List Note)) (from : AreRunsFrom disk keys p may_leave parts) → AreAllShown may_leave parts rows from → Type 0
  IsNextBegun IsSo may_leave [] rows from shown = Unit {0}
  IsNextBegun IsSo may_leave (Served most old found opened calls steps behind refused words seen new ∷ parts) [] from shown = Unit {0}
  IsNextBegun IsSo may_leave (Stopped old new ∷ parts) [] from shown = Unit {0}
  IsNextBegun IsSo may_leave (Served most old found opened calls steps behind refused words seen new ∷ parts) (notes ∷ rows) from shown = IsSo (disk old).cells
  IsNextBegun IsSo may_leave (Stopped old new ∷ parts) (notes ∷ rows) from (inl reads, more) = IsNextBegun IsSo (disk new).may_leave parts rows from.2 more
  IsNextBegun IsSo may_leave (Stopped old new ∷ parts) (notes ∷ rows) from (inr begun, more) = IsSo (disk old).cells

  -- The one case that an audit leaves out is none of theirs: the last note of an opening that stopped is the write that opens its generation's gate,
  -- without the sync, and the next run that shows its first sync found that generation. In all others that one found the generation before.
  abbrev pub IsGateSure : (may_leave : Image → Type 0) (parts : List (RunPart S)) (rows : List (List Note)) (from : AreRunsFrom disk keys p may_leave parts) → AreAllShown may_leave parts rows from → Type 0
  IsGateSure may_leave [] rows from shown = Unit {0}
  IsGateSure may_leave (Served most old found opened calls steps behind refused words seen new ∷ parts) [] from shown = Unit {0}
  IsGateSure may_leave (Stopped old new ∷ parts) [] from shown = Unit {0}
  IsGateSure may_leave (Served most old found opened calls steps behind refused words seen new ∷ parts) (notes ∷ rows) from shown = IsGateSure (disk new).may_leave parts rows from.2 shown.1
  IsGateSure may_leave (Stopped old new ∷ parts) (notes ∷ rows) from (inl reads, more) = IsGateSure (disk new).may_leave parts rows from.2 more
  IsGateSure may_leave (Stopped old new ∷ parts) (notes ∷ rows) from (inr begun, more) =
      (length (begun_row p begun.found) ≡ suc begun.count → IsNextBegun (λ image. StandsAt (tagging keys) 1 image (begun.found).generation) (disk new).may_leave parts rows from.2 more)
      × IsGateSure (disk new).may_leave parts rows from.2 more

-- So runs over a formatted store, whose gates are a format's in each image, and openings among them that stopped, anywhere, are admitted, but for
-- that one case: their lines are a history's.
abbrev pub StoppedRunsAreAdmitted : {S : Type 0} → (S → Disk) → Type 0
StoppedRunsAreAdmitted {S} disk = (keys : Keys) (p : Params) (drawn : List ℕ) (made : S) (parts : List (RunPart S)) (rows : List (List Note)) → RingFormatted keys p drawn (disk made) → ((c : Image) → (disk made).may_leave c → AreGatesIn format_gates c)
    → (from : AreRunsFrom disk keys p (disk made).may_leave parts) (shown : AreAllShown disk keys p (disk made).may_leave parts rows from) → IsGateSure disk keys p (disk made).may_leave parts rows from shown
    → (word_of : WordId → ℕ) → AreGiven word_of parts → IsHistory p (lines_of_runs p rows) × AreAdmitted (lines_of_runs p rows)
