-- What a set that was refused leaves of its register, by how many of its notes weren't shown.
use Rattle.std.specs.Prelude.{◌≡◌, ℕ, zero, suc, ◌+◌, ◌-◌, Bool, IsTrue, List, length, Result, Ok, Err}
use Rattle.ob_store.specs.declared.watch.Note.{Note}
use Rattle.ob_store.specs.Disk.{Disk, Image}
use Rattle.ob_store.specs.Images.{IsSynced}
use Rattle.ob_store.specs.Lines.{Trace}
use Rattle.ob_store.specs.Told.{TellsFirst}
use Rattle.ob_twin.specs.declared.set_err.SetErr.{SetErr}
use Rattle.ob_twin.specs.declared.set_err.SetErr.TheVariants.{Before, Unsure}
use Rattle.ob_twin.specs.Bodies.{Tagging, body_of}
use Rattle.ob_twin.specs.Register.{body_at, gate_at, place_of, IsOpen}
use Rattle.ob_twin.specs.Orders.{prepare_notes, set_notes}

-- So many notes of a set lack: its gate is as it was; open only if it was, while it is closed; closed; anything, over the number's body, while it
-- is opened; or open.
abbrev pub IsPlaceLeft : Tagging → (first n : ℕ) → (from : Image) → (lacking : ℕ) → Image → Type 0
IsPlaceLeft tag first n from zero image = IsOpen first image (place_of n)
IsPlaceLeft tag first n from (suc zero) image = image (body_at first (place_of n)) ≡ body_of tag (body_at first (place_of n)) n
IsPlaceLeft tag first n from (suc (suc (suc (suc (suc (suc lacking)))))) image = image (gate_at first (place_of n)) ≡ from (gate_at first (place_of n))
IsPlaceLeft tag first n from (suc (suc (suc (suc (suc zero))))) image = IsOpen first image (place_of n) → IsOpen first from (place_of n)
IsPlaceLeft tag first n from lacking image = IsOpen first image (place_of n) → ⊥

-- and the other place's gate is as it was
pub record IsRegisterLeft (tag : Tagging) (first n : ℕ) (from : Image) (lacking : ℕ) (image : Image) : Type 0 where
  pub place : IsPlaceLeft tag first n from lacking image
  pub other : image (gate_at first (place_of (n + 1))) ≡ from (gate_at first (place_of (n + 1)))

-- Before it the store told its cells, no write waited, and where the gate is closed first it was open. So an image is left.
abbrev pub IsSettingLeft : Tagging → (closed_first : Bool) → (first n : ℕ) → (old : Disk) → (lacking : ℕ) → Image → Type 0
IsSettingLeft tag closed_first first n old lacking image =
    old.tells → IsSynced old → (IsTrue closed_first → IsOpen first old.cells (place_of n)) → IsRegisterLeft tag first n old.cells lacking image

-- Of a row of steps the first were made and shown. Each image that a crash then leaves is so, by how many of the whole row's notes lack.
pub record StopsShort (row steps : List Note) (IsLeft : (lacking : ℕ) → Image → Type 0) (old new : Disk) (before after : Trace) : Type 0 where
  pub first : TellsFirst steps old.seen new.seen before after
  pub left : (c : Image) → new.may_leave c → IsLeft (length row - length first.shown) c

-- A set that was refused before its gate's write stops so; where it is unsure, a note lacks.
abbrev pub SetStops : Tagging → (closed_first : Bool) → (first n : ℕ) → (old new : Disk) → (before after : Trace) → Result (Unit {0}) SetErr → Type 0
SetStops tag closed_first first n old new before after (Ok done) = Unit {0}
SetStops tag closed_first first n old new before after (Err (Before fault)) =
    StopsShort (set_notes closed_first first n) (prepare_notes closed_first first n) (IsSettingLeft tag closed_first first n old) old new before after
SetStops tag closed_first first n old new before after (Err (Unsure fault)) = (c : Image) → new.may_leave c → IsSettingLeft tag closed_first first n old 1 c
