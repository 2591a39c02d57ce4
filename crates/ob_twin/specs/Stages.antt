-- A set in stages: what a crash leaves of its register at each moment of one.
use Rattle.std.specs.Prelude.{◌≡◌, ◌≤◌, ℕ, zero, suc, ◌+◌, Bool, IsTrue, if◌then◌else◌, List, [], ◌∷◌, length, Result, Ok, Err, OnOk}
use Rattle.ob_base.specs.declared.fault.Failed.{Failed}
use Rattle.ob_store.specs.declared.watch.Note.{Note}
use Rattle.ob_store.specs.Calls.{Notes}
use Rattle.ob_store.specs.Disk.{Disk, Image}
use Rattle.ob_store.specs.Images.{IsSynced, LeavesOnly}
use Rattle.ob_store.specs.Told.{events_of}
use Rattle.ob_twin.specs.declared.set_err.SetErr.{SetErr}
use Rattle.ob_twin.specs.declared.set_err.SetErr.TheVariants.{Before, Unsure}
use Rattle.ob_twin.specs.Bodies.{Tagging}
use Rattle.ob_twin.specs.Register.{gate_at, place_of, IsOpen, IsUnder, KeepsAt, OldOrNew, StandsAt}
use Rattle.ob_twin.specs.Orders.{prepare_notes, through_notes}
use Rattle.ob_twin.specs.Stops.{IsSettingLeft}

-- stages, one behind the other from the first store to the last, each of which is so
abbrev pub AreSpans : {S : Type 0} → (ℕ → S × S → Type 0) → (stage : ℕ) → (old : S) → (ends : List S) → (new : S) → Type 0
AreSpans IsSo stage old [] new = new ≡ old
AreSpans IsSo stage old (end ∷ ends) new = IsSo stage (old, end) × AreSpans IsSo (suc stage) end ends new

-- A set has three stages, numbered from 0: its gate is closed, where that is needed; the body is laid; and the gate is opened. So many notes lack
-- at a moment of each.
abbrev pub IsLackingIn : (stage lacking : ℕ) → Type 0
IsLackingIn zero lacking = lacking ≡ 5
IsLackingIn (suc zero) lacking = (2 ≤ lacking) × (lacking ≤ 4)
IsLackingIn (suc (suc stage)) lacking = lacking ≡ 1

-- what was made before it begins
abbrev pub made_before : (closed_first : Bool) → (first n stage : ℕ) → List Note
made_before closed_first first n zero = []
made_before closed_first first n (suc zero) = if closed_first then through_notes (gate_at first (place_of n)) else []
made_before closed_first first n (suc (suc stage)) = prepare_notes closed_first first n

-- the old number counts until the gate is opened, and then that or the new one
abbrev pub IsNumberLeft : Tagging → (first : ℕ) → (from : Image) → (old new stage : ℕ) → Image → Type 0
IsNumberLeft tag first from old new zero image = KeepsAt tag first from old image
IsNumberLeft tag first from old new (suc zero) image = KeepsAt tag first from old image
IsNumberLeft tag first from old new (suc (suc stage)) image = OldOrNew tag first from old new image

-- The stage of this number, from the one store to the other, of a set that began at that one. A crash at any moment of it leaves the gates so, by
-- how many notes lack then; and where the register stood at the number before, with a gate that was open if it is closed first, this number.
pub record IsSetStage {S : Type 0} (disk : S → Disk) (tag : Tagging) (closed_first : Bool) (first n : ℕ) (began : S) (stage : ℕ) (x : S × S) : Type 0 where
  pub made : Notes (events_of (made_before closed_first first n stage)) (disk began).seen (disk x.0).seen
  pub gates : (lacking : ℕ) → IsLackingIn stage lacking → (c : Image) → (disk x.1).left_since (disk x.0).moment c → IsSettingLeft tag closed_first first n (disk began) lacking c
  pub leaves : (m : ℕ) → n ≡ m + 1 → (disk began).tells → IsSynced (disk began) → (IsTrue closed_first → IsOpen first (disk began).cells (place_of n)) → StandsAt tag first (disk began).cells m
      → LeavesOnly (disk x.0) (disk x.1) (IsNumberLeft tag first (disk began).cells m n stage)

-- such stages, so many of them
pub record AreSetStages {S : Type 0} (disk : S → Disk) (tag : Tagging) (closed_first : Bool) (first n : ℕ) (IsMany : ℕ → Type 0) (old new : S) : Type 0 where
  pub ends : List S
  pub many : IsMany (length ends)
  pub spans : AreSpans (IsSetStage disk tag closed_first first n old) 0 old ends new

-- the first two up to the body, and no more where that was refused
abbrev pub StagesLaid : Result (Unit {0}) Failed → ℕ → Type 0
StagesLaid (Ok done) stages = stages ≡ 2
StagesLaid (Err failed) stages = stages ≤ 2

-- all three once the gate may be written
abbrev pub StagesSet : Result (Unit {0}) SetErr → ℕ → Type 0
StagesSet (Ok done) stages = stages ≡ 3
StagesSet (Err (Before fault)) stages = stages ≤ 2
StagesSet (Err (Unsure fault)) stages = stages ≡ 3

-- What a set leaves at its moments: it comes in these stages; and once it is done, each image stands at the new number.
pub record SetMoments {S : Type 0} (disk : S → Disk) (tag : Tagging) (closed_first : Bool) (first n : ℕ) (old new : S) (result : Result (Unit {0}) SetErr) : Type 0 where
  pub stages : AreSetStages disk tag closed_first first n (StagesSet result) old new
  pub behind : (disk old).tells → IsUnder tag first (disk old).cells (place_of (n + 1)) n → OnOk result ((c : Image) → (disk new).may_leave c → KeepsAt tag first (disk old).cells n c)
