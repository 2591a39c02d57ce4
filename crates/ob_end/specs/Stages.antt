-- An end in stages: what a crash leaves of the ring, and of the epoch's register, at each moment of one.
use Rattle.std.specs.Prelude.{◌≡◌, ◌≤◌, ◌⊎◌, ℕ, zero, suc, Bool, List, [], length, Option, Result, Ok, Err}
use Rattle.ob_base.specs.declared.params.Params.{Params}
use Rattle.ob_end.specs.Closings.{ClosesEnd, SameGeneration}
use Rattle.ob_end.specs.EndWrites.{SameFirst}
use Rattle.ob_seal.specs.declared.keys.Keys.{Keys}
use Rattle.ob_serial.specs.declared.vault.EndErr.{EndErr}
use Rattle.ob_serial.specs.declared.vault.EndErr.TheVariants as end
use Rattle.ob_stand.specs.Ends.{RingEnd, standing_after}
use Rattle.ob_stand.specs.Stands.{OneOf, RingStanding, Stands}
use Rattle.ob_store.specs.Calls.{Notes}
use Rattle.ob_store.specs.Disk.{Disk, Image}
use Rattle.ob_store.specs.Images.{LeavesOnly, Passes}
use Rattle.ob_store.specs.Told.{events_of}
use Rattle.ob_store.specs.declared.event.Event.{Event}
use Rattle.ob_store.specs.declared.watch.Note.{Note}
use Rattle.ob_twin.specs.Keyed.{tagging}
use Rattle.ob_twin.specs.Stops.{IsRegisterLeft}
use Rattle.ob_twin.specs.Stages.{AreSpans, IsLackingIn, StagesSet, made_before}
use Rattle.ob_twin.specs.declared.set_err.SetErr.{SetErr}

-- what stood stands until the gate is opened, in the set's stage of this number, and then that or what the end makes
abbrev pub StandsInStage : Keys → Params → (s then : RingStanding) → (stage : ℕ) → Image → Type 0
StandsInStage keys p s then zero image = Stands keys p s image
StandsInStage keys p s then (suc zero) image = Stands keys p s image
StandsInStage keys p s then (suc (suc stage)) image = OneOf keys p s then image

module _ {S : Type 0} (disk : S → Disk) (keys : Keys) (p : Params) (s then : RingStanding) (closed_first : Bool) where
  -- The stage of this number, from the one store to the other, of the set of an end that began at that store, and its set at that one: just this was
  -- made of the set before it; and a crash at any moment of it leaves this, the gates by how many notes lack then, and the other register.
  pub record IsEndSetStage (began wrote : S) (stage : ℕ) (x : S × S) : Type 0 where
    pub made : Notes (events_of (made_before closed_first 5 (suc s.epoch) stage)) (disk wrote).seen (disk x.0).seen
    pub gates : (lacking : ℕ) → IsLackingIn stage lacking → (c : Image) → (disk x.1).left_since (disk x.0).moment c → IsRegisterLeft (tagging keys) 5 (suc s.epoch) (disk began).cells lacking c
    pub generation : (c : Image) → (disk x.1).left_since (disk x.0).moment c → SameGeneration c (disk began).cells
    pub stands : LeavesOnly (disk x.0) (disk x.1) (StandsInStage keys p s then stage)

  -- It wrote, which leaves what stood, and neither register is among that. Where its set began behind that, just this was made by then; and the set
  -- comes in so many stages.
  pub record IsEndSpanned (Made : Option (List Event) → Option (List Event) → Type 0) (IsMany : ℕ → Type 0) (old new : S) : Type 0 where
    pub wrote : S
    pub ends : List S
    pub many : IsMany (length ends)
    pub made : (ends ≡ []) ⊎ Made (disk old).seen (disk wrote).seen
    pub kept : Passes SameFirst (disk old) (disk wrote)
    pub writing : LeavesOnly (disk old) (disk wrote) (Stands keys p s)
    pub setting : AreSpans (IsEndSetStage old wrote) 0 wrote ends new

-- these writes, and then the set
abbrev pub CloseSpans : {S : Type 0} → (S → Disk) → (writes : List Note) → Keys → Params → RingStanding → RingEnd → (closed_first : Bool) → (old new : S) → Result (Unit {0}) SetErr → Type 0
CloseSpans disk writes keys p s end closed_first old new result = IsEndSpanned disk keys p s (standing_after s end) closed_first (Notes (events_of writes)) (StagesSet result) old new

-- what is left at its moments: in two stages, and with the register's gates in those of its set
pub record Closes {S : Type 0} (disk : S → Disk) (writes : List Note) (keys : Keys) (p : Params) (s : RingStanding) (end : RingEnd) (closed_first : Bool) (old new : S) (result : Result (Unit {0}) SetErr) : Type 0 where
  pub ends : ClosesEnd disk writes keys p s end old new result
  pub spans : CloseSpans disk writes keys p s end closed_first old new result

-- so many stages has the set of an end: all three once its gate may be written
abbrev pub EndStagesSet : Result (Unit {0}) EndErr → ℕ → Type 0
EndStagesSet (Ok done) stages = stages ≡ 3
EndStagesSet (Err (end.Before refused)) stages = stages ≤ 2
EndStagesSet (Err (end.Unsure refused)) stages = stages ≡ 3
