-- What a call of `run` was handed and left, and how it came to its end.
use Rattle.std.specs.Prelude.{Bool, ℕ, suc, ◌≡◌, ◌⊎◌, ◌+◌, List, Option, Some, None}
use Rattle.ob_base.specs.Causes.{Rose}
use Rattle.ob_base.specs.declared.fault.Fault.{Fault}
use Rattle.ob_base.specs.declared.fault.Fault.TheVariants.{Memory, StoreFault, SinkFault}
use Rattle.ob_base.specs.declared.params.Params.{Params}
use Rattle.ob_conduct.specs.declared.run_err.RunErr.{RunErr}
use Rattle.ob_conduct.specs.declared.run_err.RunErr.TheVariants as failed
use Rattle.ob_shares.specs.declared.shares.Shares.{Shares}
use Rattle.ob_desk.specs.Desk.{DeskState, new_desk, setup_with}
use Rattle.ob_recover.specs.Life.{LifeAct, LifeState, WordId}
use Rattle.ob_script.specs.Script.{Scripts}
use Rattle.ob_seal.specs.declared.keys.Keys.{Keys}
use Rattle.ob_serial.specs.Vaults.{Standing, VaultAnswer, VaultCall}
use Rattle.ob_store.specs.Disk.{Disk, Image}
use Rattle.ob_store.specs.declared.event.Event.{Event}
use Rattle.ob_vault.specs.Hidden.{RingHidden}
use Rattle.ob_vault.specs.Lives.{AreFirstActs, IsShownInLife}
use Rattle.ob_vault.specs.RingKind.{RingCauses, RingFound, ring_kind}
use Rattle.ob_vault.specs.Shapes.{refused}
use Rattle.ob_top.specs.Outside.{Given, Outside}
use Rattle.ob_top.specs.Parts.{IsTraced, Manner}

-- The store, the input and the output as they were handed in and as they were left; whether a trace is asked for and was not handed in, and how
-- often its sink had failed (0 where there is none); how the run goes; what the tape has given behind it; and the status.
pub record RunCall (S : Type 0) : Type 0 where
  pub old : S
  pub new : S
  pub before : Outside
  pub after : Outside
  pub lacks_trace : Bool
  pub traced_before : ℕ
  pub traced_after : ℕ
  pub by : Manner
  pub tape : Given
  pub status : ℕ

-- the desk that is made behind an opening
abbrev pub desk_behind : Params → Shares → RingFound → Scripts → DeskState
desk_behind p shares found script = new_desk (setup_with p shares) (suc (ring_kind.epoch found)) (ring_kind.left p found) script.clients

-- The image stands for this, at the generation that the run began.
abbrev pub StandsNow : Keys → Params → RingFound → Image → Standing → Type 0
StandsNow keys p found image at = ring_kind.stands keys p (ring_kind.generation found) image at

-- the end of this epoch is told to be in doubt
abbrev pub IsToldInDoubt : (epoch : ℕ) → Option RunErr → Type 0
IsToldInDoubt epoch err = err ≡ Some (failed.Fault (StoreFault (Some epoch)))

-- Where a run came to: so many epochs ended; the call that the vault refused, if it did, from what is hidden; the words that the tape had
-- given then; and what was seen of that call.
pub record EndPoint : Type 0 where
  pub epochs : ℕ
  pub call : Option VaultCall
  pub behind : RingHidden
  pub words : List ℕ
  pub seen : List Event

abbrev pub end_point : {most : ℕ} → {p : Params} → {found : RingFound} → {words : List ℕ} → {asked : List (VaultCall × VaultAnswer)} → {fault : Option Fault} → {events : List Event} → (epochs : ℕ) → IsTraced ring_kind most p found words asked fault events → EndPoint
end_point {words = words} {asked = asked} epochs trace = record { epochs = epochs; call = refused asked; behind = trace.behind; words = words; seen = trace.more }

-- Why it ended there: the script did; memory was wanting; the output failed, or the trace's sink; the store did, perhaps at the last write or
-- sync of the next epoch's end; or the vault refused the call for just that cause.
abbrev pub IsRunCause : {S : Type 0} → (S → Disk) → Keys → Params → RunCall S → RingFound → (opened : S) → EndPoint → Option RunErr → Type 0
IsRunCause disk keys p call found opened end None = Unit {0}
IsRunCause disk keys p call found opened end (Some failed.Unwatched) = Rose call.traced_before call.traced_after
IsRunCause disk keys p call found opened end (Some (failed.Fault Memory)) = Unit {0}
IsRunCause disk keys p call found opened end (Some (failed.Fault SinkFault)) = Rose call.before.output.faults call.after.output.faults
IsRunCause disk keys p call found opened end (Some (failed.Fault (StoreFault unsure))) = Rose (disk call.old).faults (disk call.new).faults × ((unsure ≡ None) ⊎ (unsure ≡ Some (suc (ring_kind.epoch found + end.epochs))))
IsRunCause disk keys p call found opened end (Some (failed.Fault fault)) = RingCauses keys p found (disk opened) (disk call.new) end.behind end.epochs end.call end.words fault

-- Of the call that was refused these acts of the life were made, and the next one may be in flight. What was seen of it they show; or none
-- was made, and of a batch no more was seen than the first steps of its record, which have no hole.
pub record IsCutOff (most : ℕ) (p : Params) (word_of : WordId → ℕ) (s : LifeState) (end : EndPoint) (made : List LifeAct) (in_flight : Option LifeAct) : Type 0 where
  pub first : AreFirstActs end.call made in_flight
  pub shown : (call : VaultCall) → end.call ≡ Some call → IsShownInLife most p word_of s end.behind call end.words end.seen made
