-- Private: what the end of an epoch begins with, and what it may leave.
use Rattle.std.specs.Prelude.{◌≡◌, ◌⊎◌, ℕ, suc, List, length, Option, Result, Ok, Err}
use Rattle.ob_base.specs.declared.params.Params.{Params}
use Rattle.ob_store.specs.Disk.{Disk, Image}
use Rattle.ob_store.specs.Images.{IsSynced, LeavesOnly}
use Rattle.ob_store.specs.declared.event.Event.{Event}
use Rattle.ob_store.specs.Lines.{Trace}
use Rattle.ob_store.specs.Told.{Tells, TellsFirst}
use Rattle.ob_seal.specs.declared.keys.Keys.{Keys}
use Rattle.ob_twin.specs.declared.set_err.SetErr.{SetErr}
use Rattle.ob_twin.specs.declared.set_err.SetErr.TheVariants as set
use Rattle.ob_serial.specs.declared.vault.EndErr.{EndErr}
use Rattle.ob_serial.specs.declared.vault.EndErr.TheVariants as end
use Rattle.ob_serial.specs.Vaults.{Standing, VaultAnswer, Ended, RefusedBy}
use Rattle.ob_twin.specs.declared.gates.Open.{Open}
use Rattle.ob_flat.specs.Orders.{end_notes, end_prepare_notes, end_gate_notes}
use Rattle.ob_flat.specs.Standing.{IsMapOf, StandsFlat}

-- the store stands for an epoch, at a generation, no write waits for a sync, and these are the values of the next one
pub record EndsFrom (keys : Keys) (p : Params) (g : ℕ) (old : Disk) (epoch : ℕ) (values : List (Option (List ℕ))) (now next : Standing) : Type 0 where
  pub whole : length values ≡ p.keys
  pub follows : epoch ≡ suc now.epoch
  pub is : next.epoch ≡ epoch
  pub content : IsMapOf values next.content
  pub tells : old.tells
  pub settled : IsSynced old
  pub stands : StandsFlat keys p g old.cells now

-- the image stands for one of the two
abbrev pub StandsAtOne : Keys → Params → ℕ → Standing → Standing → Image → Type 0
StandsAtOne keys p g now next image = StandsFlat keys p g image now ⊎ StandsFlat keys p g image next

-- no write waits for a sync, and the store stands for the next epoch
pub record EndsAt (keys : Keys) (p : Params) (g : ℕ) (new : Disk) (next : Standing) : Type 0 where
  pub tells : new.tells
  pub settled : IsSynced new
  pub stands : StandsFlat keys p g new.cells next

-- A crash at any moment leaves one of the two; the old one after a refusal before the last write.
abbrev pub EndsIn : Keys → Params → ℕ → Disk → Disk → Standing → Standing → VaultAnswer → Type 0
EndsIn keys p g old new now next Ended = LeavesOnly old new (StandsAtOne keys p g now next) × EndsAt keys p g new next
EndsIn keys p g old new now next (RefusedBy fault) = LeavesOnly old new (λ c. StandsFlat keys p g c now)
EndsIn keys p g old new now next _ = LeavesOnly old new (StandsAtOne keys p g now next)

-- a refused set refuses the end as it was refused
abbrev pub end_err_of : SetErr → EndErr
end_err_of (set.Before fault) = end.Before fault
end_err_of (set.Unsure fault) = end.Unsure fault

-- what the writing of an epoch does, by its answer: as a set does, behind the rows
abbrev pub EndTells : ℕ → Open → ℕ → Option (List Event) → Option (List Event) → Trace → Trace → Result (Unit {0}) SetErr → Type 0
EndTells n known epoch old new before after (Ok done) = Tells (end_notes n known epoch) (end_notes n known epoch) old new before after
EndTells n known epoch old new before after (Err (set.Before fault)) = TellsFirst (end_prepare_notes n known epoch) old new before after
EndTells n known epoch old new before after (Err (set.Unsure fault)) =
    Tells (end_gate_notes n known epoch) (end_gate_notes n known epoch) old new before after ⊎ Tells (end_notes n known epoch) (end_gate_notes n known epoch) old new before after

-- where the end is in doubt
abbrev pub IfUnsure : Type 0 → SetErr → Type 0
IfUnsure A (set.Before fault) = Unit {0}
IfUnsure A (set.Unsure fault) = A
