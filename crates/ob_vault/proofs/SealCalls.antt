-- Calls of a ring store as acts.
use Rattle.std.proofs.Common.{List, inl, inr, refl}
use Rattle.ob_pads.specs.Lives.{Answers, IsAtGeneration}
use Rattle.ob_pads.proofs.Sealing.{kept_clear}
use Rattle.ob_pads.specs.Seals.{ClearBy, SealerGoesOn, SealsBy}
use Rattle.ob_vault.specs.RingVaults.{KeepsRun, RingCalled, Running}
use Rattle.ob_seal.specs.Sealing.{Sealing}
use Rattle.ob_serial.specs.Vaults.{VaultAnswer, VaultCall, DoubtBy, End, Ended, Fetch, RefusedBy, Values}
use Rattle.ob_store.specs.Calls.{GoesOn}
use Rattle.ob_store.specs.Disk.{Disk, Image}
use Rattle.ob_store.specs.Images.{Passes}
use Rattle.ob_store.specs.declared.watch.Note.{Note}
use Rattle.ob_store.proofs.Moments.{leaves_of}
use Rattle.ob_twin.specs.Keyed.{tagging}
use Rattle.ob_twin.proofs.Frames.{register_moved}
use Rattle.ob_end.specs.Closings.{SameGeneration}

module _ (old new : Disk) (only : (c : Image) → old.left_since old.moment c → old.may_leave c) (was now : Sealing) (goes : GoesOn old new) (tells : new.tells) (further : SealerGoesOn was now) (moments : Passes SameGeneration old new) where
  abbrev stood : Image → Type 0
  stood = IsAtGeneration was.keys was.generation

  kept : (c d : Image) → SameGeneration c d → stood d → stood c
  kept c d same stands = register_moved (tagging was.keys) 1 was.generation c d (λ k from to. same k to) stands

  acts_by : (answer : VaultAnswer) → SealsBy answer was now old.cells new.cells → ClearBy answer was.keys new.seen old.cells new.cells → Answers old new was now answer
  acts_by answer seals clear = record {
    goes = goes;
    tells = tells;
    further = further;
    seals = seals;
    clear = clear;
    images = λ all. leaves_of SameGeneration stood stood old new moments only (λ c left. all c (inl left)) (λ told. all old.cells (inr (told, refl))) (λ c d stands step. kept c d step stands) (λ c stands. stands);
  }

module _ {S : Type 0} (disk : S → Disk) (old new : Running S) (notes : List Note) where
  pub kept_by : (call : VaultCall) (answer : VaultAnswer) → RingCalled disk old new notes call answer → KeepsRun disk old new notes
  kept_by (Fetch asks) (Values out) is = is.run
  kept_by (Fetch asks) (RefusedBy f) is = is.run
  kept_by (Fetch asks) Ended is = absurd is
  kept_by (Fetch asks) (DoubtBy f) is = absurd is
  kept_by (End writes) Ended is = is.run
  kept_by (End writes) (RefusedBy f) is = is.run
  kept_by (End writes) (DoubtBy f) is = is.run
  kept_by (End writes) (Values out) is = absurd is

  sealed_by : (call : VaultCall) (answer : VaultAnswer) → (disk old.store).tells → RingCalled disk old new notes call answer → SealsBy answer (old.run).sealer (new.run).sealer (disk old.store).cells (disk new.store).cells
  sealed_by (Fetch asks) (Values out) tells is = is.sealed tells
  sealed_by (Fetch asks) (RefusedBy f) tells is = tt
  sealed_by (Fetch asks) Ended tells is = absurd is
  sealed_by (Fetch asks) (DoubtBy f) tells is = absurd is
  sealed_by (End writes) Ended tells is = is.sealed tells
  sealed_by (End writes) (RefusedBy f) tells is = tt
  sealed_by (End writes) (DoubtBy f) tells is = is.sealed tells
  sealed_by (End writes) (Values out) tells is = absurd is

  clear_by : (call : VaultCall) (answer : VaultAnswer) → (disk new.store).tells → RingCalled disk old new notes call answer → ClearBy answer ((old.run).sealer).keys (disk new.store).seen (disk old.store).cells (disk new.store).cells
  clear_by (Fetch asks) (Values out) tells is = kept_clear (Values out) ((old.run).sealer).keys (disk new.store).seen (disk old.store).cells (disk new.store).cells (is.first tells)
  clear_by (Fetch asks) (RefusedBy f) tells is = kept_clear (RefusedBy f) ((old.run).sealer).keys (disk new.store).seen (disk old.store).cells (disk new.store).cells (is.first tells)
  clear_by (Fetch asks) Ended tells is = absurd is
  clear_by (Fetch asks) (DoubtBy f) tells is = absurd is
  clear_by (End writes) Ended tells is = is.clear tells
  clear_by (End writes) (RefusedBy f) tells is = is.clear tells
  clear_by (End writes) (DoubtBy f) tells is = is.clear tells
  clear_by (End writes) (Values out) tells is = absurd is

  pub is_act : ((c : Image) → (disk old.store).left_since (disk old.store).moment c → (disk old.store).may_leave c) → (call : VaultCall) (answer : VaultAnswer) → RingCalled disk old new notes call answer → (disk new.store).tells
      → Answers (disk old.store) (disk new.store) (old.run).sealer (new.run).sealer answer
  is_act only call answer is tells =
      let k = kept_by call answer is in
      acts_by (disk old.store) (disk new.store) only (old.run).sealer (new.run).sealer k.goes tells (record { keys = k.keys; generation = k.generation; on = k.on }) k.moments answer
      (sealed_by call answer (k.goes.told tells) is) (clear_by call answer tells is)
