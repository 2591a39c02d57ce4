-- The calls of a vault over a ring store leave its tape in the generation that they seal with.
use Rattle.std.specs.Prelude.{◌≡◌, List, [], ◌∷◌}
use Rattle.std.proofs.Common.{ap, ◌∙◌}
use Rattle.ob_serial.specs.VaultKinds.{AllCalled, Kind}
use Rattle.ob_serial.specs.Vaults.{VaultAnswer, VaultCall}
use Rattle.ob_store.specs.Disk.{Disk}
use Rattle.ob_vault.proofs.SealCalls.{kept_by}
use Rattle.ob_vault.specs.RingLaws.{RingTapesStay}
use Rattle.ob_vault.specs.RingSteps.{HasRingWords}
use Rattle.ob_vault.specs.RingVaults.{Running}

module _ {V S : Type 0} (k : Kind V) (disk : S → Disk) (runs : V → Running S) (words : HasRingWords k disk runs) where
  stays : (first last : V) (steps : List (VaultCall × VaultAnswer)) → AllCalled k first steps last → (runs last).present ≡ (runs first).present
  stays first last [] same = ap (λ (v : V). (runs v).present) same
  stays first last (step ∷ steps) called =
      let one = called.1 in
      stays called.0 last steps called.2
      ∙ (kept_by disk (runs first) (runs called.0) one.notes step.0 step.1 (words.called first step.0 step.1 one.notes called.0 one.called)).present

pub tapes_stay : {V S : Type 0} (k : Kind V) (disk : S → Disk) → RingTapesStay k disk
tapes_stay k disk runs words first last steps called = stays k disk runs words first last steps called
