-- Lanes of two halves.
use Rattle.std.specs.Prelude.{◌≡◌, ◌⊎◌, ℕ, List, Option, Result, Ok, Err}
use Rattle.ob_base.specs.declared.fault.Failed.{Failed}
use Rattle.ob_store.specs.declared.event.Event.{Event}
use Rattle.ob_store.specs.declared.store.Store.{Ghosts}
use Rattle.ob_store.specs.Disk.{Disk}
use Rattle.ob_mirror.specs.Asked.{IsLaneMade, IsLaneRead, IsAbsorbed}
use Rattle.ob_mirror.specs.declared.lane.MirrorLane.{MirrorLane}

module _ {A B L M : Type 0} {ga : Ghosts A L} {gb : Ghosts B M} (seen_a : L → Option (List Event)) (faults_a : L → ℕ) (seen_b : M → Option (List Event)) (faults_b : M → ℕ) where
  -- One lane of each was made; or the first half refused it, and the second wasn't asked; or the second refused it, and the first
  -- half's was given back.
  abbrev pub AreLanesMade : {S T : Type 0} → (S → Disk) → (T → Disk) → S → S → T → T → Result (MirrorLane A B L M ga gb) Failed → Type 0
  AreLanesMade one two a c b d (Ok lane) =
      IsLaneMade seen_a faults_a (one a) (one c) (Ok lane.first) × IsLaneMade seen_b faults_b (two b) (two d) (Ok lane.second.lane) × (lane.second.failed ≡ 0)
  AreLanesMade {S} one two a c b d (Err e) =
      (IsLaneMade seen_a faults_a (one a) (one c) (Err e) × (d ≡ b))
      ⊎ ((m : S) × (had : L) × IsLaneMade seen_a faults_a (one a) (one m) (Ok had) × IsAbsorbed seen_a faults_a had (one m) (one c) × IsLaneMade seen_b faults_b (two b) (two d) (Err e))

  -- The first half read the cell, and the second wasn't asked; or the first half failed, and the second answered.
  abbrev pub IsReadOfEither : Disk → Disk → ℕ → MirrorLane A B L M ga gb → MirrorLane A B L M ga gb → List ℕ → Result (Unit {0}) Failed → Type 0
  IsReadOfEither a b cell old new out result =
      (IsLaneRead seen_a faults_a a cell old.first new.first out (Ok tt) × (new.second ≡ record old.second { reads = new.second.reads }) × (result ≡ Ok tt))
      ⊎ ((spoilt : List ℕ) × (e : Failed) × IsLaneRead seen_a faults_a a cell old.first new.first spoilt (Err e) × IsLaneRead seen_b faults_b b cell old.second.lane new.second.lane out result)
