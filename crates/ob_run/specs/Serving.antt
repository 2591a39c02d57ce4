-- How the driver's run beside the clients ended, and how the clients came back.
use Rattle.std.specs.Prelude.{◌≡◌, ◌⊎◌, ℕ, List, Result, Ok, Err}
use Rattle.ob_serial.specs.Vaults.{VaultCounts}
use Rattle.ob_serial.specs.VaultKinds.{Kind}
use Rattle.ob_desk.specs.Beats.{BeatKind}
use Rattle.ob_hall.specs.Passes.{Hall, Pass}
use Rattle.ob_conduct.specs.declared.run_err.RunErr.{RunErr}
use Rattle.ob_conduct.specs.Acts.{Act}
use Rattle.ob_driver.specs.Driven.{Side}
use Rattle.ob_driver.specs.Drives.{RunsOut, RunFails, IsNotBegun}
use Rattle.ob_threads.specs.Served.{Words}
use Rattle.ob_run.specs.Crews.{AreBack}

-- where the driver's run was answered so, with acts of which this is so, too
abbrev pub DriverEnds : {V : Type 0} → Kind V → BeatKind → Hall → (List Act → Type 0) → Side V → VaultCounts → Side V → VaultCounts → Result (Unit {0}) RunErr → Type 0
DriverEnds k beat hall Also old c new next (Ok done) = RunsOut k beat hall Also old c new next
DriverEnds k beat hall Also old c new next (Err err) = RunFails k beat hall Also old c new err

-- Where all was: the driver's run ended so, and the clients came back so; or memory was wanting before anything was done, and no client made a call.
abbrev pub ServeEnds : {V U Plan : Type 0} → Kind V → BeatKind → Words U Plan → Hall → ℕ → Side V → VaultCounts → List (Pass × U) → Side V → VaultCounts → List (Pass × U) → Result (Unit {0}) RunErr → Type 0
ServeEnds k beat w hall flags old c before new next after (Ok done) = RunsOut k beat hall (AreBack w hall flags before after old.pass new.pass) old c new next
ServeEnds k beat w hall flags old c before new next after (Err err) = (IsNotBegun old new err × (after ≡ before)) ⊎ RunFails k beat hall (AreBack w hall flags before after old.pass new.pass) old c new err
