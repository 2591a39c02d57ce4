use Rattle.std.proofs.Common.{ap}
use Rattle.ob_serial.specs.VaultKinds.{kind_of}
use Rattle.ob_desk.specs.Desk.{DeskState}
use Rattle.ob_hall.specs.Passes.{opening_of}
use Rattle.ob_driver.specs.Driven.{side}
use Rattle.ob_run.proofs.Failing.{failure}
use Rattle.ob_run.proofs.ending.failed_runs_end_failed.Goals as goal

pub returns : goal.returns
returns g c beat hall old p counts new fault first r log d legal w =
    failure (kind_of g.V.Vault) beat hall (side r.rung old.vault old.trace old.output) new counts fault r.fails.acts r.fails.fails r.fails.things (opening_of hall) d log first.fresh.own.opens (ap (λ (x : DeskState). x.running.epoch) first.opening) legal w
