-- Laws of halls' histories, as facts.
use Rattle.std.proofs.Common.{refl, ap}
use Rattle.ob_serial.specs.VaultKinds.{Kind}
use Rattle.ob_desk.specs.Desk.{DeskState}
use Rattle.ob_hall.specs.Turns.{client_numbers}
use Rattle.ob_hall.specs.Laws.{AreOwnCalls}
use Rattle.ob_hall.proofs.Histories.{said_own, client_alone}
use Rattle.ob_hall.proofs.Agreeing.{numbers_rise}
use Rattle.ob_driver.specs.Driven.{side}
use Rattle.ob_run.specs.Ends.{FailedRunsFail}
use Rattle.ob_run.proofs.Failing.{failure}

pub own_calls : AreOwnCalls
own_calls opened d history at number new led named = (
  said_own (client_numbers opened) number at opened history d (numbers_rise opened new) named refl led,
  client_alone (client_numbers opened) number at opened history d named refl led,
)

pub failed_runs : {V : Type 0} (k : Kind V) → FailedRunsFail k
failed_runs k beat hall old p counts new err first r log d legal w =
    failure k beat hall (side r.rung old.vault old.trace old.output) new counts err r.fails.acts r.fails.fails r.fails.things _ d log first.fresh.own.opens (ap (λ (x : DeskState). x.running.epoch) first.opening) legal w
