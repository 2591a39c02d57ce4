use Rattle.std.proofs.Common.{refl, sym, subst}
use Rattle.ob_session.specs.Steps.{Leads}
use Rattle.ob_hall.specs.Passes.{Steps}
use Rattle.ob_runner.specs.RunnerViews.{client_of, runner_state}
use Rattle.ob_serve_tests.proofs.Overlapping.{leads_again, fits_asked, stands_asked}
use Rattle.ob_serve_tests.proofs.scripted.ScriptedRunner.step.Goals as goal

pub returns-in-Some-clause-made : goal.returns-in-Some-clause-made
returns-in-Some-clause-made c =
    let self = c.args.self.now in
    let (before, fits, agrees) = c.requires.agrees in
    leads_again (runner_state self.runner) self.first (client_of self.runner) c.in-Some.txn c.in-Some.ensures c.args.desk.now before fits.1 agrees _ _ c.settled-outcome.ensures.0 c.one.ensures

pub returns-in-Some-clause-fits : goal.returns-in-Some-clause-fits
returns-in-Some-clause-fits c =
    let self = c.args.self.now in
    let (before, fits, agrees) = c.requires.agrees in
    λ said may. fits_asked (runner_state self.runner) self.first (client_of self.runner) c.in-Some.txn c.in-Some.ensures c.args.desk.now before fits.1 agrees _ _ c.settled-outcome.ensures.0 c.one.ensures said may.0 may.1

pub returns-in-Some-clause-step : goal.returns-in-Some-clause-step
returns-in-Some-clause-step c =
    let self = c.args.self.now in
    let (before, fits, agrees) = c.requires.agrees in
    λ said may. stands_asked (runner_state self.runner) self.first (client_of self.runner) c.in-Some.txn c.in-Some.ensures c.args.desk.now before fits.1 agrees _ _ c.settled-outcome.ensures.0 c.one.ensures said may.1

pub returns-in-Some-given_up-clause-made : goal.returns-in-Some-given_up-clause-made
returns-in-Some-given_up-clause-made c = subst (λ (s : Steps). Leads c.args.desk.now s c.stop.new.self) (sym c.one-in-Some-given_up.ensures) (c.stop.new.self, tt, c.stop.ensures, refl)
