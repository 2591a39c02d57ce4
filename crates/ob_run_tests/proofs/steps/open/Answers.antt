use Rattle.std.proofs.Common.{ℕ, subst, sym, arith}
use Rattle.std.specs.Prelude.{Contains}
use Rattle.ob_desk.specs.Desk.{setup_of}
use Rattle.ob_runner.specs.RunnerViews.{runner_state}
use Rattle.ob_run_tests.proofs.Serving.{served_new, may_open, found_in}
use Rattle.ob_run_tests.proofs.steps.open.Goals as goal

pub returns : goal.returns
returns c =
    let has = found_in c.clients-clients.result.now c.args.client c.contains.result c.contains.ensures.cases c.if-not-contains.false in
    served_new (runner_state c.in-Ok-new.runner) c.in-Ok-new-2.desk (setup_of c.in-Ok.params) 1 2 c.clients-clients.result.now
    (may_open c.in-Ok.params c.args.scripts.now c.clients-clients.result.now c.clients-clients.ensures.sound c.clients-clients.ensures.clients c.in-Ok.ensures.made.4)
    (subst (λ (k : ℕ). Contains c.clients-clients.result.now k) (sym c.in-Ok-new.ensures.client) has)
    c.in-Ok-new.ensures.fits (omega (arith, c.in-Ok-new.ensures.bound, c.keys.ensures)) c.in-Ok-new-2.ensures
