use Rattle.std.proofs.Common.{◌≡◌, ◌∷◌, [], false, refl, sym, subst}
use Rattle.ob_threads.specs.declared.starting.Started.TheVariants.{Here}
use Rattle.ob_threads.specs.Served.{words}
use Rattle.ob_threads.specs.Starts.{IsStepped, AreOrdered, ran_here}
use Rattle.ob_threads.proofs.Placing.{is_here, has_stepped}
use Rattle.ob_threads.proofs.stepping.step.Goals as goal

pub take_turn-requires-clause-ready : goal.take_turn-requires-clause-ready
take_turn-requires-clause-ready g c = (is_here (words g.U.Runner.client g.U.Runner.bound g.U.Runner.plan g.U.Runner.fits g.U.Runner.turn) c.args.hall.now c.args.started.now c.in-Here.client c.in-Here.is c.requires.met).ready

pub take_turn-requires-clause-client : goal.take_turn-requires-clause-client
take_turn-requires-clause-client g c = (is_here (words g.U.Runner.client g.U.Runner.bound g.U.Runner.plan g.U.Runner.fits g.U.Runner.turn) c.args.hall.now c.args.started.now c.in-Here.client c.in-Here.is c.requires.met).named

pub take_turn-requires-clause-bound : goal.take_turn-requires-clause-bound
take_turn-requires-clause-bound g c = (is_here (words g.U.Runner.client g.U.Runner.bound g.U.Runner.plan g.U.Runner.fits g.U.Runner.turn) c.args.hall.now c.args.started.now c.in-Here.client c.in-Here.is c.requires.met).below

pub take_turn-requires-clause-fits : goal.take_turn-requires-clause-fits
take_turn-requires-clause-fits g c = (is_here (words g.U.Runner.client g.U.Runner.bound g.U.Runner.plan g.U.Runner.fits g.U.Runner.turn) c.args.hall.now c.args.started.now c.in-Here.client c.in-Here.is c.requires.met).fits

pub returns-in-Away-clause-stepped : goal.returns-in-Away-clause-stepped
returns-in-Away-clause-stepped g c = subst (λ x. IsStepped (words g.U.Runner.client g.U.Runner.bound g.U.Runner.plan g.U.Runner.fits g.U.Runner.turn) c.args.hall.now x x) (sym c.in-Away.is) refl

pub returns-in-Away-clause-ordered : goal.returns-in-Away-clause-ordered
returns-in-Away-clause-ordered g c = subst (λ x. AreOrdered c.args.turns.now (x ∷ []) c.args.turns.now) (sym c.in-Away.is) refl

pub returns-in-Away-clause-ran : goal.returns-in-Away-clause-ran
returns-in-Away-clause-ran g c = subst (λ x. false ≡ ran_here x) (sym c.in-Away.is) refl

pub returns-in-Ran-clause-stepped : goal.returns-in-Ran-clause-stepped
returns-in-Ran-clause-stepped g c =
    subst (λ x. IsStepped (words g.U.Runner.client g.U.Runner.bound g.U.Runner.plan g.U.Runner.fits g.U.Runner.turn) c.args.hall.now x (Here (c.take_turn.new.pass, c.take_turn.new.runner))) (sym c.in-Here.is)
    (has_stepped (words g.U.Runner.client g.U.Runner.bound g.U.Runner.plan g.U.Runner.fits g.U.Runner.turn) c.args.hall.now c.in-Here.client (c.take_turn.new.pass, c.take_turn.new.runner)
    (is_here (words g.U.Runner.client g.U.Runner.bound g.U.Runner.plan g.U.Runner.fits g.U.Runner.turn) c.args.hall.now c.args.started.now c.in-Here.client c.in-Here.is c.requires.met)
    c.take_turn.ensures.one_history c.take_turn.ensures.turn c.take_turn.ensures.fits c.take_turn.ensures.client c.take_turn.ensures.bound c.take_turn.ensures.plan c.take_turn.ensures.ready)

pub returns-in-Ran-clause-ordered : goal.returns-in-Ran-clause-ordered
returns-in-Ran-clause-ordered g c = c.take_turn.ensures.behind
