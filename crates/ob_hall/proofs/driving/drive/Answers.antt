use Rattle.std.proofs.Common.{refl, sym, ◌∙◌, ◌≤◌, ℕ, subst, inl, inr}
use Rattle.ob_hall.specs.Passes.{opening_of}
use Rattle.ob_hall.specs.Driving.{MakesStep}
use Rattle.ob_hall.proofs.Stepping.{driven_on, no_steps, steps_go_on}
use Rattle.ob_hall.proofs.driving.drive.Goals as goal

pub loop-init : goal.loop-init
loop-init g c = record {
  driven = inl refl;
  same = refl;
  turns = no_steps (g.U.Runner.turn (g.U.Runner.plan c.args.runner.now)) c.args.pass.now;
  ready = c.requires.ready;
  fits = c.requires.fits;
  client = refl;
  bound = refl;
  plan = refl;
}

pub returns-in-Done : goal.returns-in-Done
returns-in-Done g c =
    let i = c.loop.invariant in
    let t = c.in-Done.ensures in record {
      one_history = driven_on c.args.hall.now c.args.pass.now c.loop.pass c.take_turn.new.pass i.driven t.one_history;
      turns = steps_go_on (g.U.Runner.turn (g.U.Runner.plan c.args.runner.now)) c.args.pass.now c.loop.pass c.take_turn.new.pass i.same i.turns
          (subst (λ (p : g.U.Runner.Plan). MakesStep (g.U.Runner.turn p) c.loop.pass c.take_turn.new.pass) i.plan t.turn);
      fits = t.fits;
      signed_off = sym t.step;
      client = t.client ∙ i.client;
      bound = t.bound ∙ i.bound;
      plan = t.plan ∙ i.plan;
      ready = t.ready;
    }

pub take_turn-requires-clause-ready : goal.take_turn-requires-clause-ready
take_turn-requires-clause-ready g c = c.loop.invariant.ready

pub take_turn-requires-clause-client : goal.take_turn-requires-clause-client
take_turn-requires-clause-client g c = c.loop.invariant.client ∙ (c.requires.client ∙ sym c.loop.invariant.same)

pub take_turn-requires-clause-bound : goal.take_turn-requires-clause-bound
take_turn-requires-clause-bound g c = subst (λ (n : ℕ). n ≤ (opening_of c.args.hall.now).setup.params.keys) (sym c.loop.invariant.bound) c.requires.bound

pub take_turn-requires-clause-fits : goal.take_turn-requires-clause-fits
take_turn-requires-clause-fits g c = c.loop.invariant.fits

pub loop-preserved : goal.loop-preserved
loop-preserved g c =
    let i = c.loop.invariant in
    let t = c.take_turn.ensures in record {
      driven = inr (driven_on c.args.hall.now c.args.pass.now c.loop.pass c.take_turn.new.pass i.driven t.one_history);
      same = t.one_history.made.client ∙ i.same;
      turns = steps_go_on (g.U.Runner.turn (g.U.Runner.plan c.args.runner.now)) c.args.pass.now c.loop.pass c.take_turn.new.pass i.same i.turns
          (subst (λ (p : g.U.Runner.Plan). MakesStep (g.U.Runner.turn p) c.loop.pass c.take_turn.new.pass) i.plan t.turn);
      ready = t.ready;
      fits = t.fits;
      client = t.client ∙ i.client;
      bound = t.bound ∙ i.bound;
      plan = t.plan ∙ i.plan;
    }

pub loop-preserved-in-Waits : goal.loop-preserved-in-Waits
loop-preserved-in-Waits g c =
    let i = c.loop.invariant in
    let t = c.take_turn.ensures in record {
      driven = inr (driven_on c.args.hall.now c.args.pass.now c.loop.pass c.take_turn.new.pass i.driven t.one_history);
      same = t.one_history.made.client ∙ i.same;
      turns = steps_go_on (g.U.Runner.turn (g.U.Runner.plan c.args.runner.now)) c.args.pass.now c.loop.pass c.take_turn.new.pass i.same i.turns
          (subst (λ (p : g.U.Runner.Plan). MakesStep (g.U.Runner.turn p) c.loop.pass c.take_turn.new.pass) i.plan t.turn);
      ready = t.ready;
      fits = t.fits;
      client = t.client ∙ i.client;
      bound = t.bound ∙ i.bound;
      plan = t.plan ∙ i.plan;
    }
