use Rattle.std.proofs.Common.{◌≤◌, ◌<◌, sym, ap, subst, length, set, get_or}
use Rattle.ob_base.specs.declared.params.Params.{Params}
use Rattle.ob_conduct.specs.Scenes.{runner_kind}
use Rattle.ob_conduct.specs.Moves.{Stepped}
use Rattle.ob_conduct.proofs.Ready.{all_ready}
use Rattle.ob_conduct.proofs.Stepping.{stepped_none, stepped_more, turns_next, heard_on, agreed, bound_at}
use Rattle.ob_conduct.proofs.rounds.step_all.Goals as goal

pub step-requires-clause-bound : goal.step-requires-clause-bound
step-requires-clause-bound g c =
    let i = c.loop-i.invariant in
    let u = get_or c.loop-i.runners c.loop-i.i c.index-runners-i.result in
    let lt : c.loop-i.i < length c.loop-i.runners = subst (λ n. c.loop-i.i < n) (sym c.loop-i.auto.runners) c.loop-i-test.true in
    let here = bound_at (runner_kind g.U.Runner.client g.U.Runner.bound g.U.Runner.plan g.U.Runner.fits g.U.Runner.turn) c.args.desk.now.setup.params.keys c.args.runners.now c.loop-i.runners c.loop-i.i u c.requires.below i.stepped.bounds lt
    (ap (get_or c.loop-i.runners c.loop-i.i) c.index-runners-i.is) in
    subst (λ (p : Params). g.U.Runner.bound u ≤ p.keys) (sym (i.ready c.args.desk.now.setup.params c.requires.ready.0 c.requires.ready.1).params) here

pub step-requires-clause-agrees : goal.step-requires-clause-agrees
step-requires-clause-agrees g c =
    let i = c.loop-i.invariant in
    let u = get_or c.loop-i.runners c.loop-i.i c.index-runners-i.result in
    let lt : c.loop-i.i < length c.loop-i.runners = subst (λ n. c.loop-i.i < n) (sym c.loop-i.auto.runners) c.loop-i-test.true in
    agreed (runner_kind g.U.Runner.client g.U.Runner.bound g.U.Runner.plan g.U.Runner.fits g.U.Runner.turn) c.loop-i.desk c.loop-i.runners c.loop-i.i u
    (heard_on (runner_kind g.U.Runner.client g.U.Runner.bound g.U.Runner.plan g.U.Runner.fits g.U.Runner.turn) _ c.args.desk.now c.loop-i.desk c.args.runners.now c.loop-i.runners c.requires.heard i.stepped) lt (ap (get_or c.loop-i.runners c.loop-i.i) c.index-runners-i.is)

pub loop-i-preserved : goal.loop-i-preserved
loop-i-preserved g c =
    let i = c.loop-i.invariant in
    let u = get_or c.loop-i.runners c.loop-i.i c.index-runners-i.result in
    let lt : c.loop-i.i < length c.loop-i.runners = subst (λ n. c.loop-i.i < n) (sym c.loop-i.auto.runners) c.loop-i-test.true in
    record {
      stepped = subst (λ ns. Stepped (runner_kind g.U.Runner.client g.U.Runner.bound g.U.Runner.plan g.U.Runner.fits g.U.Runner.turn) ns c.args.desk.now c.args.runners.now c.step.new.desk (set c.loop-i.runners c.loop-i.i c.step.new.self))
          (turns_next (runner_kind g.U.Runner.client g.U.Runner.bound g.U.Runner.plan g.U.Runner.fits g.U.Runner.turn) c.args.runners.now c.loop-i.runners c.loop-i.i u i.stepped.clients lt (ap (get_or c.loop-i.runners c.loop-i.i) c.index-runners-i.is))
          (stepped_more (runner_kind g.U.Runner.client g.U.Runner.bound g.U.Runner.plan g.U.Runner.fits g.U.Runner.turn) _ c.args.desk.now c.loop-i.desk c.step.new.desk c.args.runners.now c.loop-i.runners c.loop-i.i u c.step.new.self _ c.requires.heard.opened.rising lt
          (ap (get_or c.loop-i.runners c.loop-i.i) c.index-runners-i.is) i.stepped c.step.ensures.client c.step.ensures.bound c.step.ensures.plan c.step.ensures.own c.step.ensures.made c.step.ensures.fits c.step.ensures.turn);
      ready = λ p n r. all_ready p n (g.U.Runner.client u) c.loop-i.desk _ c.step.new.desk (i.ready p n r) c.step.ensures.own c.step.ensures.made;
    }

pub loop-i-init : goal.loop-i-init
loop-i-init g c = record { stepped = stepped_none _ _ _; ready = λ p n r. r }
