use Rattle.std.proofs.Common.{◌∙◌, ◌<◌, ◌≤◌, ◌||◌, get_or, length, take, sym, ap, subst}
use Rattle.std.specs.List.{list_any}
use Rattle.std.proofs.lemmas.List.{take_all}
use Rattle.ob_threads.specs.Served.{words}
use Rattle.ob_threads.specs.Starts.{Each, CanStep, IsStepped, AreOrdered, ran_here}
use Rattle.ob_threads.proofs.Eaching.{one_more, any_more, still_there}
use Rattle.ob_threads.proofs.Ordering.{ordered_more}
use Rattle.ob_threads.proofs.stepping.step_all.Goals as goal

pub step-ran-requires : goal.step-ran-requires
step-ran-requires g c =
    let at = c.loop-one in
    let lt : at.one-index < length at.started = subst (λ n. at.one-index < n) (sym at.auto.started) c.loop-one-test.true in
    record { met = still_there (CanStep (words g.U.Runner.client g.U.Runner.bound g.U.Runner.plan g.U.Runner.fits g.U.Runner.turn) c.args.hall.now) at.one-index c.args.started.now at.started c.one-item.result lt at.invariant.others c.requires.met }

pub loop-one-preserved : goal.loop-one-preserved
loop-one-preserved g c =
    let at = c.loop-one in
    let lt : at.one-index < length at.started = subst (λ n. at.one-index < n) (sym at.auto.started) c.loop-one-test.true in
    let w = words g.U.Runner.client g.U.Runner.bound g.U.Runner.plan g.U.Runner.fits g.U.Runner.turn in
    let here = get_or at.started at.one-index c.one-item.result in
    let is = ap (get_or at.started at.one-index) c.one-item.is in
    let more = one_more (IsStepped w c.args.hall.now) at.one-index c.args.started.now at.started here c.step-ran.new.started lt (sym at.auto.started) is c.step-ran.ensures.stepped at.invariant.stepped at.invariant.others in
    record {
      stepped = more.front;
      others = more.others;
      ordered = ordered_more c.args.turns.now at.turns c.step-ran.new.turns at.one-index at.started c.step-ran.new.started lt at.invariant.ordered c.step-ran.ensures.ordered;
      ran = ap (λ b. b || c.step-ran.result) at.invariant.ran ∙ (ap (λ b. list_any ran_here (take at.one-index at.started) || b) c.step-ran.ensures.ran ∙ sym (any_more ran_here at.one-index at.started c.step-ran.new.started lt));
    }

pub returns-clause-stepped : goal.returns-clause-stepped
returns-clause-stepped g c =
    let at = c.loop-one in
    let r = IsStepped (words g.U.Runner.client g.U.Runner.bound g.U.Runner.plan g.U.Runner.fits g.U.Runner.turn) c.args.hall.now in
    let all : length at.started ≤ at.one-index = subst (λ n. n ≤ at.one-index) (sym at.auto.started) c.loop-one-test.false in
    subst (λ l. Each r c.args.started.now l) (take_all at.one-index at.started all)
    (subst (λ l. Each r l (take at.one-index at.started)) (take_all at.one-index c.args.started.now c.loop-one-test.false) at.invariant.stepped)

pub returns-clause-ordered : goal.returns-clause-ordered
returns-clause-ordered g c =
    let at = c.loop-one in
    let all : length at.started ≤ at.one-index = subst (λ n. n ≤ at.one-index) (sym at.auto.started) c.loop-one-test.false in
    subst (λ l. AreOrdered c.args.turns.now l at.turns) (take_all at.one-index at.started all) at.invariant.ordered

pub returns-clause-ran : goal.returns-clause-ran
returns-clause-ran g c =
    let at = c.loop-one in
    let all : length at.started ≤ at.one-index = subst (λ n. n ≤ at.one-index) (sym at.auto.started) c.loop-one-test.false in
    at.invariant.ran ∙ ap (list_any ran_here) (take_all at.one-index at.started all)
