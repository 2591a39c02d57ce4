use Rattle.ob_threads.specs.Served.{words}
use Rattle.ob_run.proofs.Meeting.{still_met}
use Rattle.ob_run.proofs.crew.CrewHands.step_all.Goals as goal

pub returns-clause-ready : goal.returns-clause-ready
returns-clause-ready g c =
    still_met (words g.U.Runner.client g.U.Runner.bound g.U.Runner.plan g.U.Runner.fits g.U.Runner.turn) c.args.hall.now c.args.self.now.started.items c.step_each.new.started.items c.requires.ready c.step_each.ensures.stepped.0
