-- For tests: a desk and a runner that go together, as tests drive them.
use Rattle.std.specs.Prelude.{ℕ, ◌≡◌, ◌≤◌, List, [], None, Contains}
use Rattle.ob_desk.specs.Desk.{DeskState, Setup, Call, Reply, MayOpen, new_desk}
use Rattle.ob_session.specs.Steps.{Leads}
use Rattle.ob_session.specs.Clients.{said_by}
use Rattle.ob_runner.specs.Places.{RunnerState, Fits}

-- Calls of a new desk led here, those of the runner's client are the runner's, and no batch is in flight.
pub record IsRunnerServed (r : RunnerState) (d : DeskState) : Type 0 where
  pub setup : Setup
  pub epoch : ℕ
  pub left : ℕ
  pub clients : List ℕ
  pub steps : List (Call × Reply)
  pub may : MayOpen setup epoch left clients
  pub leads : Leads (new_desk setup epoch left clients) steps d
  pub has : Contains clients r.client
  pub fits : Fits r (said_by r.client steps)
  pub bound : r.keys ≤ d.setup.params.keys
  pub not_closed : d.closed ≡ None
  pub none_flying : d.running.order.flying ≡ []
