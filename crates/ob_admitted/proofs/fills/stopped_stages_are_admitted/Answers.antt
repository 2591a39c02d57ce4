use Rattle.ob_vault.specs.Spans.{span}
use Rattle.ob_admitted.proofs.Along.{stopped_runs}
use Rattle.ob_admitted.proofs.fills.stopped_stages_are_admitted.Goals as goal

pub returns : goal.returns
returns g c = stopped_runs (span (λ x. g.S.Store.disk x))
