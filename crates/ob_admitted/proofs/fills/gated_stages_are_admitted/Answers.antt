use Rattle.ob_vault.specs.Spans.{span}
use Rattle.ob_admitted.proofs.Walks as laws
use Rattle.ob_admitted.proofs.fills.gated_stages_are_admitted.Goals as goal

pub returns : goal.returns
returns g c = laws.gated_runs (span (λ x. g.S.Store.disk x))
