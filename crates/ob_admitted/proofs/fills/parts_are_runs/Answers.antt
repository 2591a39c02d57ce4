use Rattle.ob_admitted.proofs.RefusedParts as laws
use Rattle.ob_admitted.proofs.fills.parts_are_runs.Goals as goal

pub returns : goal.returns
returns g c = laws.parts_are (λ x. g.S.Store.disk x)
