use Rattle.ob_admitted.proofs.OpeningMoments.{cut_openings}
use Rattle.ob_admitted.proofs.fills.cut_openings_are_shown.Goals as goal

pub returns : goal.returns
returns g c = cut_openings (λ x. g.S.Store.disk x) (λ x moment image since left. g.met.S.Store.counts_now x moment image since left) (λ x image left. g.met.S.Store.only_now x image left)
