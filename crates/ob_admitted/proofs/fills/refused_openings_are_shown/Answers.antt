use Rattle.ob_admitted.proofs.Bridging.{refused_heads, refused_openings}
use Rattle.ob_admitted.proofs.fills.refused_openings_are_shown.Goals as goal

pub returns-clause-openings : goal.returns-clause-openings
returns-clause-openings g c = refused_openings (λ x. g.S.Store.disk x)

pub returns-clause-heads : goal.returns-clause-heads
returns-clause-heads g c = refused_heads (λ x. g.S.Store.disk x)
