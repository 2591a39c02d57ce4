use Rattle.std.proofs.Common.{refl}
use Rattle.ob_mirrored.proofs.Joining.{stood_joined}
use Rattle.ob_mirrored.proofs.halves.mirrors_stand.Goals as goal

pub returns : goal.returns
returns g c = λ keys p q at past tape a b x t u stood joined. stood_joined _ (λ m. m.halves.first.now) (λ m. m.halves.second.now) g.A.Store.disk g.B.Store.disk (λ m one two. (one, two)) (λ m. refl) (λ m image left. left) keys p at past tape a b x stood q t u joined
