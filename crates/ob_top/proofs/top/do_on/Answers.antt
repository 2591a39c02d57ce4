use Rattle.std.proofs.Common.{inl, inr, refl}
use Rattle.ob_store.proofs.Serving.{goes_same}
use Rattle.ob_top.proofs.top.do_on.Goals as goal

pub returns-in-Err-clause-does : goal.returns-in-Err-clause-does
returns-in-Err-clause-does g c = λ words asks. inl (_, refl, inr ((_, asks), c.in-Err.ensures), (refl, refl), refl)

pub returns-in-Err-clause-goes : goal.returns-in-Err-clause-goes
returns-in-Err-clause-goes g c = goes_same _

pub returns-in-Err-clause-none_out : goal.returns-in-Err-clause-none_out
returns-in-Err-clause-none_out g c = c.requires.none_out
