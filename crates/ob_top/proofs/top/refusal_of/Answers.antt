use Rattle.std.proofs.Common.{refl, inl, inr}
use Rattle.ob_top.proofs.top.refusal_of.Goals as goal

pub returns-in-Ok : goal.returns-in-Ok
returns-in-Ok c = λ words asks. inr (asks, (_, c.in-Ok.ensures), refl)

pub returns-in-Err : goal.returns-in-Err
returns-in-Err c = λ words asks. inl (inr (asks, c.in-Err.ensures))
