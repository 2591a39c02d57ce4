use Rattle.std.proofs.Common.{refl}
use Rattle.ob_mirrored.proofs.mirrored.do_both.Goals as goal

pub returns-then-traced-clause-done : goal.returns-then-traced-clause-done
returns-then-traced-clause-done g c = rw c.if-traced.true c.do_traced.ensures.done

pub returns-clause-done : goal.returns-clause-done
returns-clause-done g c = rw c.if-traced.false (λ there. (refl, c.do_joined.ensures.done))
