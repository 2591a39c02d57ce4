use Rattle.std.proofs.Common.{subst, sym, ap}
use Rattle.ob_ring.specs.Settling.{Rows}
use Rattle.ob_ring.proofs.Stashes.{AreLow, low_remove}
use Rattle.ob_ring.proofs.plain.forget_key.Goals as goal

pub returns-in-Some-clause-low : goal.returns-in-Some-clause-low
returns-in-Some-clause-low c = subst (λ (m : Rows). AreLow c.args.p.now.keys m) (ap (λ h. h.rows) (sym c.take.ensures.rest)) (low_remove c.args.p.now.keys c.args.stash.now.rows c.in-Some.key c.requires.low)
