use Rattle.std.proofs.Common.{sym, subst}
use Rattle.ob_ring.specs.Ring.{Kept, IsRing, StandsFor, empty_table}
use Rattle.ob_ring.proofs.RingLaws.{empty_ring, empty_stands}
use Rattle.ob_ring.proofs.ring.Ring.empty.Goals as goal

pub invariant_of-result : goal.invariant_of-result
invariant_of-result c =
    subst IsRing (λ i. record { p = c.args.p.now; book = sym c.in_ok-new.ensures i; metas = sym c.in_ok-new-2.ensures i; stash = sym c.in_ok-new-3.ensures i; counter = 0 }) (empty_ring c.args.p.now)

pub returns-clause-table : goal.returns-clause-table
returns-clause-table c =
    subst (λ (r : Kept). StandsFor r empty_table) (λ i. record { p = c.args.p.now; book = sym c.in_ok-new.ensures i; metas = sym c.in_ok-new-2.ensures i; stash = sym c.in_ok-new-3.ensures i; counter = 0 }) (empty_stands c.args.p.now)
