use Rattle.std.specs.Prelude.{◌+◌, ◌*◌}
use Rattle.ob_ring.specs.FlatTable.{after_final}
use Rattle.ob_ring.specs.Picked.{Plans, Grows, final_picked}
use Rattle.ob_ring.proofs.LiftLaws.{evicted_to}
use Rattle.ob_ring.proofs.lifts.lift_paths.Given as goal

abbrev pub invariant-loop-i : goal.invariant-loop-i
invariant-loop-i l = Grows (l.i * ((l.p.levels + 1) * l.p.real)) l.fn.jobs l.jobs × Plans l.p l.fn.metas l.metas l.fn.jobs l.jobs (λ t. final_picked l.p t (evicted_to l.p l.counter l.i)) (λ t. after_final l.p t (evicted_to l.p l.counter l.i))
