use Rattle.std.specs.Prelude.{◌*◌}
use Rattle.ob_ring.specs.FlatTable.{after_final}
use Rattle.ob_ring.specs.Picked.{Plans, Grows, final_picked}
use Rattle.ob_ring.proofs.PathLaws.{path_to}
use Rattle.ob_ring.proofs.lifts.lift_path.Given as goal

abbrev pub invariant-loop-level : goal.invariant-loop-level
invariant-loop-level l = Grows (l.level * l.p.real) l.fn.jobs l.jobs × Plans l.p l.fn.metas l.metas l.fn.jobs l.jobs (λ t. final_picked l.p t (path_to l.p l.leaf l.level)) (λ t. after_final l.p t (path_to l.p l.leaf l.level))
