use Rattle.std.specs.Prelude.{◌+◌, ◌*◌}
use Rattle.ob_ring.specs.FlatTable.{visits}
use Rattle.ob_ring.specs.Picked.{Plans, Grows, visits_picked, spot_at}
use Rattle.ob_ring.proofs.PathLaws.{path_to}
use Rattle.ob_ring.proofs.path.visit_path.Given as goal

abbrev pub invariant-loop-level : goal.invariant-loop-level
invariant-loop-level l = Grows (l.level * (l.p.real + 1)) l.fn.jobs l.jobs × Plans l.p l.fn.metas l.metas l.fn.jobs l.jobs (λ t. visits_picked l.p t l.ask (spot_at l.found) (path_to l.p l.leaf l.level)) (λ t. visits l.p t (spot_at l.found) (path_to l.p l.leaf l.level))
