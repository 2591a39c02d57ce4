use Rattle.ob_tables.proofs.MetaRows.{small_store}
use Rattle.ob_planner_tests.proofs.params.small.Goals as goal

pub returns-in-Ok : goal.returns-in-Ok
returns-in-Ok c = let m = c.in-Ok.ensures.made in let s = small_store c.in-Ok.p m.2 m.3 m.1 in (m.2, m.3, s.2, s.3)
