use Rattle.ob_serve_tests.proofs.ring.open_ring.Goals as goal

pub over-requires-clause-told : goal.over-requires-clause-told
over-requires-clause-told g c here = (c.in-Ok.ensures.opened.told (c.in-Ok.ensures.serves.goes.told here)).epoch_gates
