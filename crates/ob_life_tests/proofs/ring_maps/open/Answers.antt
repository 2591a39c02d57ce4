use Rattle.ob_life_tests.proofs.ring_maps.open.Goals as goal

pub over-requires-clause-told : goal.over-requires-clause-told
over-requires-clause-told g c here = (c.in-Ok.ensures.opened.told here).epoch_gates
