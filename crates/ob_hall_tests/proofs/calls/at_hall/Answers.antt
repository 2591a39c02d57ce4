use Rattle.ob_hall_tests.proofs.calls.at_hall.Goals as goal

pub opened-hall-requires-clause-named : goal.opened-hall-requires-clause-named
opened-hall-requires-clause-named g c = c.clients_of.ensures.named

pub opened-hall-requires-clause-rising : goal.opened-hall-requires-clause-rising
opened-hall-requires-clause-rising g c = c.clients_of.ensures.rising
