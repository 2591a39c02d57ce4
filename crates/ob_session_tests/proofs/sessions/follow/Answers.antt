use Rattle.ob_session_tests.proofs.sessions.follow.Goals as goal

pub sign_off-requires-clause-between : goal.sign_off-requires-clause-between
sign_off-requires-clause-between g c = c.durable.ensures.stands.0 c.follow_all.ensures.between

pub sign_off-requires-clause-ready : goal.sign_off-requires-clause-ready
sign_off-requires-clause-ready g c = c.durable.ensures.ready c.follow_all.ensures.ready
