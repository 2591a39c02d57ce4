use Rattle.ob_ring_tests.proofs.ServingLaws.{fit_taken}
use Rattle.ob_ring_tests.proofs.serving.take_step.Goals as goal

pub ask-requires-clause-serving : goal.ask-requires-clause-serving
ask-requires-clause-serving g c κs within = c.requires.serving

pub end_with-requires-clause-serving : goal.end_with-requires-clause-serving
end_with-requires-clause-serving g c κs within = c.requires.serving

pub end_with-requires-clause-fit : goal.end_with-requires-clause-fit
end_with-requires-clause-fit g c κs within = fit_taken _ _ _ c.in-Some.ensures.fit
