use Rattle.std.proofs.Common.{refl}
use Rattle.ob_conduct.proofs.Conducting.{done_short}
use Rattle.ob_conduct.proofs.Moving.{goes_all}
use Rattle.ob_conduct.proofs.serving.serve.Goals as goal

pub returns-in-Err-clause-done : goal.returns-in-Err-clause-done
returns-in-Err-clause-done g c = done_short _ _ c.args.params.now _ _ _ _ _ _ c.requires.fresh c.requires.none_made

pub returns-clause-anchors : goal.returns-clause-anchors
returns-clause-anchors g c = let d = c.run_rounds.ensures.done.1 in (goes_all _ _ _ _ d.notes _ _ d.chain).anchors

pub returns-in-Err-clause-params : goal.returns-in-Err-clause-params
returns-in-Err-clause-params g c = c.requires.params

pub returns-in-Err-clause-anchors : goal.returns-in-Err-clause-anchors
returns-in-Err-clause-anchors g c = refl

pub returns-in-Err-clause-beat : goal.returns-in-Err-clause-beat
returns-in-Err-clause-beat g c = refl

pub run_rounds-requires-clause-params : goal.run_rounds-requires-clause-params
run_rounds-requires-clause-params g c κs within = c.requires.params

pub run_rounds-requires-clause-whole : goal.run_rounds-requires-clause-whole
run_rounds-requires-clause-whole g c κs within = c.requires.whole

pub run_rounds-requires-clause-serves : goal.run_rounds-requires-clause-serves
run_rounds-requires-clause-serves g c κs within = c.requires.serves

pub run_rounds-requires-clause-fresh : goal.run_rounds-requires-clause-fresh
run_rounds-requires-clause-fresh g c κs within = c.requires.fresh

pub run_rounds-requires-clause-opens : goal.run_rounds-requires-clause-opens
run_rounds-requires-clause-opens g c κs within = c.requires.opens

pub run_rounds-requires-clause-below : goal.run_rounds-requires-clause-below
run_rounds-requires-clause-below g c κs within = c.requires.below

pub run_rounds-requires-clause-none_made : goal.run_rounds-requires-clause-none_made
run_rounds-requires-clause-none_made g c κs within = c.requires.none_made

pub returns-clause-params : goal.returns-clause-params
returns-clause-params g c = c.run_rounds.ensures.params

pub returns-clause-beat : goal.returns-clause-beat
returns-clause-beat g c = c.run_rounds.ensures.beat

pub returns-clause-done : goal.returns-clause-done
returns-clause-done g c = c.run_rounds.ensures.done
