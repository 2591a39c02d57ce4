use Rattle.std.proofs.Common.{◌+◌, ◌%◌, suc, arith, sym, subst, List, ℕ, Option, take}
use Rattle.ob_serial.specs.Vaults.{AreBelow, AreDistinct}
use Rattle.ob_base.specs.Layout.{log_cell, record_cells}
use Rattle.ob_fetch.specs.Fetches.{next_batch}
use Rattle.ob_ring_tests.proofs.ServingLaws.{asks_below, asks_distinct, goes_on, serving_fetched}
use Rattle.ob_ring_tests.proofs.serving.ask.Goals as goal

pub fetch-requires-clause-goes_on : goal.fetch-requires-clause-goes_on
fetch-requires-clause-goes_on g c κs within = goes_on _ _ _ _ _ _ c.requires.serving

pub fetch-requires-clause-some_left : goal.fetch-requires-clause-some_left
fetch-requires-clause-some_left g c κs within = c.requires.some_left

pub fetch-requires-clause-keys : goal.fetch-requires-clause-keys
fetch-requires-clause-keys g c κs within =
    let p = c.args.serving.now.run.params in
    subst (λ (asks : List (Option ℕ)). AreBelow p.keys (take p.places asks)) (sym c.asks_of-asks.ensures) (asks_below p.places p.keys c.args.key c.requires.low)

pub fetch-requires-clause-distinct : goal.fetch-requires-clause-distinct
fetch-requires-clause-distinct g c κs within = subst (λ (asks : List (Option ℕ)). AreDistinct (take c.args.serving.now.run.params.places asks)) (sym c.asks_of-asks.ensures) (asks_distinct c.args.serving.now.run.params.places c.args.key)

pub returns-in-Ok-clause-out : goal.returns-in-Ok-clause-out
returns-in-Ok-clause-out g c = c.in-Ok.ensures.serves.out

pub returns-in-Ok-clause-serving : goal.returns-in-Ok-clause-serving
returns-in-Ok-clause-serving g c =
    let e = c.in-Ok.ensures in
    let run = c.args.serving.now.run in
    serving_fetched (g.S.Store.disk c.args.store.now) (g.S.Store.disk c.fetch.new.store) (g.T.Tape.present c.args.tape.now) (g.T.Tape.present c.fetch.new.tape) (g.T.Tape.drawn c.args.tape.now) (g.T.Tape.drawn c.fetch.new.tape)
    run c.fetch.new.run c.args.serving.now.crew c.fetch.new.crew c.args.serving.now.index c.requires.serving e.keeps.kept e.serves.goes e.goes_on (e.keeps.fit c.requires.serving.ready.planner) e.keeps.words
    (log_cell run.params (suc run.epoch % 2) (next_batch run) 0) (record_cells run.params + 1) (omega arith) e.within
