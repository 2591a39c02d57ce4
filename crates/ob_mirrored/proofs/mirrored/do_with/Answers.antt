use Rattle.std.proofs.Common.{inl, inr, refl, Some}
use Rattle.ob_io.specs.Streams.{outflow}
use Rattle.ob_mirrored.proofs.Doing.{is_run, lanes_refused, memory_with, second_same}
use Rattle.ob_mirrored.proofs.Telling.{told_memory}
use Rattle.ob_mirrored.proofs.mirrored.do_with.Goals as goal

-- ---- over a mirror

pub returns-in-Some-clause-alone : goal.returns-in-Some-clause-alone
returns-in-Some-clause-alone g c = λ none. let is = (rw c.in-Some.is at c.in-Ok.ensures) in absurd (none is.lanes is.asks)

pub returns-in-Some-clause-mirrored : goal.returns-in-Some-clause-mirrored
returns-in-Some-clause-mirrored g c = λ lanes asks. inr (inr (_, is_run _ lanes asks _ (rw c.in-Some.is at c.in-Ok.ensures), c.do_with_first.ensures.done))

-- ---- without a mirror

pub returns-in-None-clause-second_stays : goal.returns-in-None-clause-second_stays
returns-in-None-clause-second_stays g c = second_same g.M.Store.disk c.args.mirror.now c.requires.second_in

pub returns-in-None-clause-alone : goal.returns-in-None-clause-alone
returns-in-None-clause-alone g c = λ none.
    let does = c.obladi.ensures in (
      record {
        goes = does.goes;
        usage = does.usage;
        audit = does.audit;
        drill = does.drill;
        format = does.format;
        run = does.run;
        headline = does.headline;
        complete = does.complete;
        drill_complete = does.drill_complete;
        audit_complete = does.audit_complete;
      },
      refl,
    )

pub returns-in-None-clause-mirrored : goal.returns-in-None-clause-mirrored
returns-in-None-clause-mirrored g c = λ lanes asks.
    lanes_refused lanes asks.limits ((rw c.in-None.is at c.in-Ok.ensures) lanes asks) (c.obladi.ensures.run asks.store_path asks.keys_path lanes asks.turns asks.trace (Some asks.file) asks.limits asks.asked)
    (λ p. (p.0.0, refl, p.0.1, p.1)) (λ p. (p.0.0, refl, p.0.1, p.1))

-- ---- memory was wanting for the words

pub returns-in-Err-clause-second_stays : goal.returns-in-Err-clause-second_stays
returns-in-Err-clause-second_stays g c = second_same g.M.Store.disk c.args.mirror.now c.requires.second_in

pub returns-in-Err-clause-alone : goal.returns-in-Err-clause-alone
returns-in-Err-clause-alone g c = λ none.
    (memory_with g.S.Store.disk (λ w. outflow g.W.Sink w) _ _ _ _ _ _ _ _ c.args.first _ refl c.requires.none_out (λ x image left. g.met.S.Store.only_now x image left) (λ x tells leaves. g.met.S.Store.includes_reads x tells leaves) (told_memory _ _ _ _ c.finish.ensures), refl)

pub returns-in-Err-clause-mirrored : goal.returns-in-Err-clause-mirrored
returns-in-Err-clause-mirrored g c = λ lanes asks. inl (refl, refl, refl, told_memory _ _ _ _ c.finish.ensures)
