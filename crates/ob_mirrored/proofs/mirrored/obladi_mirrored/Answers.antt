use Rattle.std.proofs.Common.{inl, inr, refl, Some}
use Rattle.ob_io.specs.Streams.{outflow}
use Rattle.ob_mirrored.proofs.Doing.{is_run, lanes_refused, memory_alone, second_same}
use Rattle.ob_mirrored.proofs.Telling.{told_keys, told_memory, told_none}
use Rattle.ob_mirrored.proofs.mirrored.obladi_mirrored.Goals as goal

-- ---- with a store

pub returns-in-Some-clause-stays : goal.returns-in-Some-clause-stays
returns-in-Some-clause-stays g c = rw c.in-Some.is c.do_with.ensures.none_out

pub returns-in-Some-clause-alone : goal.returns-in-Some-clause-alone
returns-in-Some-clause-alone g c = rw c.in-Some.is (λ none.
    let (does, same) = c.do_with.ensures.alone none in (
      record {
        goes = does.goes;
        usage = does.usage;
        audit = does.audit;
        drill = does.drill;
        format = does.format;
        run = does.run;
        headline = does.headline;
        complete = does.complete;
        drill_complete = does.drill_complete;
        audit_complete = does.audit_complete;
      },
      same,
    ))

pub returns-in-Some-clause-mirrored : goal.returns-in-Some-clause-mirrored
returns-in-Some-clause-mirrored g c = rw c.in-Some.is c.do_with.ensures.mirrored

-- ---- without a store

pub returns-in-Some-asked-clause-second_stays : goal.returns-in-Some-asked-clause-second_stays
returns-in-Some-asked-clause-second_stays g c = second_same g.M.Store.disk c.args.mirror.now c.requires.second_in

pub returns-in-Some-asked-clause-alone : goal.returns-in-Some-asked-clause-alone
returns-in-Some-asked-clause-alone g c = λ none. let is = (rw c.in-Some-asked.is at c.in-Ok.ensures) in absurd (none is.lanes is.asks)

pub returns-in-Some-asked-clause-mirrored : goal.returns-in-Some-asked-clause-mirrored
returns-in-Some-asked-clause-mirrored g c = rw c.in-None.is (λ lanes asks.
    let (fault, refusal, done) = c.tell_without.ensures in
    inr (inr (
      _,
      is_run _ lanes asks _ (rw c.in-Some-asked.is at c.in-Ok.ensures),
      elim refusal [
        | inl key ↦ inl (fault, key, (tt, refl, refl, told_keys c.args.text fault _ _ _ _ key done))
        | inr ((keys, has), none) ↦ inr (keys, has, (tt, refl, refl, told_none _ _ _ _ fault none done))
      ],
    )))

pub returns-in-Ok-clause-alone : goal.returns-in-Ok-clause-alone
returns-in-Ok-clause-alone g c = λ none.
    let does = c.obladi.ensures in
    rw c.in-None.is (
      record {
        goes = tt;
        usage = does.usage;
        audit = does.audit;
        drill = does.drill;
        format = does.format;
        run = does.run;
        headline = does.headline;
        complete = tt;
        drill_complete = does.drill_complete;
        audit_complete = does.audit_complete;
      },
      refl,
    )

pub returns-in-Ok-clause-mirrored : goal.returns-in-Ok-clause-mirrored
returns-in-Ok-clause-mirrored g c = rw c.in-None.is (λ lanes asks.
    lanes_refused lanes asks.limits ((rw c.in-None-asked.is at c.in-Ok.ensures) lanes asks) (c.obladi.ensures.run asks.store_path asks.keys_path lanes asks.turns asks.trace (Some asks.file) asks.limits asks.asked)
    (λ p. (p.0.0, refl, p.0.1, p.1)) (λ p. (p.0.0, refl, p.0.1, p.1)))

pub returns-clause-alone : goal.returns-clause-alone
returns-clause-alone g c = λ none. rw c.in-None.is (memory_alone g.S.Store.disk (λ w. outflow g.W.Sink w) _ _ _ _ _ _ _ _ _ (told_memory _ _ _ _ c.finish.ensures), refl)
