use Rattle.std.proofs.Common.{arith}
use Rattle.std.proofs.lemmas.Result.{IfErr-weaker}
use Rattle.ob_drill.proofs.Chains.{fetched, fetch_refused, answers_behind, cause_then, reads_none, refused_then}
use Rattle.ob_drill.proofs.batch.fetch.Goals as goal

pub returns-clause-answers : goal.returns-clause-answers
returns-clause-answers g c = answers_behind _ 1 _ _ _ _ c.args.asks.now c.fetch.new.out c.fetch.result c.in-Ok.ensures.reads c.fetch.ensures.answered

pub returns-clause-reads : goal.returns-clause-reads
returns-clause-reads g c =
    let e = c.fetch.ensures in
    fetched _ _ _ _ _ _ _ c.args.asks.now c.fetch.new.out c.fetch.result c.in-Ok.ensures.reads (record { notes = e.called.0; called = e.called.2; answered = e.answered; holds = e.holds; sound = e.sound; images = e.images; alike = e.alike; goes = e.goes }) e.called.1

pub returns-clause-refused : goal.returns-clause-refused
returns-clause-refused g c =
    let e = c.fetch.ensures in
    fetch_refused _ _ _ _ _ _ _ c.args.asks.now c.fetch.new.out c.fetch.result c.in-Ok.ensures.reads (record { notes = e.called.0; called = e.called.2; answered = e.answered; holds = e.holds; sound = e.sound; images = e.images; alike = e.alike; goes = e.goes }) e.called.1

pub returns-clause-cause : goal.returns-clause-cause
returns-clause-cause g c = IfErr-weaker c.fetch.result _ _ (λ fault cause store. cause_then _ 1 _ _ _ _ _ c.in-Ok.ensures.reads (cause store)) c.fetch.ensures.cause

pub returns-in-Err-clause-refused : goal.returns-in-Err-clause-refused
returns-in-Err-clause-refused g c = refused_then _ 0 1 2 (omega arith) _ _ _ _ _ _ c.in-Err.fault (reads_none _ 0 _ _) c.in-Err.ensures.refused
