use Rattle.std.proofs.Common.{◌≡◌, Err, ap, arith, subst}
use Rattle.ob_base.specs.declared.fault.Fault.{Fault}
use Rattle.ob_schedule.specs.Schedule.{format_notes}
use Rattle.ob_store.proofs.Doing.{first_noted}
use Rattle.ob_io.specs.Flows.{appended}
use Rattle.ob_io.specs.Streams.{outflow}
use Rattle.ob_report.specs.Printed.{IsPrinted}
use Rattle.ob_report.specs.Sizes.{size_line}
use Rattle.ob_vault.proofs.Formatted.{formats}
use Rattle.ob_top.specs.Outside.{words_given}
use Rattle.ob_top.proofs.Beginnings.{format_broke, format_refused, formatted}
use Rattle.ob_top.proofs.format.format_on.Goals as goal

pub returns-in-Err-clause-ends : goal.returns-in-Err-clause-ends
returns-in-Err-clause-ends g c =
    let e = c.in-Err.ensures in
    format_refused (λ s. g.S.Store.disk s) (words_given (g.T.Tape.present c.format.new.tape) (g.T.Tape.drawn c.format.new.tape)) c.args.keys.now c.args.params.now c.args.store.now c.format.new.store _ _ _ c.in-Err.fault e.faults e.serves.cause
    (λ is. let (store, tape, watch) = e.memory (ap (λ (x : Fault). Err x) is) in (store, ap (λ w. g.W.Watch.trace w) watch))
    (first_noted (format_notes c.args.params.now) _ _ _ _ e.does.first) e.does.first e.clear

pub returns-in-Ok-size_text-clause-ends : goal.returns-in-Ok-size_text-clause-ends
returns-in-Ok-size_text-clause-ends g c =
    let e = c.in-Ok.ensures in
    let before = outflow g.O.Sink c.args.output.now in
    let after = outflow g.O.Sink c.size_text.new.sink in (
      formatted (λ s. g.S.Store.disk s) c.args.keys.now c.args.params.now (g.T.Tape.present c.format.new.tape) (g.T.Tape.drawn c.format.new.tape) c.args.store.now c.format.new.store e.does.all.seen e.stands e.images e.durable e.closed e.act e.drawn
          (λ tells. formats c.args.params.now (g.T.Tape.drawn c.format.new.tape) e.drawn.1 c.args.keys.now (g.S.Store.disk c.format.new.store) (e.life tells)) e.gates e.serves.tells e.clear,
      subst (λ n. after.bytes ≡ appended before.bytes (size_line n)) c.ring_cells.ensures.cells c.in-Ok-size_text.ensures.all,
      (e.does.all.shows, c.in-Ok-still_watched.ensures),
    )

pub returns-in-Err-size_text-clause-ends : goal.returns-in-Err-size_text-clause-ends
returns-in-Err-size_text-clause-ends g c =
    let e = c.in-Ok.ensures in
    let before = outflow g.O.Sink c.args.output.now in
    let after = outflow g.O.Sink c.size_text.new.sink in (
      formatted (λ s. g.S.Store.disk s) c.args.keys.now c.args.params.now (g.T.Tape.present c.format.new.tape) (g.T.Tape.drawn c.format.new.tape) c.args.store.now c.format.new.store e.does.all.seen e.stands e.images e.durable e.closed e.act e.drawn
          (λ tells. formats c.args.params.now (g.T.Tape.drawn c.format.new.tape) e.drawn.1 c.args.keys.now (g.S.Store.disk c.format.new.store) (e.life tells)) e.gates e.serves.tells e.clear,
      c.in-Err-size_text.ensures.cause.failed,
      subst (λ n. IsPrinted before after (size_line n)) c.ring_cells.ensures.cells c.size_text.ensures.printed,
      (e.does.all.shows, c.in-Ok-still_watched.ensures),
    )

pub returns-in-Err-still_watched-clause-ends : goal.returns-in-Err-still_watched-clause-ends
returns-in-Err-still_watched-clause-ends g c =
    let e = c.in-Ok.ensures in
    format_broke (λ s. g.S.Store.disk s) (words_given (g.T.Tape.present c.format.new.tape) (g.T.Tape.drawn c.format.new.tape)) c.args.keys.now c.args.params.now c.args.store.now c.format.new.store _ _ _ c.in-Err-still_watched.err c.in-Err-still_watched.ensures
    (formatted (λ s. g.S.Store.disk s) c.args.keys.now c.args.params.now (g.T.Tape.present c.format.new.tape) (g.T.Tape.drawn c.format.new.tape) c.args.store.now c.format.new.store e.does.all.seen e.stands e.images e.durable e.closed e.act e.drawn
    (λ tells. formats c.args.params.now (g.T.Tape.drawn c.format.new.tape) e.drawn.1 c.args.keys.now (g.S.Store.disk c.format.new.store) (e.life tells)) e.gates e.serves.tells e.clear)
    e.does.all.shows

pub returns-in-Err-still_watched-clause-goes : goal.returns-in-Err-still_watched-clause-goes
returns-in-Err-still_watched-clause-goes g c = c.in-Ok.ensures.serves.goes

pub returns-in-Err-still_watched-clause-none_out : goal.returns-in-Err-still_watched-clause-none_out
returns-in-Err-still_watched-clause-none_out g c = omega (arith, c.in-Ok.ensures.serves.out, c.requires.none_out)

pub returns-in-Err-still_watched-clause-left : goal.returns-in-Err-still_watched-clause-left
returns-in-Err-still_watched-clause-left g c = c.in-Ok.ensures.crash

-- ---- at each return: the store goes on, no lane is out, and what a crash leaves

pub returns-in-Err-clause-goes : goal.returns-in-Err-clause-goes
returns-in-Err-clause-goes g c = c.in-Err.ensures.serves.goes

pub returns-in-Err-clause-none_out : goal.returns-in-Err-clause-none_out
returns-in-Err-clause-none_out g c = omega (arith, c.in-Err.ensures.serves.out, c.requires.none_out)

pub returns-in-Err-clause-left : goal.returns-in-Err-clause-left
returns-in-Err-clause-left g c = c.in-Err.ensures.crash

pub returns-in-Ok-size_text-clause-goes : goal.returns-in-Ok-size_text-clause-goes
returns-in-Ok-size_text-clause-goes g c = c.in-Ok.ensures.serves.goes

pub returns-in-Ok-size_text-clause-none_out : goal.returns-in-Ok-size_text-clause-none_out
returns-in-Ok-size_text-clause-none_out g c = omega (arith, c.in-Ok.ensures.serves.out, c.requires.none_out)

pub returns-in-Ok-size_text-clause-left : goal.returns-in-Ok-size_text-clause-left
returns-in-Ok-size_text-clause-left g c = c.in-Ok.ensures.crash

pub returns-in-Err-size_text-clause-goes : goal.returns-in-Err-size_text-clause-goes
returns-in-Err-size_text-clause-goes g c = c.in-Ok.ensures.serves.goes

pub returns-in-Err-size_text-clause-none_out : goal.returns-in-Err-size_text-clause-none_out
returns-in-Err-size_text-clause-none_out g c = omega (arith, c.in-Ok.ensures.serves.out, c.requires.none_out)

pub returns-in-Err-size_text-clause-left : goal.returns-in-Err-size_text-clause-left
returns-in-Err-size_text-clause-left g c = c.in-Ok.ensures.crash
