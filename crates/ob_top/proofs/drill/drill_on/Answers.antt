use Rattle.std.proofs.Common.{◌≡◌, arith, subst, sym}
use Rattle.ob_base.specs.declared.params.Params.{Params}
use Rattle.ob_start.specs.Heads.{numbers_of}
use Rattle.ob_top.specs.Drills.{drill_numbers}
use Rattle.std.proofs.lemmas.Result.{IfErr-weaker, IfOk-weaker}
use Rattle.ob_store.proofs.Serving.{goes_then}
use Rattle.ob_desk.specs.Beats.{beat_kind}
use Rattle.ob_vault.proofs.Formatted.{formats}
use Rattle.ob_top.specs.SelfTests.{IsServedAndRead}
use Rattle.ob_top.proofs.Beginnings.{formatted}
use Rattle.ob_top.proofs.SelfTest.{format_want, later_want, ready_as}
use Rattle.ob_top.proofs.drill.drill_on.Goals as goal

pub ready-requires-clause-tells : goal.ready-requires-clause-tells
ready-requires-clause-tells g c κs within = c.in-Ok.ensures.serves.tells c.requires.tells

pub ready-requires-clause-none_out : goal.ready-requires-clause-none_out
ready-requires-clause-none_out g c κs within = omega (arith, c.in-Ok.ensures.serves.out, c.requires.none_out)

pub ready-requires-clause-unstarted : goal.ready-requires-clause-unstarted
ready-requires-clause-unstarted g c κs within = c.requires.not_begun

pub ready-requires-clause-numbers : goal.ready-requires-clause-numbers
ready-requires-clause-numbers g c κs within = c.drill_params-params.ensures

pub ready-requires-clause-stands : goal.ready-requires-clause-stands
ready-requires-clause-stands g c κs within = (_, c.in-Ok.ensures.stands c.requires.tells)

pub drill_over-requires-clause-tells : goal.drill_over-requires-clause-tells
drill_over-requires-clause-tells g c κs within = c.in-Ok-ready.ensures.tells

pub drill_over-requires-clause-none_out : goal.drill_over-requires-clause-none_out
drill_over-requires-clause-none_out g c κs within = c.in-Ok-ready.ensures.none_out

pub drill_over-requires-clause-serves : goal.drill_over-requires-clause-serves
drill_over-requires-clause-serves g c κs within = c.in-Ok-ready.ensures.serves

pub drill_over-requires-clause-numbers : goal.drill_over-requires-clause-numbers
drill_over-requires-clause-numbers g c κs within = subst (λ (p : Params). numbers_of p ≡ drill_numbers) (sym c.in-Ok-ready.ensures.params) c.drill_params-params.ensures

pub drill_over-requires-clause-script : goal.drill_over-requires-clause-script
drill_over-requires-clause-script g c κs within = (_, c.requires.few, c.in-Ok-ready.ensures.script)

pub drill_over-requires-clause-runners : goal.drill_over-requires-clause-runners
drill_over-requires-clause-runners g c κs within = c.in-Ok-ready.ensures.runners

pub drill_over-requires-clause-ready : goal.drill_over-requires-clause-ready
drill_over-requires-clause-ready g c κs within =
    let (f, is) = c.in-Ok-ready.ensures.ready in
    (_, f, ready_as _ _ _ _ f _ (sym c.in-Ok-ready.ensures.params) is.opened)

-- ---- refusals

pub returns-in-Err-clause-goes : goal.returns-in-Err-clause-goes
returns-in-Err-clause-goes g c = c.in-Err.ensures.serves.goes

pub returns-in-Err-clause-none_out : goal.returns-in-Err-clause-none_out
returns-in-Err-clause-none_out g c = omega (arith, c.in-Err.ensures.serves.out, c.requires.none_out)

pub returns-in-Err-clause-refused : goal.returns-in-Err-clause-refused
returns-in-Err-clause-refused g c = format_want c.in-Err.fault (g.S.Store.disk c.args.store.now) (g.S.Store.disk c.format.new.store) c.in-Err.ensures.faults c.in-Err.ensures.serves.cause

pub returns-in-Err-ready-clause-goes : goal.returns-in-Err-ready-clause-goes
returns-in-Err-ready-clause-goes g c = goes_then _ _ _ c.in-Ok.ensures.serves.goes c.in-Err-ready.ensures.goes

pub returns-in-Err-ready-clause-refused : goal.returns-in-Err-ready-clause-refused
returns-in-Err-ready-clause-refused g c = later_want (g.S.Store.disk c.args.store.now) (g.S.Store.disk c.format.new.store) (g.S.Store.disk c.ready.new.store) c.in-Err-ready.fault c.in-Ok.ensures.serves.goes.faults c.in-Err-ready.ensures.refused

pub returns-clause-goes : goal.returns-clause-goes
returns-clause-goes g c = goes_then _ _ _ c.in-Ok.ensures.serves.goes (goes_then _ _ _ c.in-Ok-ready.ensures.goes c.drill_over.ensures.goes)

pub returns-clause-refused : goal.returns-clause-refused
returns-clause-refused g c = IfErr-weaker c.drill_over.result _ _ (λ refused want. later_want (g.S.Store.disk c.args.store.now) (g.S.Store.disk c.ready.new.store) (g.S.Store.disk c.drill_over.new.store) refused
    (goes_then _ _ _ c.in-Ok.ensures.serves.goes c.in-Ok-ready.ensures.goes).faults want) c.drill_over.ensures.refused

-- ---- what it comes to

pub returns-clause-drilled : goal.returns-clause-drilled
returns-clause-drilled g c =
    let e = c.in-Ok.ensures in
    let p = c.drill_params-params.result in
    let keys = c.from_bytes-keys.result in
    let (f, r) = c.in-Ok-ready.ensures.ready in
    let own = ready_as _ _ _ _ f _ (sym c.in-Ok-ready.ensures.params) r.opened in
    IfOk-weaker c.drill_over.result _ _
    (λ d served.
    record {
      keys = keys;
      p = p;
      numbers = c.drill_params-params.ensures;
      made = c.format.new.store;
      formatted = formatted (λ s. g.S.Store.disk s) keys p (g.T.Tape.present c.format.new.tape) (g.T.Tape.drawn c.format.new.tape) c.args.store.now c.format.new.store e.does.all.seen e.stands e.images e.durable e.closed e.act e.drawn
          (λ tells. formats p (g.T.Tape.drawn c.format.new.tape) e.drawn.1 keys (g.S.Store.disk c.format.new.store) (e.life tells)) e.gates e.serves.tells e.clear;
      opened = c.ready.new.store;
      found = f;
      start = r.start;
      seen = r.seen;
      first = r.opened.epoch;
      none_there = r.opened.map;
      served = subst (λ (q : Params). IsServedAndRead g.S.Store.disk (beat_kind g.B.Beat.passes g.B.Beat.exact) keys q c.args.count f c.ready.new.store c.drill_over.new.store) c.in-Ok-ready.ensures.params served;
    })
    (c.drill_over.ensures.drilled keys f c.args.count own c.in-Ok-ready.ensures.script c.requires.few)

pub returns-clause-epochs : goal.returns-clause-epochs
returns-clause-epochs g c = λ patient. c.drill_over.ensures.epochs c.args.count c.in-Ok-ready.ensures.script c.requires.few patient

pub returns-clause-digest : goal.returns-clause-digest
returns-clause-digest g c = λ patient. c.drill_over.ensures.digest c.args.count c.in-Ok-ready.ensures.script c.requires.few patient
