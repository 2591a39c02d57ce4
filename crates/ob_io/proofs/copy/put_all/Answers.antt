use Rattle.std.proofs.Common.{◌≡◌, ◌∙◌, sym, take, arith, length-drop}
use Rattle.std.proofs.lemmas.List.{take_rest, take_all}
use Rattle.std.proofs.lemmas.Result.{err_from_is_err_and}
use Rattle.ob_io.proofs.Pieces.{appended-more, appended-none}
use Rattle.ob_io.proofs.copy.put_all.Goals as goal

pub loop-at-preserved : goal.loop-at-preserved
loop-at-preserved g c =
    let rest = take_rest c.args.bytes.now c.loop-at.at in
    let part = rw rest at c.in_ok-at.ensures.some.1 in
    let wrote = rw rest at c.in_ok-at.ensures.written in
    let cause = c.write.ensures.cause in
    record {
      within = omega (arith, part, length-drop c.loop-at.at c.args.bytes.now);
      later = omega (arith, cause.later);
      written = appended-more _ _ _ c.args.bytes.now c.loop-at.at c.in_ok-at.field-0 c.loop-at.invariant.written wrote;
    }

pub loop-at-init : goal.loop-at-init
loop-at-init g c = record { within = omega arith; later = omega arith; written = appended-none (g.S.Sink.written c.args.sink.now) }

pub returns : goal.returns
returns g c =
    let whole : take c.loop-at.at c.args.bytes.now ≡ c.args.bytes.now = take_all c.loop-at.at c.args.bytes.now c.loop-at-test.false in
    record {
      all = rw whole at c.loop-at.invariant.written;
      front = (c.loop-at.at, c.loop-at.invariant.within, c.loop-at.invariant.written);
      cause = record { later = c.loop-at.invariant.later; failed = tt };
    }

pub returns-in_err-at : goal.returns-in_err-at
returns-in_err-at g c =
    let p = err_from_is_err_and c.from_residual.result c.from_residual.ensures.1 in
    let cause = c.in_err-at.ensures.cause in
    rw p.1 (record {
      all = tt;
      front = (c.loop-at.at, c.loop-at.invariant.within, c.in_err-at.ensures.written ∙ sym (appended-none (g.S.Sink.written c.loop-at.sink)) ∙ c.loop-at.invariant.written);
      cause = record { later = omega (arith, cause.later); failed = omega (arith, cause.failed) };
    })
