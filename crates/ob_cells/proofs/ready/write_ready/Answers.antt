use Rattle.std.proofs.Common.{◌≡◌, ◌<◌, ◌+◌, ◌∙◌, [], ap, length, get_or, arith, subst, sym, refl}
use Rattle.ob_seal.specs.Seals.{sealed}
use Rattle.ob_store.specs.Runs.{write_notes}
use Rattle.ob_store.specs.Told.{Tells}
use Rattle.ob_store.proofs.Doing.{does_all, does_refused}
use Rattle.ob_store.proofs.Runs.{one_more, passes_one, elsewhere_one, told_next, first_run}
use Rattle.ob_cells.proofs.Written.{refused_run, sealing_on}
use Rattle.ob_cells.proofs.Listed.{onward_low}
use Rattle.ob_cells.proofs.ready.write_ready.Goals as goal

pub returns-in_err-write_noted-clause-run : goal.returns-in_err-write_noted-clause-run
returns-in_err-write_noted-clause-run g c = λ plain are.
    let before = c.args.sealer.now in
    let rows = c.args.slots.now in
    let old = g.S.Store.disk c.args.store.now in
    let mid = g.S.Store.disk c.loop-i.store in
    let new = g.S.Store.disk c.write_noted.new.store in
    let within : c.loop-i.i < length rows = c.loop-i-test.true in
    let e = c.write_noted.ensures in
    refused_run c.args.base (length rows) plain before _ old new c.from_residual.result c.from_residual.ensures.0
    (record {
      keys = ap (λ s. s.keys) c.take.ensures.next ∙ c.loop-i.invariant.keys;
      generation = ap (λ s. s.generation) c.take.ensures.next ∙ c.loop-i.invariant.generation;
      on = (let now = ap (λ s. s.next) c.take.ensures.next in let then = c.loop-i.invariant.next in omega arith);
      within = (let now = ap (λ s. s.next) c.take.ensures.next in let then = c.loop-i.invariant.next in omega (arith, within));
    })
    (record {
      rest = λ tells. elsewhere_one c.args.base rows c.loop-i.i old mid new within c.loop-i.invariant.writing (λ t. e.rest (c.loop-i.invariant.writing.tells t)) tells;
      passes = passes_one c.args.base rows c.loop-i.i old mid new within c.loop-i.invariant.writing e.serves.goes e.crash e.time e.rest;
    })

pub returns-in_err-write_noted-clause-does : goal.returns-in_err-write_noted-clause-does
returns-in_err-write_noted-clause-does g c =
    does_refused _ _ _ _ (write_notes c.args.base (length c.args.slots.now)) c.from_residual.result c.from_residual.ensures.0
    (first_run c.args.base (length c.args.slots.now) (c.loop-i.i + 1) _ _ _ _ (omega (arith, c.loop-i-test.true))
    (told_next c.args.base c.loop-i.i _ _ _ _ _ _ c.loop-i.invariant.told c.write_noted.ensures.told))

pub loop-i-preserved : goal.loop-i-preserved
loop-i-preserved g c =
    let rows = c.args.slots.now in
    let old = g.S.Store.disk c.args.store.now in
    let mid = g.S.Store.disk c.loop-i.store in
    let new = g.S.Store.disk c.write_noted.new.store in
    let i = c.loop-i.i in
    let within : i < length rows = c.loop-i-test.true in
    let e = c.in_ok-write_noted.ensures in
    let bytes = get_or rows i [] in
    record {
      writing = one_more c.args.base rows i old mid new within c.loop-i.invariant.writing bytes refl e.serves e.written e.rest e.crash e.time;
      told = told_next c.args.base i _ _ _ _ _ _ c.loop-i.invariant.told e.told;
      keys = ap (λ s. s.keys) c.take.ensures.next ∙ c.loop-i.invariant.keys;
      generation = ap (λ s. s.generation) c.take.ensures.next ∙ c.loop-i.invariant.generation;
      next = (let now = ap (λ s. s.next) c.take.ensures.next in let then = c.loop-i.invariant.next in omega arith);
    }

pub returns-clause-run : goal.returns-clause-run
returns-clause-run g c = λ plain are.
    let before = c.args.sealer.now in
    let rows = c.args.slots.now in
    let many = length rows in
    let all : c.loop-i.i ≡ many = omega (arith, c.loop-i-test.false, c.loop-i.auto.i-end) in
    record {
      written = λ tells j lt. c.loop-i.invariant.writing.here tells j (omega (arith, lt, all)) ∙ (are j lt).bytes_are
          ∙ ap (λ x. sealed before.keys (c.args.base + j) before.generation x (plain j)) (sym (onward_low before.next j (omega (arith, c.requires.room, lt))));
      whole = λ j lt. (are j lt).whole;
      seals = record {
        all = sealing_on before c.loop-i.sealer many c.loop-i.invariant.keys c.loop-i.invariant.generation (c.loop-i.invariant.next ∙ ap (λ n. before.next + n) all);
        some = record {
          keys = c.loop-i.invariant.keys;
          generation = c.loop-i.invariant.generation;
          on = (let then = c.loop-i.invariant.next in omega arith);
          within = (let then = c.loop-i.invariant.next in omega (arith, all));
        };
      };
      within = record {
        rest = λ tells. c.loop-i.invariant.writing.elsewhere tells;
        passes = c.loop-i.invariant.writing.passes;
      };
    }

pub returns-clause-does : goal.returns-clause-does
returns-clause-does g c =
    let whole : c.loop-i.i ≡ length c.args.slots.now = omega (arith, c.loop-i-test.false, c.loop-i.auto.i-end) in
    does_all _ _ _ _ (write_notes c.args.base (length c.args.slots.now)) tt
    (subst (λ n. Tells (write_notes c.args.base n) (write_notes c.args.base n) (g.S.Store.disk c.args.store.now).seen (g.S.Store.disk c.loop-i.store).seen (g.W.Watch.trace c.args.watch.now) (g.W.Watch.trace c.loop-i.watch)) whole
    c.loop-i.invariant.told)
