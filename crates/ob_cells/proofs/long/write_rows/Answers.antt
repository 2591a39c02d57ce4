use Rattle.std.proofs.Common.{◌≡◌, ◌<◌, ◌≤◌, ◌+◌, ◌*◌, ℕ, [], ap, arith, get_or, subst}
use Rattle.std.specs.Prelude.{min}
use Rattle.ob_cells.specs.Windows.{few_from}
use Rattle.ob_cells.proofs.RunParts.{Turning, notes_refused, row_slots, run_refused, turning_on}
use Rattle.ob_cells.proofs.long.write_rows.Goals as goal

pub returns-in_err-write_row-clause-run : goal.returns-in_err-write_row-clause-run
returns-in_err-write_row-clause-run g c =
    let run = c.args.run.now in
    let at = c.args.window.now.at in
    let k = c.loop-k.k in
    let many = few_from run.many at in
    let n = c.min-few.result in
    let plain = g.P.Pieces.plain run.pieces.now in
    let old = g.S.Store.disk c.args.store.now in
    let mid = g.S.Store.disk c.loop-k.store in
    let before = g.W.Watch.trace c.args.watch.now in
    let then = g.W.Watch.trace c.loop-k.watch in
    let low : 48 * k < many = omega (arith, c.loop-k-test.true, c.rows_for-k-end.ensures.within, c.few_from-many.ensures) in
    let here : min many (48 * k) ≡ 48 * k = omega (arith, low) in
    let few : 48 * k + n ≤ many = omega (arith, low, c.min-few.ensures, c.few_from-many.ensures) in
    let turning : Turning (run.base + at) many (48 * k) (λ j. plain (at + j)) c.args.sealer.now c.loop-k.sealer old mid before then = subst (λ (x : ℕ). Turning (run.base + at) many x (λ j. plain (at + j)) c.args.sealer.now c.loop-k.sealer old mid before then) here c.loop-k.invariant.turning in
    let is = turning.run.seals.all in
    run_refused (run.base + at) many (48 * k) n (λ j. plain (at + j)) c.args.sealer.now c.loop-k.sealer c.write_row.new.sealer old mid (g.S.Store.disk c.write_row.new.store) before then (g.W.Watch.trace c.write_row.new.watch) few turning c.write_row.result c.from_residual.result c.from_residual.ensures.0
    (c.write_row.ensures.run (λ j. plain (at + (48 * k + j)))
    (row_slots c.args.sealer.now.keys run.base c.args.sealer.now.generation c.args.sealer.now.next plain run.many at k n (get_or c.args.window.now.rows.now k []) c.loop-k.sealer (omega (arith, c.min-few.ensures)) (omega (arith, few, c.requires.can.0)) (c.requires.ready k (omega (arith, low, c.requires.whole))) (ap (λ s. s.keys) is) (ap (λ s. s.generation) is) (ap (λ s. s.next) is)))

pub returns-in_err-write_row-clause-does : goal.returns-in_err-write_row-clause-does
returns-in_err-write_row-clause-does g c =
    let run = c.args.run.now in
    let at = c.args.window.now.at in
    let k = c.loop-k.k in
    let many = few_from run.many at in
    let n = c.min-few.result in
    let plain = g.P.Pieces.plain run.pieces.now in
    let old = g.S.Store.disk c.args.store.now in
    let mid = g.S.Store.disk c.loop-k.store in
    let before = g.W.Watch.trace c.args.watch.now in
    let then = g.W.Watch.trace c.loop-k.watch in
    let low : 48 * k < many = omega (arith, c.loop-k-test.true, c.rows_for-k-end.ensures.within, c.few_from-many.ensures) in
    let here : min many (48 * k) ≡ 48 * k = omega (arith, low) in
    let few : 48 * k + n ≤ many = omega (arith, low, c.min-few.ensures, c.few_from-many.ensures) in
    let turning : Turning (run.base + at) many (48 * k) (λ j. plain (at + j)) c.args.sealer.now c.loop-k.sealer old mid before then = subst (λ (x : ℕ). Turning (run.base + at) many x (λ j. plain (at + j)) c.args.sealer.now c.loop-k.sealer old mid before then) here c.loop-k.invariant.turning in
    notes_refused (run.base + at) many (48 * k) n (λ j. plain (at + j)) c.args.sealer.now c.loop-k.sealer c.write_row.new.sealer old mid (g.S.Store.disk c.write_row.new.store) before then (g.W.Watch.trace c.write_row.new.watch) few turning c.write_row.result c.from_residual.result c.from_residual.ensures.0 c.write_row.ensures.does

pub loop-k-preserved : goal.loop-k-preserved
loop-k-preserved g c =
    let run = c.args.run.now in
    let at = c.args.window.now.at in
    let k = c.loop-k.k in
    let many = few_from run.many at in
    let n = c.min-few.result in
    let plain = g.P.Pieces.plain run.pieces.now in
    let old = g.S.Store.disk c.args.store.now in
    let mid = g.S.Store.disk c.loop-k.store in
    let new = g.S.Store.disk c.write_row.new.store in
    let before = g.W.Watch.trace c.args.watch.now in
    let then = g.W.Watch.trace c.loop-k.watch in
    let after = g.W.Watch.trace c.write_row.new.watch in
    let low : 48 * k < many = omega (arith, c.loop-k-test.true, c.rows_for-k-end.ensures.within, c.few_from-many.ensures) in
    let here : min many (48 * k) ≡ 48 * k = omega (arith, low) in
    let few : 48 * k + n ≤ many = omega (arith, low, c.min-few.ensures, c.few_from-many.ensures) in
    let sum : 48 * k + n ≡ min many (48 * (k + 1)) = omega (arith, low, c.min-few.ensures, c.few_from-many.ensures) in
    let turning : Turning (run.base + at) many (48 * k) (λ j. plain (at + j)) c.args.sealer.now c.loop-k.sealer old mid before then = subst (λ (x : ℕ). Turning (run.base + at) many x (λ j. plain (at + j)) c.args.sealer.now c.loop-k.sealer old mid before then) here c.loop-k.invariant.turning in
    let is = turning.run.seals.all in
    let e = c.in_ok-write_row.ensures in
    let written = e.run (λ j. plain (at + (48 * k + j)))
    (row_slots c.args.sealer.now.keys run.base c.args.sealer.now.generation c.args.sealer.now.next plain run.many at k n (get_or c.args.window.now.rows.now k []) c.loop-k.sealer (omega (arith, c.min-few.ensures)) (omega (arith, few, c.requires.can.0)) (c.requires.ready k (omega (arith, low, c.requires.whole))) (ap (λ s. s.keys) is) (ap (λ s. s.generation) is) (ap (λ s. s.next) is)) in
    record {
      turning = subst (λ (x : ℕ). Turning (run.base + at) many x (λ j. plain (at + j)) c.args.sealer.now c.write_row.new.sealer old new before after) sum
          (turning_on (run.base + at) many (48 * k) n (λ j. plain (at + j)) c.args.sealer.now c.loop-k.sealer c.write_row.new.sealer old mid new before then after few turning (omega (arith, c.requires.can.1.1)) written.seals.all tt e.serves written e.does);
    }
