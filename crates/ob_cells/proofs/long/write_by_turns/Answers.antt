use Rattle.std.proofs.Common.{◌≤◌, ◌+◌, ◌∙◌, ℕ, arith, subst, sym}
use Rattle.ob_seal.specs.Sealing.{Sealing}
use Rattle.ob_cells.specs.Windows.{AreRowsSealed, few_from}
use Rattle.ob_cells.proofs.RunParts.{Turning, notes_refused, turning_on}
use Rattle.ob_cells.proofs.long.write_by_turns.Goals as goal

pub returns-in_err-at-clause-does : goal.returns-in_err-at-clause-does
returns-in_err-at-clause-does g c =
    let run = c.args.task.now.run.now in
    let at = c.loop-at.at in
    let turning = c.loop-at.invariant.turning in
    let few : at + few_from run.many at ≤ run.many = (let le = turning.within in omega arith) in
    notes_refused run.base run.many at (few_from run.many at) (g.P.Pieces.plain run.pieces.now) c.args.sealer.now c.loop-at.sealer c.write_and_seal.new.sealer (g.S.Store.disk c.args.store.now) (g.S.Store.disk c.loop-at.store) (g.S.Store.disk c.write_and_seal.new.store)
    (g.W.Watch.trace c.args.watch.now) (g.W.Watch.trace c.loop-at.watch) (g.W.Watch.trace c.write_and_seal.new.watch) few turning c.write_and_seal.result c.from_residual.result c.from_residual.ensures.0 c.write_and_seal.ensures.does

pub returns-in_err-at-2-clause-does : goal.returns-in_err-at-2-clause-does
returns-in_err-at-2-clause-does g c =
    let run = c.args.task.now.run.now in
    let plain = g.P.Pieces.plain run.pieces.now in
    let at = c.loop-at.at in
    let next = c.in_ok-at.at in
    let before = c.args.sealer.now in
    let mid = c.write_and_seal.new.sealer in
    let old = g.S.Store.disk c.args.store.now in
    let new = g.S.Store.disk c.write_and_seal.new.store in
    let begun = g.W.Watch.trace c.args.watch.now in
    let then = g.W.Watch.trace c.write_and_seal.new.watch in
    let turning = c.loop-at.invariant.turning in
    let e = c.in_ok-at.ensures in
    let few : at + few_from run.many at ≤ run.many = (let le = turning.within in omega arith) in
    let on : Turning run.base run.many next plain before mid old new begun then = subst (λ (x : ℕ). Turning run.base run.many x plain before mid old new begun then) (sym e.next)
    (turning_on run.base run.many at (few_from run.many at) plain before c.loop-at.sealer mid old (g.S.Store.disk c.loop-at.store) new begun (g.W.Watch.trace c.loop-at.watch) then few turning (omega (arith, c.requires.can.1.1)) e.run.seals.all next e.serves e.run e.does) in
    let less : next + few_from run.many next ≤ run.many = (let le = on.within in omega arith) in
    notes_refused run.base run.many next (few_from run.many next) plain before mid c.write_and_seal-in-loop-at.new.sealer old new (g.S.Store.disk c.write_and_seal-in-loop-at.new.store) begun then (g.W.Watch.trace c.write_and_seal-in-loop-at.new.watch) less on
    c.write_and_seal-in-loop-at.result c.from_residual-in_err-at-2.result c.from_residual-in_err-at-2.ensures.0 c.write_and_seal-in-loop-at.ensures.does

pub loop-at-preserved : goal.loop-at-preserved
loop-at-preserved g c =
    let run = c.args.task.now.run.now in
    let plain = g.P.Pieces.plain run.pieces.now in
    let at = c.loop-at.at in
    let next = c.in_ok-at.at in
    let end = c.in_ok-at-2.at in
    let before = c.args.sealer.now in
    let mid = c.write_and_seal.new.sealer in
    let last = c.write_and_seal-in-loop-at.new.sealer in
    let old = g.S.Store.disk c.args.store.now in
    let new = g.S.Store.disk c.write_and_seal.new.store in
    let later = g.S.Store.disk c.write_and_seal-in-loop-at.new.store in
    let begun = g.W.Watch.trace c.args.watch.now in
    let then = g.W.Watch.trace c.write_and_seal.new.watch in
    let after = g.W.Watch.trace c.write_and_seal-in-loop-at.new.watch in
    let rows = c.write_and_seal-in-loop-at.new.free in
    let turning = c.loop-at.invariant.turning in
    let e = c.in_ok-at.ensures in
    let f = c.in_ok-at-2.ensures in
    let few : at + few_from run.many at ≤ run.many = (let le = turning.within in omega arith) in
    let on : Turning run.base run.many next plain before mid old new begun then = subst (λ (x : ℕ). Turning run.base run.many x plain before mid old new begun then) (sym e.next)
    (turning_on run.base run.many at (few_from run.many at) plain before c.loop-at.sealer mid old (g.S.Store.disk c.loop-at.store) new begun (g.W.Watch.trace c.loop-at.watch) then few turning (omega (arith, c.requires.can.1.1)) e.run.seals.all next e.serves e.run e.does) in
    let less : next + few_from run.many next ≤ run.many = (let le = on.within in omega arith) in
    record {
      turning = subst (λ (x : ℕ). Turning run.base run.many x plain before last old later begun after) (sym f.next)
          (turning_on run.base run.many next (few_from run.many next) plain before mid last old new later begun then after less on (omega (arith, c.requires.can.1.1)) f.run.seals.all end f.serves f.run f.does);
      one = c.write_and_seal-in-loop-at.ensures.many ∙ c.loop-at.invariant.one;
      other = c.write_and_seal.ensures.many ∙ c.loop-at.invariant.other;
      ready = subst (λ (x : ℕ). AreRowsSealed last.keys run.base last.generation last.next plain run.many x rows) (sym f.next)
          (subst (λ (s : Sealing). AreRowsSealed s.keys run.base s.generation s.next plain run.many (next + few_from run.many next) rows) (sym f.run.seals.all) c.write_and_seal-in-loop-at.ensures.sealed);
    }
