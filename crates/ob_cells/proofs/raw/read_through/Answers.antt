use Rattle.std.proofs.Common.{◌≡◌, ◌≢◌, ◌+◌, [], length, get_or, set, arith, ◌∙◌, sym, below_more, get_or-set_same, get_or-set_other}
use Rattle.ob_store.proofs.Doing.{does_refused}
use Rattle.ob_cells.specs.Orders.{read_notes}
use Rattle.ob_cells.proofs.Notes.{read_more, read_part}
use Rattle.ob_cells.proofs.raw.read_through.Goals as goal

pub returns-in_err-read_noted-clause-does : goal.returns-in_err-read_noted-clause-does
returns-in_err-read_noted-clause-does g c =
    does_refused _ _ _ _ (read_notes c.args.base (length c.args.cells.now)) c.from_residual.result c.from_residual.ensures.0
    (read_part c.args.base c.loop-i.i _ _ _ _ _ _ c.loop-i.invariant.tells c.in_err-read_noted.ensures.told (length c.args.cells.now) (let lt = c.loop-i-test.true in omega arith))

pub loop-i-preserved : goal.loop-i-preserved
loop-i-preserved g c =
    let i = c.loop-i.i in
    let image = (g.S.Store.disk c.args.store.now).cells in
    let out = c.read_noted.new.out in record {
      bytes = λ tells. below_more (λ j. image (c.args.base + j) ≡ get_or (set c.loop-i.cells i out) j []) i
          (λ j lt. let other : j ≢ i = omega arith in c.loop-i.invariant.bytes tells j lt ∙ sym (get_or-set_other c.loop-i.cells i j out [] other))
          (sym (c.in_ok-read_noted.ensures.bytes tells) ∙ sym (get_or-set_same c.loop-i.cells i out [] (let lt = c.loop-i-test.true in omega arith)));
      later = (let a = c.loop-i.invariant.later in let b = c.in_ok-read_noted.ensures.cause.later in omega arith);
      tells = read_more c.args.base i _ _ _ _ _ _ c.loop-i.invariant.tells c.in_ok-read_noted.ensures.told;
    }
