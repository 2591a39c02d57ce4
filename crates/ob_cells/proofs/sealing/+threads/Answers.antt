use Rattle.std.proofs.Common.{◌≡◌, ◌+◌, ◌*◌, ◌∙◌, ℕ, length, arith, subst, length-append}
use Rattle.ob_cells.specs.Windows.{AreRowsSealed}
use Rattle.ob_cells.proofs.Rows.{rows_joined}
use Rattle.ob_cells.proofs.sealing.+threads.Goals as goal

pub seal_rows-returns-clause-sealed : goal.seal_rows-returns-clause-sealed
seal_rows-returns-clause-sealed g t c =
    let s = c.args.task.now.sealer.now in
    let run = c.args.task.now.run.now in
    let start = c.args.start in
    let next = c.behind-next.result in
    let few = c.share_of-few.result in
    let plain = g.P.Pieces.plain run.pieces.now in
    let xs = c.seal_apart.new.apart in
    let ys = c.seal_apart.new.rest in
    let front = c.seal_apart.ensures.apart in
    let back = c.seal_apart.ensures.rest in
    let long : length xs ≡ few = front.0 ∙ c.split_at_mut-apart.ensures.front_len in (
      omega (arith, length-append xs ys, long, back.0, c.split_at_mut-apart.ensures.back_len),
      rows_joined s.keys run.base s.generation start.number plain run.many start.cell few xs ys long front.1
          (subst (λ (x : ℕ). AreRowsSealed s.keys run.base s.generation x plain run.many (start.cell + 48 * few) ys) c.behind-next.ensures.number
          (subst (λ (x : ℕ). AreRowsSealed s.keys run.base s.generation next.number plain run.many x ys) c.behind-next.ensures.cell back.1)),
    )
