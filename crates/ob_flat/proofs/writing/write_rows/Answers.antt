use Rattle.ob_store.proofs.Serving.{on_ok}
use Rattle.ob_flat.proofs.RowCells.{all_short, holds_rows, on_both}
use Rattle.ob_flat.proofs.writing.write_rows.Goals as goal

pub returns-clause-rows : goal.returns-clause-rows
returns-clause-rows g c =
    let s = c.args.sealer.now in
    let run = c.write_sealed.ensures.run in
    record {
      serves = c.write_sealed.ensures.serves;
      written = λ tells. on_both _ _ _ c.write_sealed.result
          (λ so whole. holds_rows s.keys c.args.base s.generation s.next (g.S.Store.disk c.write_sealed.new.store).cells c.args.values.now c.requires.room whole so)
          (run.written tells) run.whole;
      short = on_ok _ _ c.write_sealed.result (λ whole. all_short c.args.values.now whole) run.whole;
      seals = run.seals;
      within = run.within;
    }
