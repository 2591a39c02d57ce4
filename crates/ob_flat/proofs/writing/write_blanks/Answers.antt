use Rattle.std.proofs.Common.{◌≡◌, ℕ, List, Option, None, length, replicate, subst, sym}
use Rattle.std.proofs.lemmas.List.{length-replicate}
use Rattle.ob_store.proofs.Serving.{on_ok, if_ok}
use Rattle.ob_cells.specs.Writes.{Seals, WritesWithin}
use Rattle.ob_flat.proofs.RowCells.{holds_blanks, blanks_short}
use Rattle.ob_flat.proofs.writing.write_blanks.Goals as goal

pub returns-clause-rows : goal.returns-clause-rows
returns-clause-rows g c =
    let s = c.args.sealer.now in
    let old = g.S.Store.disk c.args.store.now in
    let new = g.S.Store.disk c.write_sealed.new.store in
    let run = c.write_sealed.ensures.run in
    let many : c.args.keys ≡ length (replicate {A = Option (List ℕ)} c.args.keys None) = sym (length-replicate {A = Option (List ℕ)} c.args.keys None) in
    record {
      serves = c.write_sealed.ensures.serves;
      written = λ tells. on_ok _ _ c.write_sealed.result (λ so. holds_blanks s.keys c.args.base s.generation s.next c.args.keys new.cells c.requires.room so) (run.written tells);
      short = if_ok _ c.write_sealed.result (blanks_short c.args.keys);
      seals = subst (λ n. Seals n s c.write_sealed.new.sealer c.write_sealed.result) many run.seals;
      within = subst (λ n. WritesWithin c.args.base n old new) many run.within;
    }
