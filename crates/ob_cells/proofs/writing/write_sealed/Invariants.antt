use Rattle.std.proofs.Common.{◌≡◌, ℕ, ◌+◌, ◌<◌, length}
use Rattle.ob_store.specs.Runs.{write_notes}
use Rattle.ob_store.specs.Told.{Tells}
use Rattle.ob_store.proofs.Runs.{Writing}
use Rattle.ob_cells.proofs.Listed.{sealed_rows}
use Rattle.ob_cells.proofs.writing.write_sealed.Given as goal

abbrev pub invariant-loop-i : goal.invariant-loop-i
invariant-loop-i g l = record {
  writing : Writing l.base (sealed_rows l.initial.sealer l.base l.many (g.P.Pieces.plain l.pieces)) l.i (g.S.Store.disk l.initial.store) (g.S.Store.disk l.store);
  told : Tells (write_notes l.base l.i) (write_notes l.base l.i) (g.S.Store.disk l.initial.store).seen (g.S.Store.disk l.store).seen (g.W.Watch.trace l.initial.watch) (g.W.Watch.trace l.watch);
  whole : (j : ℕ) → j < l.i → length (g.P.Pieces.plain l.pieces j) ≡ 96;
  keys : l.sealer.keys ≡ l.initial.sealer.keys;
  generation : l.sealer.generation ≡ l.initial.sealer.generation;
  next : l.sealer.next ≡ l.initial.sealer.next + l.i;
}
