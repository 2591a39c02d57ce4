use Rattle.std.proofs.Common.{[], get_or}
use Rattle.ob_seal.specs.Pieces.{piece}
use Rattle.ob_cells.specs.Runs.{IsRun}
use Rattle.ob_cells.proofs.opening.open_sealed.Given as goal

abbrev pub invariant-loop-i : goal.invariant-loop-i
invariant-loop-i l = record {
  run : IsRun l.sealer.keys l.base l.i l.first (λ j. piece j l.plain) (λ j. get_or l.cells j []);
}
