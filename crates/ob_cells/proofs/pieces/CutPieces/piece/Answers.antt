use Rattle.std.proofs.Common.{ℕ, List, ◌∙◌, ◌++◌, take, ap}
use Rattle.std.specs.Prelude.{replicate}
use Rattle.ob_seal.specs.Pieces.{piece}
use Rattle.ob_cells.proofs.pieces.CutPieces.piece.Goals as goal

pub returns : goal.returns
unfolding piece
returns c = c.filled.ensures ∙ ap (λ (l : List ℕ). take 96 (l ++ replicate 96 0)) c.rest_from.ensures
