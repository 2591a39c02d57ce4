-- Private: the pieces that a line is put together from.
use Rattle.std.specs.Prelude.{ℕ, List, flat_map}
use Rattle.std.specs.Fmt.{decimal}
use Rattle.ob_report.specs.declared.piece.Piece.{Piece}
use Rattle.ob_report.specs.declared.piece.Piece.TheVariants.{Text, Number}

abbrev pub piece_text : Piece → List ℕ
piece_text (Text bytes) = bytes.now
piece_text (Number n) = decimal n

abbrev pub pieces_text : List Piece → List ℕ
pieces_text pieces = flat_map piece_text pieces
