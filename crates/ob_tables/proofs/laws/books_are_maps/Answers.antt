use Rattle.ob_tables.proofs.BookLaws as laws
use Rattle.ob_tables.proofs.laws.books_are_maps.Goals as goal

pub returns : goal.returns
returns c = laws.books_are_maps
