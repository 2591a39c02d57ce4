-- The line of a new store.
use Rattle.std.specs.Prelude.{ℕ, List, ◌++◌, codes}
use Rattle.std.specs.Fmt.{decimal}
use Rattle.ob_report.specs.Report.{line_end}

abbrev pub size_line : ℕ → List ℕ
size_line cells = codes "store of " ++ decimal cells ++ codes " cells" ++ line_end
