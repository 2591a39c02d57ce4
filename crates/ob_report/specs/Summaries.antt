-- The summary of a self-test.
use Rattle.std.specs.Prelude.{ℕ, List, ◌++◌, codes}
use Rattle.std.specs.Fmt.{decimal}
use Rattle.hex.specs.Hex.{encode_lower}
use Rattle.ob_report.specs.Report.{line_end}
use Rattle.ob_report.specs.declared.summary.Summary.{Summary}

-- a word and a number
abbrev pub count_line : List ℕ → ℕ → List ℕ
count_line word number = word ++ decimal number ++ line_end

-- how many transactions it was to make, how many epochs there were, how many transactions committed, and how many keys are there behind them
abbrev pub counts_text : Summary → List ℕ
counts_text s = count_line (codes "drill ") s.count ++ count_line (codes "epochs ") s.epochs ++ count_line (codes "committed ") s.committed ++ count_line (codes "keys ") s.keys

-- and the digest of these with their values
abbrev pub summary_text : Summary → List ℕ
summary_text s = counts_text s ++ (codes "map " ++ encode_lower s.map ++ line_end)
