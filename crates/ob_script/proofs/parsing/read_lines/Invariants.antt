use Rattle.std.proofs.Common.{◌≡◌, ◌+◌, ◌≤◌, List, ◌++◌, length}
use Rattle.ob_script.specs.Script.{Text, ReadsLines, lines_of, lines_from, start}
use Rattle.ob_script.specs.ScriptViews.{state_of}
use Rattle.ob_script.proofs.parsing.read_lines.Given as goal

abbrev pub invariant-loop-text : goal.invariant-loop-text
invariant-loop-text l = record {
  before : List Text;
  lines_are : lines_of l.bytes ≡ before ++ lines_from l.all l.rest;
  good : ReadsLines l.keys start before (state_of l.reader);
  number_is : l.number ≡ length before + 1;
  room : l.number + length l.rest ≤ length l.bytes + 1;
}

abbrev pub decreases-loop-text : goal.decreases-loop-text
decreases-loop-text l = length l.rest
