use Rattle.std.proofs.Common.{◌≤◌, length}
use Rattle.ob_turn.proofs.sleepers.Sleepers.new.Given as goal

abbrev pub invariant-loop : goal.invariant-loop
invariant-loop l = 1 ≤ length l.words.items
