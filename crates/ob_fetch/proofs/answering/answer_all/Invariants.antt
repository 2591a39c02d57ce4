use Rattle.std.proofs.Common.{◌≡◌, length, take}
use Rattle.ob_fetch.specs.Fetches.{values_asked}
use Rattle.ob_fetch.proofs.answering.answer_all.Given as goal

abbrev pub invariant-loop-i : goal.invariant-loop-i
invariant-loop-i l = record {
  so_far : take l.i l.out ≡ values_asked l.stash.rows (take l.i l.asks);
  many : length l.out ≡ length l.asks;
}
