use Rattle.std.proofs.Common.{◌≡◌, ◌++◌, take}
use Rattle.ob_log.specs.Logs.{places_bytes}
use Rattle.ob_log.proofs.spelling.add_places.Given as goal

abbrev pub invariant-loop-i : goal.invariant-loop-i
invariant-loop-i l = record {
  spelled : l.all.items ≡ l.initial.all.items ++ places_bytes (take l.i l.asks) (take l.i l.words);
}
