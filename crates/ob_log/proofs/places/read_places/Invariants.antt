use Rattle.std.proofs.Common.{◌≡◌, None}
use Rattle.ob_cells.specs.Rules.{first_broken}
use Rattle.ob_log.specs.Places.{asks_in, words_in, place_rules}
use Rattle.ob_log.proofs.places.read_places.Given as goal

abbrev pub invariant-loop-i : goal.invariant-loop-i
invariant-loop-i l = record {
  asks : l.asks.items ≡ asks_in l.bytes l.i;
  words : l.words.items ≡ words_in l.bytes l.i;
  kept : first_broken (place_rules l.p l.bytes l.i) ≡ None;
}
