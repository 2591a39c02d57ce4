use Rattle.std.proofs.Common.{◌≡◌, ◌≤◌, ◌+◌, ℕ, List, ◌++◌, take}
use Rattle.ob_audit.specs.Reader.{HasReadLines}
use Rattle.ob_audit.proofs.reader.Reader.take_piece.Given as goal

abbrev pub invariant-loop-byte : goal.invariant-loop-byte
invariant-loop-byte l = record {
  within : l.self.len ≤ 97;
  few : l.self.lines ≤ l.self.seen;
  seen : l.self.seen ≤ l.limit;
  more : l.self.seen ≡ l.fn.self.seen + l.byte-index;
  read : (bytes : List ℕ) → HasReadLines l.fn.self bytes → HasReadLines l.self (bytes ++ take l.byte-index l.piece);
}
