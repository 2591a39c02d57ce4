use Rattle.std.proofs.Common.{◌≡◌, ◌++◌, length, take}
use Rattle.ob_fetch.proofs.drawing.draw_front.Given as goal

abbrev pub invariant-loop-i : goal.invariant-loop-i
invariant-loop-i g l = record {
  drawn : g.T.Tape.drawn l.tape ≡ g.T.Tape.drawn l.initial.tape ++ take l.i l.words.items;
  many : length l.words.items ≡ length l.initial.words.items;
  same : g.T.Tape.present l.tape ≡ g.T.Tape.present l.initial.tape;
}
