use Rattle.std.proofs.Common.{◌≡◌, ◌++◌, length, take}
use Rattle.ob_opening.proofs.drawing.draw_words.Given as goal

abbrev pub invariant-loop-i : goal.invariant-loop-i
invariant-loop-i g l = record {
  drawn : g.T.Tape.drawn l.tape ≡ g.T.Tape.drawn l.initial.tape ++ take l.i l.words;
  many : length l.words ≡ length l.initial.words;
  same : g.T.Tape.present l.tape ≡ g.T.Tape.present l.initial.tape;
}
