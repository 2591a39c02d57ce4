use Rattle.std.proofs.Common.{◌≡◌, ◌*◌, length}
use Rattle.ob_base.specs.Tree.{width}
use Rattle.ob_opening.proofs.DrawLaws.{filling}
use Rattle.ob_opening.proofs.drawing.fill_all.Given as goal

abbrev pub invariant-loop-bucket : goal.invariant-loop-bucket
invariant-loop-bucket g l = record {
  versions : l.metas ≡ record l.initial.metas { versions = filling l.p (g.T.Tape.drawn l.tape) l.bucket };
  many : length (g.T.Tape.drawn l.tape) ≡ l.bucket * width l.p;
  words : length l.words ≡ 48;
  same : g.T.Tape.present l.tape ≡ g.T.Tape.present l.initial.tape;
}
