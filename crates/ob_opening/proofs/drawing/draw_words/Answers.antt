use Rattle.std.proofs.Common.{◌≡◌, ◌+◌, ◌<◌, ℕ, List, length, take, ap, ◌∙◌, length-append, arith}
use Rattle.std.proofs.lemmas.List.{length-take-le}
use Rattle.ob_opening.proofs.drawing.draw_words.Goals as goal

pub draw-requires : goal.draw-requires
draw-requires g c =
    let i = c.loop-i.i in
    let before = g.T.Tape.drawn c.args.tape.now in
    let all : length (g.T.Tape.drawn c.loop-i.tape) ≡ length before + length (take i c.loop-i.words) = ap (λ (l : List ℕ). length l) c.loop-i.invariant.drawn ∙ length-append before (take i c.loop-i.words) in
    let low : i < length c.loop-i.words = omega (arith, c.loop-i-test.true, c.loop-i.invariant.many) in
    let some : length (take i c.loop-i.words) ≡ i = length-take-le i c.loop-i.words (omega (arith, low)) in
    omega (arith, all, some, low, c.loop-i.invariant.many, c.requires.room)
