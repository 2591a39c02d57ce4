use Rattle.std.proofs.Common.{◌≡◌, ◌+◌, ℕ, List, length, take, ap, ◌∙◌, length-append, arith}
use Rattle.std.proofs.lemmas.List.{length-take-le}
use Rattle.ob_fetch.proofs.drawing.draw_front.Goals as goal

pub draw-requires : goal.draw-requires
draw-requires g c =
    let i = c.loop-i.i in
    let before = g.T.Tape.drawn c.args.tape.now in
    let all : length (g.T.Tape.drawn c.loop-i.tape) ≡ length before + length (take i c.loop-i.words.items) = ap (λ (l : List ℕ). length l) c.loop-i.invariant.drawn ∙ length-append before (take i c.loop-i.words.items) in
    let some : length (take i c.loop-i.words.items) ≡ i = length-take-le i c.loop-i.words.items (omega (arith, c.loop-i-test.true, c.loop-i.invariant.many, c.requires.few)) in
    omega (arith, all, some, c.loop-i-test.true, c.loop-i.invariant.many, c.requires.few, c.requires.room)
