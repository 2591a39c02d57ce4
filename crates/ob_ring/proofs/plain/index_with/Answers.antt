use Rattle.std.proofs.Common.{ℕ, suc, arith, sym, ap, ◌∙◌, length}
use Rattle.std.specs.Prelude.{◌≡◌, ◌==◌, ◌+◌, slice_index}
use Rattle.std.specs.List.{find, range_with_len}
use Rattle.std.proofs.lemmas.Bool.{eq-eqb, ne_eqb}
use Rattle.ob_tables.proofs.Counting.{find-range_more, find-range_at}
use Rattle.ob_ring.proofs.plain.index_with.Goals as goal

pub returns-then-ranks-j : goal.returns-then-ranks-j
returns-then-ranks-j c =
    sym (find-range_at (λ j. slice_index c.ranks-ranks.result.now j == c.args.slot) 0 c.loop-j.j (length c.ranks-ranks.result.now) c.loop-j.j (omega arith) c.loop-j-test.true c.loop-j.invariant (eq-eqb (slice_index c.ranks-ranks.result.now c.loop-j.j) c.args.slot c.if-ranks-j.true))
    ∙ (λ i. find (λ j. slice_index (c.ranks-ranks.ensures.ranks i) j == c.args.slot) (range_with_len 0 (length (c.ranks-ranks.ensures.ranks i))))

pub loop-j-preserved : goal.loop-j-preserved
loop-j-preserved c =
    let e : c.loop-j.j + 1 ≡ suc c.loop-j.j = omega arith in
    ap (λ (n : ℕ). find (λ j. slice_index c.ranks-ranks.result.now j == c.args.slot) (range_with_len 0 n)) e
    ∙ find-range_more (λ j. slice_index c.ranks-ranks.result.now j == c.args.slot) 0 c.loop-j.j c.loop-j.j (omega arith) c.loop-j.invariant (ne_eqb (slice_index c.ranks-ranks.result.now c.loop-j.j) c.args.slot c.if-ranks-j.false)
