use Rattle.std.proofs.Common.{◌≡◌, ◌-◌, ℕ, suc, length, arith, sym, ◌∙◌}
use Rattle.ob_log.proofs.PlaceReads.{least_on, least_here}
use Rattle.ob_log.proofs.places.least_unasked.Goals as goal

pub returns-then-not-is_asked : goal.returns-then-not-is_asked
returns-then-not-is_asked c =
    let left : ℕ = length c.args.asks.now - suc c.loop-key.key in
    sym (c.loop-key.invariant.so_far (suc left) (omega arith) ∙ least_here c.args.asks.now c.loop-key.key left (sym c.is_asked.ensures ∙ c.if-not-is_asked.true))

pub loop-key-preserved : goal.loop-key-preserved
loop-key-preserved c = record {
  so_far = λ left is. c.loop-key.invariant.so_far (suc left) (omega arith) ∙ least_on c.args.asks.now c.loop-key.key left (sym c.is_asked.ensures ∙ c.if-not-is_asked.false);
}

pub returns : goal.returns
returns c =
    let whole : c.loop-key.key ≡ length c.args.asks.now = omega arith in
    sym (c.loop-key.invariant.so_far 0 (omega arith) ∙ whole)
