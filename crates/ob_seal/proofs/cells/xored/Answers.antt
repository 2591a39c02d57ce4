use Rattle.std.proofs.Common.{◌<◌, ◌≢◌, length, arith, get_or-set_other, get_or-set_same, below_more, ◌∙◌, sym}
use Rattle.std.proofs.lemmas.List.{length-set}
use Rattle.std.proofs.lemmas.Grind.{same_number_lists}
use Rattle.ob_seal.specs.Pads.{xored}
use Rattle.ob_seal.proofs.PadLemmas.{get_or-xored, length-xored}
use Rattle.ob_seal.proofs.cells.xored.Goals as goal

pub loop-i-preserved : goal.loop-i-preserved
loop-i-preserved c = (
  length-set c.loop-i.out c.loop-i.i _ ∙ c.loop-i.invariant.0,
  below_more _ _
      (λ k h. let ne : k ≢ c.loop-i.i = omega arith in rw get_or-set_other (c.loop-i.invariant.1 k h))
      (let lt : c.loop-i.i < length c.loop-i.out = omega arith in rw get_or-set_same),
)

pub returns : goal.returns
returns c =
    same_number_lists c.loop-i.out (xored c.args.bytes.now c.args.pad.now)
    (omega (arith, length-xored c.args.bytes.now c.args.pad.now))
    (λ k lt. c.loop-i.invariant.1 k (omega arith) ∙ sym (get_or-xored c.args.bytes.now c.args.pad.now k (omega arith) (omega arith)))
