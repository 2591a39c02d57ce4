use Rattle.std.proofs.Common.{ℕ, ◌+◌, ◌*◌, List, get_or, ◌∙◌, ap}
use Rattle.std.specs.Int.{w32, to_le_bytes}
use Rattle.ob_base.specs.LittleEndian.{with_part}
use Rattle.ob_start.proofs.Spelling.{part_none, number_more}
use Rattle.ob_start.proofs.heads.put_numbers.Goals as goal

pub loop-i-init : goal.loop-i-init
loop-i-init c = part_none c.args.plain.now

pub loop-i-preserved : goal.loop-i-preserved
loop-i-preserved c =
    c.set_u32.ensures ∙ ap (λ (l : List ℕ). with_part l (12 + 4 * c.loop-i.i) (to_le_bytes w32 (get_or c.args.numbers.now c.loop-i.i 0))) c.loop-i.invariant
    ∙ number_more c.args.plain.now c.args.numbers.now c.loop-i.i c.loop-i-test.true c.requires
