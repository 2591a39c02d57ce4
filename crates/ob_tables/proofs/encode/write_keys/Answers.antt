use Rattle.std.proofs.Common.{◌+◌, ◌*◌, ℕ, List, ap, ◌∙◌}
use Rattle.std.specs.Int.{w32, to_le_bytes}
use Rattle.ob_base.specs.LittleEndian.{with_part}
use Rattle.ob_tables.proofs.PartLaws.{keys_none, keys_more}
use Rattle.ob_tables.proofs.encode.write_keys.Goals as goal

pub loop-j-init : goal.loop-j-init
loop-j-init c = keys_none c.args.out.now c.args.at c.args.keys.now

pub loop-j-preserved : goal.loop-j-preserved
loop-j-preserved c =
    c.set_u32.ensures ∙ ap (λ (b : List ℕ). with_part b (c.args.at + 4 * c.loop-j.j) (to_le_bytes w32 c.number_of.result)) c.loop-j.invariant
    ∙ keys_more c.args.out.now c.args.at c.args.keys.now c.loop-j.j c.number_of.result c.loop-j-test.true c.requires c.number_of.ensures
