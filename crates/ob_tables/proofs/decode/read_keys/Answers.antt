use Rattle.std.proofs.Common.{List, Option, ℕ, subst, sym, arith, ◌+◌}
use Rattle.ob_tables.proofs.SpellingLaws.{KeysRead, keys_read_more}
use Rattle.ob_tables.proofs.decode.read_keys.Goals as goal

pub loop-j-preserved : goal.loop-j-preserved
loop-j-preserved c =
    subst (λ (ks : List (Option ℕ)). KeysRead c.args.bytes.now (c.loop-j.j + 1) ks) (sym c.push.ensures.items)
    (keys_read_more c.args.bytes.now c.loop-j.j c.u32_at.result c.loop-j.keys.items c.key_of.result (λ i. omega (arith, c.type_inv.bytes i)) (omega (arith, c.requires.long)) c.u32_at.ensures c.key_of.ensures.spelled c.key_of.ensures.low c.loop-j.invariant)
