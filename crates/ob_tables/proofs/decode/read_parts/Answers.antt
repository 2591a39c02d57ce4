use Rattle.std.proofs.Common.{◌≡◌, ◌<◌, ℕ, Some, None, slice_index_or, arith, refl}
use Rattle.ob_tables.proofs.SpellingLaws.{reads_are, no_mark}
use Rattle.ob_tables.proofs.decode.read_parts.Goals as goal

pub returns-in_err-ranks : goal.returns-in_err-ranks
returns-in_err-ranks c = rw c.from_residual.ensures (λ v s. no_mark c.args.p.now c.args.bytes.now v c.in_err-ranks.ensures s)

pub returns : goal.returns
returns c =
    let keys_low : (j k : ℕ) → slice_index_or c.read_keys.result.items j None ≡ Some k → k < 4294967295 = c.read_keys.ensures.low in
    reads_are c.args.p.now c.args.bytes.now _ (λ i. omega (arith, c.type_inv.bytes i)) c.requires
    (record { keys = c.read_keys.ensures.many; ranks = c.in_ok-ranks.ensures.1; used = c.in_ok-ranks.ensures.2 })
    (record { generation = c.u64_at.type_inv; base = c.u64_at-2.type_inv; keys = keys_low })
    (omega (arith, c.if-home-gt1.false)) refl c.u64_at.ensures c.u64_at-2.ensures c.read_keys.ensures.spelled c.in_ok-ranks.ensures.0
