use Rattle.std.proofs.Common.{◌≡◌, ◌+◌, ◌-◌, suc, not, false, slice_index_or, length, sym, arith, rules}
use Rattle.ob_tables.proofs.Counting.{find-range_more, find-range_at}
use Rattle.ob_tables.proofs.meta.first_unused.Goals as goal

pub returns-then-not-used-j : goal.returns-then-not-used-j
returns-then-not-used-j c = sym (find-range_at (λ j. not (slice_index_or c.args.used.now j false)) c.args.from (c.loop-j.j - c.args.from) (length c.args.used.now - c.args.from) c.loop-j.j (omega arith) (omega arith) c.loop-j.invariant (search rules))

pub loop-j-preserved : goal.loop-j-preserved
loop-j-preserved c =
    let e : c.loop-j.j + 1 - c.args.from ≡ suc (c.loop-j.j - c.args.from) = omega arith in
    rw e (find-range_more (λ j. not (slice_index_or c.args.used.now j false)) c.args.from (c.loop-j.j - c.args.from) c.loop-j.j (omega arith) c.loop-j.invariant (search rules))
