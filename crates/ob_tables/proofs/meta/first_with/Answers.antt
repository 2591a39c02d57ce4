use Rattle.std.proofs.Common.{None, slice_index_or, length, sym, ◌∙◌, add-one, arith}
use Rattle.ob_tables.specs.Version.{is_key}
use Rattle.ob_tables.proofs.Counting.{find-range_more, find-range_at}
use Rattle.ob_tables.proofs.meta.first_with.Goals as goal

pub returns-then-is_key : goal.returns-then-is_key
returns-then-is_key c = sym (find-range_at (λ j. is_key c.args.key (slice_index_or c.args.keys.now j None)) 0 c.loop-j.j (length c.args.keys.now) c.loop-j.j (omega arith) (omega arith) c.loop-j.invariant (sym c.is_key.ensures ∙ c.if-is_key.true))

pub loop-j-preserved : goal.loop-j-preserved
loop-j-preserved c = rw add-one (find-range_more (λ j. is_key c.args.key (slice_index_or c.args.keys.now j None)) 0 c.loop-j.j c.loop-j.j (omega arith) c.loop-j.invariant (sym c.is_key.ensures ∙ c.if-is_key.false))
