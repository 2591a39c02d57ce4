use Rattle.std.proofs.Common.{◌∙◌, ap}
use Rattle.ob_tables.specs.Kept.{entry_at}
use Rattle.ob_ring.specs.Writing.{with_entry}
use Rattle.ob_ring.proofs.WriteLaws.{one_written}
use Rattle.ob_ring.proofs.writes.write_one.Goals as goal

pub returns-clause-writes : goal.returns-clause-writes
returns-clause-writes c =
    one_written c.args.p.now c.args.book.now c.keep.new.book c.args.metas.now c.drop_row.new.metas c.args.stash.now.rows c.set_row.new.stash.rows c.args.write.now c.args.own c.drop_row.result
    c.requires.book c.requires.own c.requires.key c.drop_row.ensures.found c.drop_row.ensures.taken c.keep.ensures.many
    (λ k. c.keep.ensures.entries k ∙ ap (λ e. with_entry (λ i. entry_at c.args.book.now i) c.args.write.now.key e k) c.entry_of.ensures) c.set_row.ensures.rows
