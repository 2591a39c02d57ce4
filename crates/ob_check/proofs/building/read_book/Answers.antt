use Rattle.std.proofs.Common.{◌+◌, None, arith, subst, sym, ap, ◌∙◌, List, Option, length}
use Rattle.std.proofs.lemmas.List.{length-replicate}
use Rattle.ob_tables.specs.declared.entry.Entry.{Entry}
use Rattle.ob_check.specs.Reading.{entry_in}
use Rattle.ob_check.proofs.BuildLaws.{Filled, filled_none, filled_more, filled_all}
use Rattle.ob_check.proofs.building.read_book.Goals as goal

pub loop-k-init : goal.loop-k-init
loop-k-init c = filled_none (entry_in c.args.bytes.now) None c.args.p.now.keys c.args.book.now (ap (λ (xs : List (Option Entry)). length xs) c.requires.none ∙ length-replicate {A = Option Entry} c.args.p.now.keys None)

pub loop-k-preserved : goal.loop-k-preserved
loop-k-preserved c =
    subst (λ (xs : List (Option Entry)). Filled (entry_in c.args.bytes.now) None c.args.p.now.keys (c.loop-k.k + 1) xs) (sym c.keep.ensures)
    (filled_more (entry_in c.args.bytes.now) None c.args.p.now.keys c.loop-k.k c.loop-k.book c.entry_in.result c.loop-k-test.true c.entry_in.ensures c.loop-k.invariant)

pub returns : goal.returns
returns c = filled_all (entry_in c.args.bytes.now) None c.args.p.now.keys c.loop-k.k c.loop-k.book (omega arith) c.loop-k.invariant
