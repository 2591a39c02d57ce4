use Rattle.std.proofs.Common.{None, arith, ap, ◌∙◌, List, ℕ}
use Rattle.ob_base.specs.LittleEndian.{with_part}
use Rattle.ob_tables.specs.Spelling.{entry_bytes}
use Rattle.ob_tables.proofs.TextLaws.{entry_width}
use Rattle.ob_check.proofs.SpellLaws.{items_more}
use Rattle.ob_check.proofs.spell.put_book.Goals as goal

pub loop-k-preserved : goal.loop-k-preserved
loop-k-preserved c =
    c.put.ensures ∙ ap (λ (x : List ℕ). with_part x c.entry_place.result c.entry_bytes.result) c.loop-k.invariant
    ∙ items_more entry_bytes 21 None c.args.out.now 16 c.args.book.now c.loop-k.k c.entry_place.result c.entry_bytes.result (omega (arith, c.requires.keys)) (λ i lt. entry_width _)
    (omega (arith, c.entry_place.ensures.place)) (omega (arith, c.entry_place.ensures.within, c.requires.long)) (c.entry_bytes.ensures ∙ ap entry_bytes c.get.ensures)
