use Rattle.std.proofs.Common.{◌<◌, [], arith, ap, ◌∙◌, List, ℕ, length, get_or}
use Rattle.std.specs.FinMap as finite
use Rattle.ob_base.specs.LittleEndian.{with_part}
use Rattle.ob_tables.specs.Spelling.{row_bytes}
use Rattle.ob_tables.proofs.TextLaws.{row_width, row_is_of}
use Rattle.ob_check.specs.Fields.{row_place}
use Rattle.ob_check.proofs.SpellLaws.{items_more, items_all}
use Rattle.ob_check.proofs.spell.put_rows.Goals as goal

pub loop-i-preserved : goal.loop-i-preserved
loop-i-preserved c =
    let rows = finite.entries c.args.stash.now.rows in
    let within : c.loop-i.i < length rows = omega (arith, c.len-i-end.ensures, finite.len-entries c.args.stash.now.rows, c.loop-i-test.true) in
    c.put.ensures ∙ ap (λ (x : List ℕ). with_part x c.row_place.result c.row_bytes.result) c.loop-i.invariant
    ∙ items_more row_bytes 69 (0, []) c.args.out.now (row_place c.args.p.now 0) rows c.loop-i.i c.row_place.result c.row_bytes.result within
    (λ i lt. row_width (get_or rows i (0, [])) (c.requires.short (get_or rows i (0, [])).0 (get_or rows i (0, [])).1 (row_is_of c.args.stash.now.rows i lt)))
    (omega (arith, c.row_place.ensures.place)) (omega (arith, c.row_place.ensures.within, c.requires.long)) (c.row_bytes.ensures ∙ ap row_bytes c.row-key.ensures)

pub returns : goal.returns
returns c =
    let rows = finite.entries c.args.stash.now.rows in
    c.loop-i.invariant ∙ items_all row_bytes 69 (0, []) c.args.out.now (row_place c.args.p.now 0) rows c.loop-i.i (omega (arith, c.len-i-end.ensures, finite.len-entries c.args.stash.now.rows))
