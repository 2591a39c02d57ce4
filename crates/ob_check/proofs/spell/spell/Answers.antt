use Rattle.std.proofs.Common.{◌∙◌, ap, arith}
use Rattle.std.specs.Int.{w32, to_le_bytes}
use Rattle.ob_base.specs.LittleEndian.{with_part}
use Rattle.ob_tables.specs.Content.{content_of}
use Rattle.std.specs.Prelude.{replicate}
use Rattle.ob_check.specs.Fields.{count_place}
use Rattle.ob_check.proofs.PlaceLaws.{numbers_within}
use Rattle.ob_check.proofs.SpellLaws.{spelled}
use Rattle.ob_check.proofs.spell.spell.Goals as goal

pub set_u64-requires : goal.set_u64-requires
set_u64-requires c = omega (arith, numbers_within c.args.p.now, c.requires.long, c.clear.auto.out)

pub set_u64-requires-2 : goal.set_u64-requires-2
set_u64-requires-2 c = omega (arith, numbers_within c.args.p.now, c.requires.long, c.clear.auto.out, c.set_u64.auto.bytes)

pub returns : goal.returns
returns c =
    spelled c.args.p.now c.args.epoch (content_of c.args.tables.now) c.clear.new.out c.set_u64.new.bytes c.set_u64-2.new.bytes c.put_book.new.out c.put_metas.new.out c.set_u32.new.bytes c.put_rows.new.out c.requires.obeys
    (c.clear.ensures ∙ ap (λ n. replicate n 0) c.requires.long) c.set_u64.ensures c.set_u64-2.ensures c.put_book.ensures c.put_metas.ensures
    (c.set_u32.ensures ∙ ap (λ n. with_part c.put_metas.new.out n (to_le_bytes w32 c.len.result)) c.count_place.ensures.place ∙ ap (λ n. with_part c.put_metas.new.out (count_place c.args.p.now) (to_le_bytes w32 n)) c.len.ensures)
    c.put_rows.ensures
