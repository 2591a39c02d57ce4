use Rattle.ob_check.proofs.SpellLaws.{row_made}
use Rattle.ob_check.proofs.spell.row_bytes.Goals as goal

pub returns : goal.returns
returns c = row_made c.args.key c.args.value.now c.as_slice-bytes.result.now _ _ c.as_slice-bytes.ensures.bytes c.as_slice-bytes.ensures.few c.set_u32.ensures c.put.ensures
