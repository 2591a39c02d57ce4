use Rattle.std.proofs.Common.{refl}
use Rattle.ob_wants.proofs.RowLaws.{bit_put}
use Rattle.ob_wants.proofs.rows.with_bit.Goals as goal

pub returns : goal.returns
returns c = bit_put c.args.word _ c.args.bit c.requires refl
