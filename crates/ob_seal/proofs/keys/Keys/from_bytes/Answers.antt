use Rattle.ob_seal.proofs.KeyLemmas.{three_parts}
use Rattle.ob_seal.proofs.keys.Keys.from_bytes.Goals as goal

pub returns : goal.returns
returns c = rw (c.part_at.ensures, c.part_at-2.ensures, c.part_at-3.ensures) (three_parts c.args.bytes.now c.told-bytes)
