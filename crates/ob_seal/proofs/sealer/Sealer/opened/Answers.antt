use Rattle.std.proofs.Common.{arith}
use Rattle.ob_base.proofs.Spelled.{field64}
use Rattle.ob_seal.proofs.Spelling.{front_spelled}
use Rattle.ob_seal.proofs.sealer.Sealer.opened.Goals as goal

pub returns : goal.returns
returns c =
    let long = c.told-front in
    let first = field64 c.args.front.now 0 c.u64_at-generation.result c.fits-front (omega arith) c.u64_at-generation.ensures in
    let second = field64 c.args.front.now 8 c.u64_at-number.result c.fits-front (omega arith) c.u64_at-number.ensures in
    rw (← c.self.view_is, c.xored.ensures, c.part_at.ensures, c.pad_of-pad.ensures)
    (front_spelled c.self.inside.keys c.args.front.now c.u64_at-generation.result c.u64_at-number.result long first second)
