use Rattle.std.proofs.Common.{refl}
use Rattle.ob_seal.proofs.cells.generator_at.Goals as goal

pub returns : goal.returns
returns c =
    rw (c.set_word_pos.ensures, c.set_stream.ensures, c.from_seed-generator.ensures, c.from.ensures) refl
