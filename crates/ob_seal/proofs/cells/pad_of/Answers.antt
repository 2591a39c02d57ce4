use Rattle.ob_seal.proofs.cells.pad_of.Goals as goal

pub returns : goal.returns
returns c =
    (c.next_pad.ensures c.args.seal_key.now c.args.generation c.args.number c.generator_at.ensures).0
