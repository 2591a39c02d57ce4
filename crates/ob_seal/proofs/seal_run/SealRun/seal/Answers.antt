use Rattle.ob_seal.proofs.seal_run.SealRun.seal.Goals as goal

pub invariant_of-self : goal.invariant_of-self
invariant_of-self c =
    let sealer = c.self.inside.sealer in
    rw c.take-number.ensures.next (c.next_pad-pad.ensures sealer.keys.seal sealer.generation sealer.next c.self.invariant).1
