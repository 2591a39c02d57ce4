use Rattle.std.proofs.Common.{[], ◌∷◌}
use Rattle.ob_store.specs.declared.event.Event.TheVariants.{Write}
use Rattle.ob_mirror.proofs.Alone.{follows_write}
use Rattle.ob_mirror.proofs.Tells.{follows_on}
use Rattle.ob_mirror.proofs.halves.HalvesStore.write.Goals as goal

pub invariant_of-self-clause-follows : goal.invariant_of-self-clause-follows
invariant_of-self-clause-follows g c =
    follows_on c.args.self.now.made.events (Write c.args.cell ∷ []) c.noted-self.result.events _ _ _ _ _ _ c.noted-self.ensures c.args.self.now.follows (follows_write c.args.cell c.args.bytes.now c.write_both.result _ _ _ _ c.write_both.ensures)

pub invariant_of-self-in-Err-clause-follows : goal.invariant_of-self-in-Err-clause-follows
invariant_of-self-in-Err-clause-follows g c =
    follows_on c.args.self.now.made.events (Write c.args.cell ∷ []) c.noted-self.result.events _ _ _ _ _ _ c.noted-self.ensures c.args.self.now.follows (follows_write c.args.cell c.args.bytes.now c.write_both.result _ _ _ _ c.write_both.ensures)
