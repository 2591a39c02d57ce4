use Rattle.std.proofs.Common.{[], ◌∷◌}
use Rattle.ob_store.specs.declared.event.Event.TheVariants.{Sync}
use Rattle.ob_mirror.proofs.Alone.{follows_sync}
use Rattle.ob_mirror.proofs.Tells.{follows_on}
use Rattle.ob_mirror.proofs.halves.HalvesStore.sync.Goals as goal

pub invariant_of-self-clause-follows : goal.invariant_of-self-clause-follows
invariant_of-self-clause-follows g c =
    follows_on c.args.self.now.made.events (Sync ∷ []) c.noted-self.result.events _ _ _ _ _ _ c.noted-self.ensures c.args.self.now.follows (follows_sync c.sync_both.result _ _ _ _ c.sync_both.ensures)

pub invariant_of-self-in-Err-clause-follows : goal.invariant_of-self-in-Err-clause-follows
invariant_of-self-in-Err-clause-follows g c =
    follows_on c.args.self.now.made.events (Sync ∷ []) c.noted-self.result.events _ _ _ _ _ _ c.noted-self.ensures c.args.self.now.follows (follows_sync c.sync_both.result _ _ _ _ c.sync_both.ensures)
