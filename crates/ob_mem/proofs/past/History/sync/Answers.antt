use Rattle.ob_mem.proofs.Calls.{kept_sync}
use Rattle.ob_mem.proofs.past.History.sync.Goals as goal

pub invariant_of-self-2 : goal.invariant_of-self-2
invariant_of-self-2 c = kept_sync _ _ _ _ _ c.self.invariant c.in_ok-push.ensures.items
