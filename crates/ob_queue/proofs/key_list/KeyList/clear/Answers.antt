use Rattle.ob_queue.proofs.Once.{once_empty}
use Rattle.ob_queue.proofs.key_list.KeyList.clear.Goals as goal

pub invariant_of-self : goal.invariant_of-self
invariant_of-self c = once_empty c.clear-2.new.self.keys c.clear.new.self.items c.clear-2.ensures.empty c.clear.ensures.items
