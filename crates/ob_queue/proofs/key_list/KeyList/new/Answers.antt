use Rattle.ob_queue.proofs.Once.{once_empty}
use Rattle.ob_queue.proofs.key_list.KeyList.new.Goals as goal

pub invariant_of-result : goal.invariant_of-result
invariant_of-result c = once_empty c.new-2.result.keys c.new.result.items c.new-2.ensures.empty c.new.ensures.items
