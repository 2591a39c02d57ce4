use Rattle.std.proofs.Common.{◌≡◌, take}
use Rattle.ob_order.specs.Works as works
use Rattle.ob_order.proofs.work.least_gone.Given as goal

abbrev pub invariant-loop-op : goal.invariant-loop-op
invariant-loop-op l = l.least ≡ works.least_source (works.is_gone l.list) (take l.op-index l.ops)
