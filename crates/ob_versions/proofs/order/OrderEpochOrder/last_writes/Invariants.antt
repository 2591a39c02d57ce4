use Rattle.std.proofs.Common.{◌≡◌, ◌≤◌, map}
use Rattle.std.specs.Prelude.{vec_len, vec_capacity}
use Rattle.ob_order.specs.Works as works
use Rattle.ob_order.specs.Order as rules
use Rattle.ob_base.specs.Writes.{pair_of}
use Rattle.ob_versions.proofs.order.OrderEpochOrder.last_writes.Given as goal

-- the keys so far, and as many of them as have versions
abbrev pub invariant-loop-key : goal.invariant-loop-key
invariant-loop-key l = (map pair_of l.out.items ≡ works.last_writes l.key l.self.state.works) × (vec_len l.out ≡ rules.count_below (rules.is_written l.self.state.works) l.key) × (vec_capacity l.fn.out ≤ vec_capacity l.out)
