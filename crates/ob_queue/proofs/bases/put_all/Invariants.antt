use Rattle.std.proofs.Common.{◌≡◌, ◌+◌, ◌≤◌, Some, map, take, nat_cmp}
use Rattle.std.specs.FinMap as finite
use Rattle.std.specs.HashMap.{hash_map_len, spare}
use Rattle.ob_order.specs.Order as rules
use Rattle.ob_queue.proofs.bases.put_all.Given as goal

-- the keys so far have their values, and there is room for the others
abbrev pub invariant-loop-i : goal.invariant-loop-i
invariant-loop-i l = (finite.from_entries {R = nat_cmp} l.bases.entries ≡ rules.delivered (finite.from_entries {R = nat_cmp} l.fn.bases.entries) (map Some (take l.i l.keys)) l.values) ×
    (hash_map_len l.fn.bases + spare l.fn.bases ≤ hash_map_len l.bases + spare l.bases) × (spare l.fn.bases ≤ spare l.bases + l.i)
