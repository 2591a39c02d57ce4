use Rattle.std.proofs.Common.{◌≡◌, ℕ, ◌+◌, ◌≤◌, ◌==◌, ◌&&◌, if◌then◌else◌, take, is_some, None}
use Rattle.ob_order.specs.Works as works
use Rattle.ob_order.specs.Order.{count_below}
use Rattle.ob_key_versions.specs.Tables.{link_at, has_links, SameBases, SameReaders, KeepsChainRoom}
use Rattle.ob_key_versions.proofs.unlink.unlink.Given as goal

-- what the operations so far wrote has gone
abbrev pub invariant-loop-op : goal.invariant-loop-op
invariant-loop-op l =
    ((k u : ℕ) → link_at l.table k u ≡ (if (l.t == u) && is_some (works.last_write (take l.op-index l.ops) k) then None else link_at l.fn.table k u))
    × (count_below (has_links l.fn.table) l.keys ≡ count_below (has_links l.table) l.keys + l.lost)
    × (l.lost ≤ l.op-index)
    × SameBases l.fn.table l.table
    × KeepsChainRoom l.fn.table l.table
    × SameReaders l.fn.table l.table
