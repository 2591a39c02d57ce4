use Rattle.std.proofs.Common.{length}
use Rattle.ob_versions.proofs.Pending.{Running, left_of}
use Rattle.ob_versions.proofs.cascade.abort_in.Given as goal

-- those up to some ticket have fallen, and the agenda has those that may fall above it
abbrev pub invariant-loop-next : goal.invariant-loop-next
invariant-loop-next l = Running l.fn.list.items l.t l.keys l.written l.list.items l.table l.agenda

abbrev pub decreases-loop-next : goal.decreases-loop-next
decreases-loop-next l = left_of (length l.fn.list.items) l.agenda.tickets
