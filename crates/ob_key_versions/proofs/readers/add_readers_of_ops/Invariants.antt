use Rattle.std.proofs.Common.{◌≡◌, ℕ, ◌<◌, take, is_some, true}
use Rattle.ob_order.specs.Works as works
use Rattle.ob_key_versions.specs.Tables.{is_reader}
use Rattle.ob_key_versions.specs.Agendas.{has_ticket, Adds, IsReaderAbove}
use Rattle.ob_key_versions.proofs.readers.add_readers_of_ops.Given as goal

-- the readers of what the operations so far wrote are on the agenda
abbrev pub invariant-loop-op : goal.invariant-loop-op
invariant-loop-op l =
    ((k u : ℕ) → is_some (works.last_write (take l.op-index l.ops) k) ≡ true → is_reader l.table k u ≡ true → l.t < u → has_ticket l.agenda.tickets u ≡ true)
    × Adds l.fn.agenda l.agenda (IsReaderAbove l.table l.t)
