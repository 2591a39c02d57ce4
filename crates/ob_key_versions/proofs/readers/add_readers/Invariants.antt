use Rattle.std.proofs.Common.{◌≡◌, ℕ, ◌<◌, ◌≤◌, true, ◌-◌}
use Rattle.ob_key_versions.specs.Tables.{is_reader}
use Rattle.ob_key_versions.specs.Agendas.{has_ticket, Adds, IsReaderAbove}
use Rattle.ob_key_versions.proofs.readers.add_readers.Given as goal

-- the readers up to here are on the agenda
abbrev pub invariant-loop-reader : goal.invariant-loop-reader
invariant-loop-reader l =
    (l.t ≤ l.at)
    × ((u : ℕ) → is_reader l.table l.key u ≡ true → l.t < u → u ≤ l.at → has_ticket l.agenda.tickets u ≡ true)
    × Adds l.fn.agenda l.agenda (IsReaderAbove l.table l.t)

abbrev pub decreases-loop-reader : goal.decreases-loop-reader
decreases-loop-reader l = l.fn.agenda.room - l.at
