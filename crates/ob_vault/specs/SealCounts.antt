-- How many seals a call takes, by what is public of a ring store.
use Rattle.std.specs.Prelude.{◌≡◌, ◌+◌, ◌*◌, ℕ, filter, length}
use Rattle.ob_base.specs.Layout.{checkpoint_cells, record_cells}
use Rattle.ob_base.specs.Tree.{width}
use Rattle.ob_base.specs.declared.params.Params.{Params}
use Rattle.ob_tables.specs.Content.{Obeys}
use Rattle.ob_recover.specs.Known.{public_of_kept}
use Rattle.ob_schedule.specs.Paths.{by_falling_level}
use Rattle.ob_schedule.specs.Schedule.{Fills, Public, is_lifted_by_end}
use Rattle.ob_serial.specs.Vaults.{VaultCall}
use Rattle.ob_twin.specs.declared.gates.Gates.{Gates}
use Rattle.ob_vault.specs.Hidden.{RingDraws, RingHidden}
use Rattle.ob_vault.specs.Shapes.{Ends, Fetches, Shape, shape_of}

-- A batch takes one for each cell of its record; an end one for each slot of the buckets that it lifts, and one for each cell of its checkpoint.
abbrev pub seals_shown : Params → Public → Shape → ℕ
seals_shown p q Fetches = record_cells p
seals_shown p q Ends = length (filter (is_lifted_by_end p q) (by_falling_level (p.levels + 1))) * width p + checkpoint_cells p

-- By so many the count of seals goes on at each call that was answered. So which numbers are in the cells that it seals follows from what is
-- public, whatever the call asked for or wrote.
abbrev pub SealsArePublic : Type 0
SealsArePublic = (p : Params) (h behind : RingHidden) (epoch : ℕ) (gates : Gates) (call : VaultCall) (f : Fills) → Obeys p h.content → RingDraws p h call f behind
    → behind.seals ≡ h.seals + seals_shown p (public_of_kept p h.content h.records epoch gates) (shape_of call)
