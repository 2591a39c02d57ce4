-- The room that the driver needs.
use Rattle.std.specs.Prelude.{◌≡◌, ◌≤◌, length, vec_capacity}
use Rattle.ob_base.specs.declared.params.Params.{Params}
use Rattle.ob_driver.specs.declared.room.Room.{Room}

-- it has places for a batch, and for an epoch's writes
pub record HasRoom (p : Params) (room : Room) : Type 0 where
  pub asks : length room.asks.items ≡ p.places
  pub found : length room.found.items ≡ p.places
  pub writes : p.writes ≤ vec_capacity room.writes
