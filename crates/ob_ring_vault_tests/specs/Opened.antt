-- For tests: what a vault holds behind an opening.
use Rattle.std.specs.Prelude.{◌-◌, false, length, None}
use Rattle.std.specs.Ordering.{nat_cmp}
use Rattle.ob_base.specs.declared.params.Params.{Params}
use Rattle.ob_serial.specs.Serial.{Map}
use Rattle.ob_serial.specs.Vaults.{VaultState}
use Rattle.ob_stand.specs.Stands.{RingStanding}

-- of a store that stood for this, with its map: its epoch, and the batches that have no record yet
abbrev pub opened_ring_at : Params → RingStanding → Map nat_cmp → VaultState
opened_ring_at p s content = record { batches = p.batches; epoch = s.epoch; content = content; left = p.batches - length s.records; spent = false; doubt = None }
