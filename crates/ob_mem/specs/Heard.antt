-- The events that a store in memory tells.
use Rattle.std.specs.Prelude.{ℕ, zero, suc, List, [], ◌∷◌, ◌++◌, Option, Some, None}
use Rattle.ob_store.specs.declared.event.Event.{Event}
use Rattle.ob_mem.specs.declared.log.Heard.{Heard}
use Rattle.ob_mem.specs.declared.log.Heard.TheVariants.{Call, Lane}

-- a lane's events stand where the lane was absorbed
abbrev pub heard_events : List Heard → List Event
heard_events [] = []
heard_events (Call event ∷ rest) = event ∷ heard_events rest
heard_events (Lane events ∷ rest) = events.items ++ heard_events rest

-- none once an event could not be kept
abbrev pub told : ℕ → List Event → Option (List Event)
told zero events = Some events
told (suc lost) events = None
