-- The reads of a batch, where several lanes share them.
use Rattle.std.specs.Prelude.{ℕ, ◌<◌, ◌≤◌, ◌==◌, List, length, filter, map, slice_index, Option}
use Rattle.std.specs.List.{flat_map}
use Rattle.ob_base.specs.Tree.{below}
use Rattle.ob_store.specs.declared.event.Event.{Event}
use Rattle.ob_store.specs.declared.event.Event.TheVariants.{Read}
use Rattle.ob_store.specs.Calls.{Notes}

-- the reads of one lane, where this says which lane makes each: it makes its own in order
abbrev pub reads_of_lane : (ℕ → ℕ) → List ℕ → ℕ → List Event
reads_of_lane lane_of cells lane = map (λ i. Read (slice_index cells i)) (filter (λ i. lane_of i == lane) (below (length cells)))

-- the reads of these lanes, one lane's behind another's
abbrev pub reads_of_lanes : ℕ → (ℕ → ℕ) → List ℕ → List Event
reads_of_lanes lanes lane_of cells = flat_map (reads_of_lane lane_of cells) (below lanes)

-- Each of these cells was read once, by one of at most so many lanes.
pub record ReadByLanes (most : ℕ) (cells : List ℕ) (old new : Option (List Event)) : Type 0 where
  pub lanes : ℕ
  pub few : lanes ≤ most
  pub lane_of : ℕ → ℕ
  pub within : (i : ℕ) → i < length cells → lane_of i < lanes
  pub seen : Notes (reads_of_lanes lanes lane_of cells) old new
