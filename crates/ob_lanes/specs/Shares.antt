-- How lanes share the cells of a phase.
use Rattle.std.specs.Prelude.{◌≡◌, ◌<◌, ◌≤◌, ◌+◌, ℕ, List, [], ◌∷◌, length, map, All, slice_index_or, Option}
use Rattle.std.specs.List.{flat_map}
use Rattle.ob_store.specs.declared.event.Event.{Event}
use Rattle.ob_store.specs.declared.event.Event.TheVariants.{Read}
use Rattle.ob_store.specs.Calls.{Notes}
use Rattle.ob_claims.specs.ClaimRule.{times}

-- places that rise, the first one at this or above
abbrev pub RiseFrom : ℕ → List ℕ → Type 0
RiseFrom least [] = Unit {0}
RiseFrom least (place ∷ places) = (least ≤ place) × RiseFrom (place + 1) places

-- the reads of the cells at these places
abbrev pub reads_at : List ℕ → List ℕ → List Event
reads_at cells places = map (λ p. Read (slice_index_or cells p 0)) places

-- the places of all shares, one share behind another
abbrev pub all_places : List (List ℕ) → List ℕ
all_places shares = flat_map (λ share. share) shares

-- Each of these cells was read once, by one of at most so many lanes: each lane read those at the places of its share, which rise, and one lane's reads stand behind another's.
pub record AreShared (most : ℕ) (cells : List ℕ) (old new : Option (List Event)) : Type 0 where
  pub shares : List (List ℕ)
  pub few : length shares ≤ most
  pub rising : All (RiseFrom 0) shares
  pub within : All (λ share. All (λ p. p < length cells) share) shares
  pub once : (p : ℕ) → p < length cells → times p (all_places shares) ≡ 1
  pub seen : Notes (flat_map (reads_at cells) shares) old new
