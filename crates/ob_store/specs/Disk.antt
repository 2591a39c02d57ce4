-- What a store tells of itself.
use Rattle.std.specs.Prelude.{◌≤◌, ℕ, List, [], Option, None}
use Rattle.std.specs.Borrow.{GName}
use Rattle.ob_store.specs.declared.event.Event.{Event}

-- the bytes of each cell
abbrev pub Image : Type 0
Image = ℕ → List ℕ

-- A moment: for each part of a store a number that doesn't fall, so that a store of two has the moments of both.
abbrev pub Clock : Type 0
Clock = ℕ → ℕ

abbrev pub NotAfter : Clock → Clock → Type 0
NotAfter t u = (part : ℕ) → t part ≤ u part

-- All that a store tells. One that tells no cells has `tells` empty; one that tells no images has `leaves`, `may_leave` and
-- `left_since` empty; one that tells no events has `None`.
pub record Disk : Type 1 where
  -- it tells what a read returns
  pub tells : Type 0
  -- what a read returns
  pub cells : Image
  -- it tells what a crash may leave
  pub leaves : Type 0
  -- what a crash now may leave
  pub may_leave : Image → Type 0
  -- the moment
  pub moment : Clock
  -- what a crash at some moment from that one on might have left
  pub left_since : Clock → Image → Type 0
  -- the calls so far, the oldest first
  pub seen : Option (List Event)
  -- how many lanes are out
  pub out : ℕ
  -- how often a call has failed
  pub faults : ℕ
  -- the references that the store holds, so that who lent one knows its value again after generic code
  pub anchors : List GName

-- a store that tells how often it failed, and no more
abbrev pub silent : ℕ → Disk
silent faults = record {
  tells = ⊥;
  cells = λ k. [];
  leaves = ⊥;
  may_leave = λ c. ⊥;
  moment = λ part. 0;
  left_since = λ t c. ⊥;
  seen = None;
  out = 0;
  faults = faults;
  anchors = [];
}

-- a store that tells what a read returns and how often it failed, and no more
abbrev pub bare : Image → ℕ → Disk
bare cells faults = record {
  tells = Unit {0};
  cells = cells;
  leaves = ⊥;
  may_leave = λ c. ⊥;
  moment = λ part. 0;
  left_since = λ t c. ⊥;
  seen = None;
  out = 0;
  faults = faults;
  anchors = [];
}
