-- Two stores that serve as one.
use Rattle.std.specs.Prelude.{◌≡◌, ◌⊎◌, ℕ, ◌+◌, ◌-◌, ◌*◌, ◌/◌, ◌%◌, ◌==◌, if◌then◌else◌, List, ◌∷◌, ◌++◌, Bool, false, Some}
use Rattle.std.specs.Borrow.{GName}
use Rattle.ob_store.specs.declared.event.Event.{Event}
use Rattle.ob_store.specs.Disk.{Clock, Disk}
use Rattle.ob_mirror.specs.Begun.{half_before}

-- the second half reads as the first
abbrev pub Alike : Disk → Disk → Type 0
Alike a b = (k : ℕ) → b.cells k ≡ a.cells k

-- They began alike, and no write has parted them since.
abbrev pub Together : Bool → Disk → Disk → Type 0
Together apart first second = (apart ≡ false) × Alike first second

-- halves that are together are alike, where both tell
abbrev pub Agree : Type 0 → Disk → Disk → Type 0
Agree together a b = together → a.tells → b.tells → Alike a b

-- the moments of the first half at the even parts, of the second at the odd ones
abbrev pub woven_moments : Clock → Clock → Clock
woven_moments a b part = if part % 2 == 0 then a (part / 2) else b (part / 2)

abbrev pub even_moments : Clock → Clock
even_moments t part = t (2 * part)

abbrev pub odd_moments : Clock → Clock
odd_moments t part = t (2 * part + 1)

-- Cells are told where both halves tell them and are together; what a crash leaves is what it leaves of either; the moments are
-- those of both. The calls are the mirror's own, whatever its halves tell of theirs, and its faults are those calls that it refused:
-- a read that the first half refused and the second served is none. Beside the references of both stands what they had told of their
-- calls when they were put together, so that who made the mirror knows that again too.
abbrev pub mirrored : GName → GName → Bool → (first second : Disk) → (made : List Event) → (failed : ℕ) → Disk → Disk → Disk
mirrored x y apart first second made failed a b = record {
  tells = Together apart first second × a.tells × b.tells;
  cells = a.cells;
  leaves = a.leaves × b.leaves;
  may_leave = λ c. a.may_leave c ⊎ b.may_leave c;
  moment = woven_moments a.moment b.moment;
  left_since = λ t c. a.left_since (even_moments t) c ⊎ b.left_since (odd_moments t) c;
  seen = Some made;
  out = a.out + (b.out - a.out);
  faults = failed;
  anchors = x ∷ y ∷ half_before first (half_before second (a.anchors ++ b.anchors));
}
