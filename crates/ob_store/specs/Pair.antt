-- Private: two stores that serve as one; the proof that they do is in proofs/Pairs.
use Rattle.std.specs.Prelude.{◌⊎◌, ◌+◌, ◌*◌, ◌/◌, ◌%◌, ◌==◌, ◌++◌, if◌then◌else◌, None}
use Rattle.ob_store.specs.Disk.{Clock, Disk}

-- the moments of the one at the even parts, of the other at the odd ones
abbrev pub weave : Clock → Clock → Clock
weave a b part = if part % 2 == 0 then a (part / 2) else b (part / 2)

abbrev pub evens : Clock → Clock
evens t part = t (2 * part)

abbrev pub odds : Clock → Clock
odds t part = t (2 * part + 1)

-- what a crash leaves is what it leaves of either
abbrev pub paired : Type 0 → Disk → Disk → Disk
paired tells a b = record {
  tells = tells;
  cells = a.cells;
  leaves = a.leaves × b.leaves;
  may_leave = λ c. a.may_leave c ⊎ b.may_leave c;
  moment = weave a.moment b.moment;
  left_since = λ t c. a.left_since (evens t) c ⊎ b.left_since (odds t) c;
  seen = None;
  out = a.out + b.out;
  faults = a.faults + b.faults;
  anchors = a.anchors ++ b.anchors;
}
