-- A second half that was made from the first.
use Rattle.std.proofs.Common.{◌≡◌, ◌⊎◌, inl, inr, ◌≤◌, ◌<◌, ◌+◌, ◌-◌, ℕ, List, [], Option, Result, Ok, Err, OnOk, OnErr, sym, ◌∙◌, arith, take}
use Rattle.ob_base.specs.Causes.{Rose}
use Rattle.ob_base.specs.declared.fault.Failed.{Failed}
use Rattle.ob_store.specs.declared.event.Event.{Event}
use Rattle.ob_store.specs.Disk.{Disk}
use Rattle.ob_store.specs.Images.{Elapses, IsSynced, SameOff, Shrinks}
use Rattle.ob_store.specs.Calls.{AddsFaults, GoesOn, IsFailed, IsFreshLane, Keeps, Notes, NotesFirst, NotesLane, Serves}
use Rattle.ob_store.proofs.Events.{all_first}
use Rattle.ob_store.proofs.Keeping.{keeps_then, same_none, same_still}
use Rattle.ob_store.proofs.Lanes.{lane_noted}
use Rattle.ob_store.proofs.Serving.{goes_then, rose_later}
use Rattle.ob_mirror.specs.Joins.{HasCells, IsCopy, IsOnlyRead, NotesAsFar}

-- ---- the first half

pub only_read_one : (a b : Disk) → GoesOn a b → Keeps a b → Shrinks a b → Elapses a b → b.out ≤ a.out → IsOnlyRead a b
only_read_one a b goes keeps crash time out = record { goes = goes; keeps = keeps; passes = same_still a a b (same_none a) goes time crash keeps; out = out }

pub only_read_both : (a b c : Disk) → GoesOn a b → Keeps a b → Shrinks a b → Elapses a b → b.out ≤ a.out + 1 → GoesOn b c → Keeps b c → Shrinks b c → Elapses b c → c.out ≤ b.out - 1 → IsOnlyRead a c
only_read_both a b c goes keeps crash time out goes' keeps' crash' time' out' = record {
  goes = goes_then a b c goes goes';
  keeps = keeps_then a b c keeps keeps';
  passes = same_still a b c (same_still a a b (same_none a) goes time crash keeps) goes' time' crash' keeps';
  out = omega arith;
}

-- ---- events

pub none_as_far : (events : List Event) (old new : Option (List Event)) → Notes [] old new → NotesFirst events old new
none_as_far events old new none = (0, omega arith, none)

pub all_as_far : {T E : Type 0} (events : List Event) (old new : Option (List Event)) (r : Result T E) → Notes events old new → NotesAsFar events old new r
all_as_far events old new (Ok v) notes = notes
all_as_far events old new (Err e) notes = all_first events old new notes

-- ---- the second half

module _ (cells : ℕ) (a b c e f : Disk) (r : Result (Unit {0}) Failed) where
  -- copied from a to what was b and is c; then a is e, and c was synced and is f
  pub is_copy : HasCells cells a b c → GoesOn a e → Keeps a e → GoesOn b c → Serves IsFailed c f r → Keeps c f → (c.tells → OnOk r (IsSynced f)) → OnOk r (IsCopy cells e f)
  is_copy has goes keeps copied synced kept durable = on r synced durable
    where
      read : e.tells → f.tells → (k : ℕ) → k < cells → f.cells k ≡ e.cells k
      read one two k lt =
          let mid = synced.goes.told two in
          kept.cells mid k ∙ has (goes.told one) (copied.told mid) k lt ∙ sym (keeps.cells (goes.told one) k)

      on : (s : Result (Unit {0}) Failed) → Serves IsFailed c f s → (c.tells → OnOk s (IsSynced f)) → OnOk s (IsCopy cells e f)
      on (Ok v) served sure = record { reads = read; images = λ one two image left k lt. sure (synced.goes.told two) image left k ∙ read one two k lt }
      on (Err x) served sure = tt

pub tells_on : (b c f : Disk) (r : Result (Unit {0}) Failed) → (b.tells → c.tells) → Serves IsFailed c f r → OnOk r (b.tells → f.tells)
tells_on b c f (Ok v) first synced = λ t. synced.tells (first t)
tells_on b c f (Err e) first synced = tt

pub sync_cause : (P : Type 0) (b c f : Disk) (r : Result (Unit {0}) Failed) → GoesOn b c → Serves IsFailed c f r → OnErr r (P ⊎ Rose b.faults f.faults)
sync_cause P b c f (Ok v) goes synced = tt
sync_cause P b c f (Err e) goes synced = inr (rose_later b.faults c.faults f.faults goes.faults (synced.cause tt))

-- a lane that began with no fault has one, and is given back
pub lane_cause : (before made now lane after : ℕ) → before ≤ made → lane ≡ 0 → Rose lane after → made ≤ now → AddsFaults after made now → Rose before now
lane_cause before made now lane after le none rose on adds = omega arith

pub copy_cause : (before made now lane after : ℕ) (Q : Type 0) → before ≤ made → lane ≡ 0 → made ≤ now → AddsFaults after made now → Rose lane after ⊎ Q → Rose before now ⊎ Q
copy_cause before made now lane after Q le none on adds (inl rose) = inl (lane_cause before made now lane after le none rose on adds)
copy_cause before made now lane after Q le none on adds (inr q) = inr q

-- reads that may have been refused
pub read_cause : (before made now lane after : ℕ) (r : Result (Unit {0}) Failed) → before ≤ made → lane ≡ 0 → made ≤ now → AddsFaults after made now → OnErr r (Rose lane after) → OnErr r (Rose before now)
read_cause before made now lane after (Ok done) le none on adds rose = tt
read_cause before made now lane after (Err failed) le none on adds rose = lane_cause before made now lane after le none rose on adds

pub rest_on : (cells : ℕ) (b c f : Disk) → (b.tells → c.tells) → (b.tells → SameOff 0 cells c.cells b.cells) → Keeps c f → b.tells → SameOff 0 cells f.cells b.cells
rest_on cells b c f tells rest kept t k off = kept.cells (tells t) k ∙ rest t k off
