-- What each half of a mirror is alone.
use Rattle.std.specs.Prelude.{◌≡◌, ◌⊎◌, ℕ, List, [], ◌∷◌, ◌++◌, Result}
use Rattle.ob_base.specs.declared.fault.Failed.{Failed}
use Rattle.ob_store.specs.declared.event.Event.{Event}
use Rattle.ob_store.specs.declared.event.Event.TheVariants.{Write, Sync}
use Rattle.ob_store.specs.declared.store.Store.{Ghosts}
use Rattle.ob_store.specs.Disk.{Disk, Image}
use Rattle.ob_mirror.specs.declared.lane.MirrorLane.{MirrorLane}
use Rattle.ob_mirror.specs.Asked.{IsAbsorbed, IsMadeSure, IsCellWritten}
use Rattle.ob_mirror.specs.Both.{AreAsked}
use Rattle.ob_mirror.specs.Lanes.{AreLanesMade}
use Rattle.ob_mirror.specs.Telling.{Follows, LaneTells}

-- A crash leaves of either half alone, now and at any moment since an earlier one, what it leaves of the mirror, and of the mirror
-- nothing else; and what the mirror tells of its cells each half reads.
pub record EachStands (a c b d : Disk) (old new : Disk) : Type 0 where
  pub first : (image : Image) → c.may_leave image → new.may_leave image
  pub second : (image : Image) → d.may_leave image → new.may_leave image
  pub first_since : (image : Image) → c.left_since a.moment image → new.left_since old.moment image
  pub second_since : (image : Image) → d.left_since b.moment image → new.left_since old.moment image
  pub no_other : (image : Image) → new.left_since old.moment image → c.left_since a.moment image ⊎ d.left_since b.moment image
  pub reads : new.tells → (cell : ℕ) → (c.cells cell ≡ new.cells cell) × (d.cells cell ≡ new.cells cell)

-- So it is from call to call of a mirror of any two stores, and of calls one behind another.
pub record HalvesFollow {S T L M : Type 0} (one : Ghosts S L) (two : Ghosts T M) : Type 0 where
  pub none : (a : S) (b : T) → Follows [] (one.disk a) (one.disk a) (two.disk b) (two.disk b)
  pub then : (made more : List Event) (a c e : S) (b d f : T) → Follows made (one.disk a) (one.disk c) (two.disk b) (two.disk d) → Follows more (one.disk c) (one.disk e) (two.disk d) (two.disk f) → Follows (made ++ more) (one.disk a) (one.disk e) (two.disk b) (two.disk f)
  pub lane : (a c : S) (b d : T) (result : Result (MirrorLane S T L M one two) Failed) → AreLanesMade one.lane_seen one.lane_faults two.lane_seen two.lane_faults one.disk two.disk a c b d result → Follows [] (one.disk a) (one.disk c) (two.disk b) (two.disk d)
  pub absorb : (reads : List Event) (first : L) (second : M) (a c : S) (b d : T) → LaneTells reads (one.lane_seen first) (two.lane_seen second) (one.lane_faults first) → IsAbsorbed one.lane_seen one.lane_faults first (one.disk a) (one.disk c) → IsAbsorbed two.lane_seen two.lane_faults second (two.disk b) (two.disk d) → Follows reads (one.disk a) (one.disk c) (two.disk b) (two.disk d)
  pub write : (cell : ℕ) (bytes : List ℕ) (result : Result (Unit {0}) Failed) (a c : S) (b d : T) → AreAsked (IsCellWritten cell bytes) (one.disk a) (one.disk c) (two.disk b) (two.disk d) result → Follows (Write cell ∷ []) (one.disk a) (one.disk c) (two.disk b) (two.disk d)
  pub sync : (result : Result (Unit {0}) Failed) (a c : S) (b d : T) → AreAsked IsMadeSure (one.disk a) (one.disk c) (two.disk b) (two.disk d) result → Follows (Sync ∷ []) (one.disk a) (one.disk c) (two.disk b) (two.disk d)
