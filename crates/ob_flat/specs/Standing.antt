-- What an image of a plain vault's store stands for.
use Rattle.std.specs.Prelude.{◌≡◌, ◌⊎◌, ◌+◌, ◌<◌, ◌≤◌, ℕ, List, length, slice_index_or, Option, None}
use Rattle.std.specs.Ordering.{nat_cmp}
use Rattle.std.specs.FinMap as finite
use Rattle.ob_base.specs.declared.params.Params.{Params}
use Rattle.ob_store.specs.Disk.{Disk, Image}
use Rattle.ob_seal.specs.declared.keys.Keys.{Keys}
use Rattle.ob_seal.specs.Pieces.{onward}
use Rattle.ob_twin.specs.Keyed.{tagging}
use Rattle.ob_twin.specs.Register.{StandsAt}
use Rattle.ob_serial.specs.Serial.{Map}
use Rattle.ob_serial.specs.Vaults.{Standing}
use Rattle.ob_flat.specs.Rows.{IsRow}
use Rattle.ob_flat.specs.Places.{area_of}
use Rattle.ob_flat.specs.Heads.{IsHead}

-- what each key below a number has, as a map
pub record IsMapOf (values : List (Option (List ℕ))) (m : Map nat_cmp) : Type 0 where
  pub below : (key : ℕ) → key < length values → finite.get m key ≡ slice_index_or values key None
  pub above : (key : ℕ) → length values ≤ key → finite.get m key ≡ None

-- so many rows from a cell on have the map's values, all under seals of one generation, in a row
pub record HasSealedRows (keys : Keys) (base n : ℕ) (image : Image) (content : Map nat_cmp) : Type 0 where
  pub generation : ℕ
  pub first : ℕ
  pub each : (key : ℕ) → key < n → IsRow keys (base + key) generation (onward first key) (image (base + key)) (finite.get content key)

-- The head is that of the parameters, the registers stand at this generation and at this epoch, and the rows of the epoch's area
-- are the map's, which has no other key.
pub record StandsFlat (keys : Keys) (p : Params) (generation : ℕ) (image : Image) (at : Standing) : Type 0 where
  pub head : IsHead keys p (image 0)
  pub begun : StandsAt (tagging keys) 1 image generation
  pub epoch : StandsAt (tagging keys) 5 image at.epoch
  pub rows : HasSealedRows keys (area_of p.keys at.epoch) p.keys image at.content
  pub no_more : (key : ℕ) → p.keys ≤ key → finite.get at.content key ≡ None

-- the image stands for this, at some generation
abbrev pub Stands : Keys → Params → Image → Standing → Type 0
Stands keys p image at = (g : ℕ) × StandsFlat keys p g image at

-- each image that a crash may leave stands for something
abbrev pub AllStand : Keys → Params → Disk → Type 0
AllStand keys p disk = (c : Image) → disk.may_leave c → (at : Standing) × Stands keys p c at

-- The image stands for what the cells stood for, or an image that a crash might have left, and its generation is no lower.
pub record StandsAsBefore (keys : Keys) (p : Params) (old : Disk) (c : Image) : Type 0 where
  pub at : Standing
  pub generation : ℕ
  pub stands : StandsFlat keys p generation c at
  pub earlier : ℕ
  pub no_lower : earlier ≤ generation
  pub was : StandsFlat keys p earlier old.cells at ⊎ ((d : Image) × old.may_leave d × StandsFlat keys p earlier d at)
