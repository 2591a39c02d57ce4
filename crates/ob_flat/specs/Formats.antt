-- What a crash leaves while a store is formatted.
use Rattle.std.specs.Prelude.{◌⊎◌, ℕ, replicate, None}
use Rattle.ob_store.specs.Disk.{Disk, Image}
use Rattle.ob_store.specs.Calls.{Holds}
use Rattle.ob_seal.specs.declared.keys.Keys.{Keys}
use Rattle.ob_flat.specs.Rows.{row_cells}
use Rattle.ob_twin.specs.Keyed.{tagging}
use Rattle.ob_twin.specs.Register.{StandsAt}
use Rattle.ob_start.specs.Laying.{HasNoHead, IsTornHead}

-- a new store, but for its head, which may hold anything
pub record IsLaid (keys : Keys) (n : ℕ) (image : Image) : Type 0 where
  pub begun : StandsAt (tagging keys) 1 image 1
  pub epoch : StandsAt (tagging keys) 5 image 0
  pub rows : Holds 9 (row_cells keys 9 1 0 (replicate n None)) image

-- Until the first sync only the head is torn. From then on until the head is written the image is no store. Then all but the head
-- is made.
abbrev pub FormatLeaves : Keys → ℕ → Disk → Image → Type 0
FormatLeaves keys n old image = IsTornHead old image ⊎ HasNoHead image ⊎ IsLaid keys n image
