-- A store right after its format: no key is present.
use Rattle.std.specs.Prelude.{◌≡◌, ◌≢◌, ◌<◌, ℕ, ◌+◌, ◌-◌, ◌*◌, false, if◌then◌else◌, nat_lt, List, [], ◌∷◌, length, map, replicate, slice_index_or}
use Rattle.std.specs.declared.option.Option.TheVariants.{None}
use Rattle.std.specs.FinMap as finite
use Rattle.ob_base.specs.declared.params.Params.{Params}
use Rattle.ob_base.specs.Tree.{buckets, width, below}
use Rattle.ob_base.specs.Layout.{check_cell, home_cells, log_gate, slot_cell}
use Rattle.ob_store.specs.Disk.{Image}
use Rattle.ob_seal.specs.declared.keys.Keys.{Keys}
use Rattle.ob_seal.specs.Pieces.{onward, piece}
use Rattle.ob_seal.specs.Seals.{sealed}
use Rattle.ob_twin.specs.Bodies.{body_of, open_gate}
use Rattle.ob_twin.specs.Keyed.{tagging}
use Rattle.ob_twin.specs.Register.{StandsAt}
use Rattle.ob_start.specs.Heads.{IsHead, head_cell}
use Rattle.ob_tables.specs.Version.{Version, AreRanks, EMPTY}
use Rattle.ob_tables.specs.Content.{Content}
use Rattle.ob_tables.specs.Spelling.{checkpoint_bytes, slot_bytes}
use Rattle.ob_stand.specs.Stands.{RingStanding, HoldsCheckpoint, Stands}

-- the slots of each bucket's indexes
abbrev pub Ranks : Type 0
Ranks = ℕ → List ℕ

-- the slots of the buckets take the first numbers of generation 1, one bucket behind the other
abbrev pub fresh_version : Params → Ranks → ℕ → Version
fresh_version p ranks u = record { home = 0; generation = 1; base = u * width p; keys = replicate p.real None; ranks = ranks u; used = replicate (width p) false }

abbrev pub fresh_content : Params → Ranks → Content
fresh_content p ranks = record { counter = 0; book = replicate p.keys None; versions = map (fresh_version p ranks) (below (buckets p)); rows = finite.empty }

abbrev pub fresh_standing : Params → Ranks → RingStanding
fresh_standing p ranks = record { epoch = 0; generation = 1; map = λ k. None; content = fresh_content p ranks; records = [] }

-- each bucket's indexes have its slots, one each
pub record AreRanked (p : Params) (ranks : Ranks) : Type 0 where
  pub many : (u : ℕ) → u < buckets p → length (ranks u) ≡ width p
  pub each : (u : ℕ) → u < buckets p → AreRanks (ranks u)

-- what a format leaves in the cells
pub record IsFormatOf (keys : Keys) (p : Params) (ranks : Ranks) (image : Image) : Type 0 where
  pub head : IsHead keys 1 p (image 0)
  pub generation : StandsAt (tagging keys) 1 image 1
  pub epoch : StandsAt (tagging keys) 5 image 0
  pub checkpoint : HoldsCheckpoint keys p 0 1 (fresh_content p ranks) image
  -- every slot has the bytes of no row
  pub slots : (u slot : ℕ) → u < buckets p → slot < width p → image (slot_cell p 0 u slot) ≡ sealed keys (slot_cell p 0 u slot) 1 (u * width p + slot) (slot_bytes EMPTY [])
  pub shut : (b : ℕ) → b < p.batches → image (log_gate p 1 b) ≢ open_gate

-- It stands for epoch 0 in generation 1, with no key and no record.
abbrev pub FormattedStands : Type 0
FormattedStands = (keys : Keys) (p : Params) (ranks : Ranks) (image : Image) → AreRanked p ranks → IsFormatOf keys p ranks image → Stands keys p (fresh_standing p ranks) image

-- ---- there is such an image

-- the head, and each register's number under an open gate
abbrev pub first_cells : Keys → Params → List (List ℕ)
first_cells keys p = head_cell keys 1 p ∷ [] ∷ [] ∷ body_of (tagging keys) 3 1 ∷ open_gate ∷ body_of (tagging keys) 5 0 ∷ open_gate ∷ [] ∷ [] ∷ []

-- empty logs, a checkpoint under the numbers behind those of the slots, and slots of no row
abbrev pub format_image : Keys → Params → Ranks → Image
format_image keys p ranks c =
    if nat_lt c 9 then slice_index_or (first_cells keys p) c []
    else if nat_lt c (check_cell p 0 0) then []
    else if nat_lt c (slot_cell p 0 0 0) then sealed keys c 1 (onward (home_cells p) (c - check_cell p 0 0)) (piece (c - check_cell p 0 0) (checkpoint_bytes p 0 (fresh_content p ranks)))
    else sealed keys c 1 (c - slot_cell p 0 0 0) (slot_bytes EMPTY [])

abbrev pub FormatsExist : Type 0
FormatsExist = (keys : Keys) (p : Params) (ranks : Ranks) → IsFormatOf keys p ranks (format_image keys p ranks)
