-- What an image is read from, and the cells that an end may write.
use Rattle.std.specs.Prelude.{◌≡◌, ◌⊎◌, ◌<◌, ◌≤◌, ℕ, suc, ◌+◌, ◌-◌, ◌%◌, false, List, length}
use Rattle.ob_base.specs.declared.params.Params.{Params}
use Rattle.ob_base.specs.Tree.{buckets, width}
use Rattle.ob_base.specs.Layout.{Lies, LogArea, CheckArea, record_cells, log_cell, log_gate, slot_cell}
use Rattle.ob_store.specs.Disk.{Image}
use Rattle.ob_seal.specs.declared.keys.Keys.{Keys}
use Rattle.ob_log.specs.Logs.{BatchRecord, OpenRecords}
use Rattle.ob_tables.specs.Version.{used_at}
use Rattle.ob_tables.specs.Buckets.{version_at}
use Rattle.ob_tables.specs.Content.{Content, Obeys}
use Rattle.ob_stand.specs.Stands.{RingStanding, AreKnown, HoldsRest, Stands, cell_at}

-- ---- what is read

-- the two images have the same four cells from this one on
abbrev pub SameRegister : ℕ → Image → Image → Type 0
SameRegister first a b = (c : ℕ) → first ≤ c → c < first + 4 → a c ≡ b c

-- they have the same gates in the epoch's log area, and the same bodies of so many batches
pub record SameLog (p : Params) (epoch many : ℕ) (a b : Image) : Type 0 where
  pub gates : (n : ℕ) → n < p.batches → a (log_gate p (epoch % 2) n) ≡ b (log_gate p (epoch % 2) n)
  pub bodies : (n i : ℕ) → n < many → i < record_cells p → a (log_cell p (epoch % 2) n i) ≡ b (log_cell p (epoch % 2) n i)

-- they have the same head, the same checkpoint in the epoch's area, and the same bytes for each index that wasn't shown
pub record SameRest (p : Params) (s : RingStanding) (a b : Image) : Type 0 where
  pub head : a 0 ≡ b 0
  pub checkpoint : (c : ℕ) → Lies p (CheckArea (s.epoch % 2)) c → a c ≡ b c
  pub slots : (u j : ℕ) → u < buckets p → j < width p → used_at (version_at s.content.versions u) j ≡ false
      → a (cell_at p u (version_at s.content.versions u) j) ≡ b (cell_at p u (version_at s.content.versions u) j)

-- the two images are the same where one that stands for this is read
pub record SameReads (p : Params) (s : RingStanding) (a b : Image) : Type 0 where
  pub generation : SameRegister 1 a b
  pub epoch : SameRegister 5 a b
  pub rest : SameRest p s a b
  pub log : SameLog p (suc s.epoch) (length s.records) a b

-- ---- what an end may write

-- a cell of a bucket's other home
pub record IsOtherHome (p : Params) (content : Content) (c : ℕ) : Type 0 where
  pub bucket : ℕ
  pub slot : ℕ
  pub bucket_low : bucket < buckets p
  pub slot_low : slot < width p
  pub is : c ≡ slot_cell p (1 - (version_at content.versions bucket).home) bucket slot

-- The cells that an image isn't read from that stands for the epoch: the log area of the epoch, the checkpoint area of the next one,
-- each bucket's other home.
abbrev pub IsSpare : Params → ℕ → Content → ℕ → Type 0
IsSpare p epoch content c = Lies p (LogArea (epoch % 2)) c ⊎ (Lies p (CheckArea (suc epoch % 2)) c ⊎ IsOtherHome p content c)

abbrev pub Spare : Params → RingStanding → ℕ → Type 0
Spare p s = IsSpare p s.epoch s.content

-- the two images differ in cells of that kind alone
abbrev pub SameButIn : (ℕ → Type 0) → Image → Image → Type 0
SameButIn kind a b = (c : ℕ) → (kind c → ⊥) → a c ≡ b c

-- ---- the laws

-- no spare cell is read
abbrev pub AgreeOffSpare : Type 0
AgreeOffSpare = (p : Params) (s : RingStanding) (a b : Image) → Obeys p s.content → length s.records ≤ p.batches → SameButIn (Spare p s) a b → SameReads p s a b

-- so images that differ in spare cells alone stand alike
abbrev pub StandsFrame : Type 0
StandsFrame = (keys : Keys) (p : Params) (s : RingStanding) (a b : Image) → SameReads p s a b → Stands keys p s b → Stands keys p s a

abbrev pub with_records : RingStanding → List BatchRecord → RingStanding
with_records s records = record { epoch = s.epoch; generation = s.generation; map = s.map; content = s.content; records = records }

-- with open records of its own an image holds the rest as the other does
abbrev pub FrameWith : Type 0
FrameWith = (keys : Keys) (p : Params) (s : RingStanding) (records : List BatchRecord) (a b : Image) → SameRest p s a b
    → OpenRecords keys p (suc s.epoch) records a → AreKnown records s.generation → HoldsRest keys p s b → HoldsRest keys p (with_records s records) a
