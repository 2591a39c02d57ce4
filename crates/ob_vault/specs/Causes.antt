-- Why a vault over a ring store refuses a call, besides its store.
use Rattle.std.specs.Prelude.{ℕ, suc, ◌≡◌, ◌⊎◌, ◌+◌, ◌*◌, ◌^◌, ◌<◌, ◌≤◌, List, length, Option, None, Some}
use Rattle.ob_base.specs.Layout.{checkpoint_cells, record_cells}
use Rattle.ob_base.specs.Tree.{buckets, width}
use Rattle.ob_base.specs.declared.fault.Damaged.{Damaged}
use Rattle.ob_base.specs.declared.params.Params.{Params}
use Rattle.ob_tables.specs.Content.{Obeys}
use Rattle.ob_end.specs.EndRuns.{HasWords, IsWornForEnd, rows_ended}
use Rattle.ob_end.specs.Lifts.{IsLiftDamage}
use Rattle.ob_fetch.specs.Fetches.{words_since}
use Rattle.ob_log.specs.Logs.{BatchRecord}
use Rattle.ob_recover.specs.Repeats.{IsBatchDamage, record_of}
use Rattle.ob_seal.specs.declared.keys.Keys.{Keys}
use Rattle.ob_serial.specs.Vaults.{End, Fetch, VaultCall}
use Rattle.ob_store.specs.Disk.{Image}
use Rattle.ob_vault.specs.Hidden.{RingHidden, table_hidden, writes_hidden}

-- ---- numbers

-- the most words that an epoch draws: for each place of its batches, for its writes, and for each slot of the tree
abbrev pub words_an_epoch : Params → ℕ
words_an_epoch p = p.batches * p.places + (p.writes + buckets p * width p)

-- the most seals that it makes: of its records, of each slot of the tree, and of a checkpoint
abbrev pub seals_an_epoch : Params → ℕ
seals_an_epoch p = p.batches * record_cells p + (buckets p * width p + checkpoint_cells p)

-- Behind so many epochs of a run that began behind this one: there is no next number; or not the words, or not the seals, of one epoch
-- more.
abbrev pub IsRingWorn : Params → (epoch n : ℕ) → Type 0
IsRingWorn p epoch n = (suc (epoch + n) ≡ 2 ^ 62) ⊎ ((2 ^ 62 < suc n * words_an_epoch p) ⊎ (2 ^ 62 < suc n * seals_an_epoch p))

-- neither the generation, nor the epochs, nor the words, nor the seals come to their end
abbrev pub RingLasts : Params → (generation epoch n : ℕ) → Type 0
RingLasts p generation epoch n = (suc generation < 2 ^ 62) × (suc (epoch + n) < 2 ^ 62) × (suc n * words_an_epoch p ≤ 2 ^ 62) × (suc n * seals_an_epoch p ≤ 2 ^ 62)

-- ---- a call that was refused, from what is hidden, where a tape has then given these words

module _ (p : Params) (h : RingHidden) where
  -- Too few numbers are left for it: for a batch words, one for each place, or seals, one for each cell of its record; for an end epochs, or
  -- else words, or else, where the stash isn't too full, seals.
  abbrev pub IsCallWorn : Option VaultCall → (words : List ℕ) → Type 0
  IsCallWorn None words = ⊥
  IsCallWorn (Some (Fetch asks)) words = (2 ^ 62 < length h.words + p.places) ⊎ (2 ^ 62 < h.seals + record_cells p)
  IsCallWorn (Some (End writes)) words = IsWornForEnd p (table_hidden p h) h.epoch (length h.words) h.seals (writes_hidden p h writes words)

  -- It is an end that would leave so many rows in the stash, more than that may keep.
  abbrev pub IsStashFull : Option VaultCall → (words : List ℕ) → (rows : ℕ) → Type 0
  IsStashFull None words rows = ⊥
  IsStashFull (Some (Fetch asks)) words rows = ⊥
  IsStashFull (Some (End writes)) words rows = HasWords p (table_hidden p h) h.epoch (length h.words)
      × (rows ≡ rows_ended p (table_hidden p h) (writes_hidden p h writes words)) × (p.room < rows_ended p (table_hidden p h) (writes_hidden p h writes words))

-- ---- slots

-- the record of the next batch, which asks for these keys and has drawn the last of these words
abbrev pub record_hidden : RingHidden → List (Option ℕ) → (words : List ℕ) → BatchRecord
record_hidden h asks words = record_of (length h.records) h.seals h.generation (length h.words) asks (words_since h.words words)

-- What is damaged of what a batch reads, or of an end's lifts: the first slot, by its tag or seal, or else the first row.
abbrev pub IsReadDamage : Keys → Params → Image → RingHidden → Option VaultCall → (words : List ℕ) → Damaged → Type 0
IsReadDamage keys p image h None words damaged = ⊥
IsReadDamage keys p image h (Some (Fetch asks)) words damaged = IsBatchDamage keys p (h.content).versions image (table_hidden p h) (record_hidden h asks words) damaged
IsReadDamage keys p image h (Some (End writes)) words damaged = IsLiftDamage keys p (h.content).versions image (table_hidden p h) damaged

-- In this image that is damaged so of what the call that was refused reads, from what is hidden.
pub record IsSlotDamage (keys : Keys) (p : Params) (image : Image) (h : RingHidden) (call : Option VaultCall) (words : List ℕ) (damaged : Damaged) : Type 0 where
  pub obeys : Obeys p h.content
  pub read : IsReadDamage keys p image h call words damaged
