-- The read batches that a log area keeps: each has its record's body, and a gate behind it.
use Rattle.std.specs.Prelude.{◌≡◌, ◌≢◌, ◌<◌, ◌≤◌, ℕ, ◌%◌, ◌^◌, List, [], ◌∷◌, ◌++◌, length, slice_index_or, Option, Some, None}
use Rattle.std.specs.Int.{w32, to_le_bytes}
use Rattle.ob_base.specs.declared.params.Params.{Params}
use Rattle.ob_base.specs.Layout.{record_cells, log_cell, log_gate}
use Rattle.ob_seal.specs.declared.keys.Keys.{Keys}
use Rattle.ob_seal.specs.Pieces.{onward, piece}
use Rattle.ob_seal.specs.Seals.{le64, sealed}
use Rattle.ob_store.specs.Disk.{Image}
use Rattle.ob_twin.specs.Bodies.{open_gate}

-- The record of a batch: its number in the epoch, the identity of its first cell's seal, the place of its first word in that
-- generation's tape, and for each place the key that it asks for, or none for a pad, and its word.
pub record BatchRecord : Type 0 where
  pub batch : ℕ
  pub generation : ℕ
  pub number : ℕ
  pub first : ℕ
  pub asks : List (Option ℕ)
  pub words : List ℕ

abbrev pub le32 : ℕ → List ℕ
le32 n = to_le_bytes w32 n

-- a pad is 0 and 0, a key 1 and the key
abbrev pub ask_bytes : Option ℕ → List ℕ
ask_bytes None = 0 ∷ le32 0
ask_bytes (Some key) = 1 ∷ le32 key

-- the places, one behind the other
abbrev pub places_bytes : List (Option ℕ) → List ℕ → List ℕ
places_bytes [] words = []
places_bytes (ask ∷ asks) [] = []
places_bytes (ask ∷ asks) (word ∷ words) = ask_bytes ask ++ (le64 word ++ places_bytes asks words)

unfoldable pub record_bytes : ℕ → BatchRecord → List ℕ
record_bytes epoch r = le64 epoch ++ (le32 r.batch ++ (le64 r.first ++ places_bytes r.asks r.words))

abbrev pub nothing : BatchRecord
nothing = record { batch = 0; generation = 0; number = 0; first = 0; asks = []; words = [] }

abbrev pub record_at : List BatchRecord → ℕ → BatchRecord
record_at rs b = slice_index_or rs b nothing

abbrev pub asked_key_at : BatchRecord → ℕ → Option ℕ
asked_key_at r i = slice_index_or r.asks i None

-- It is the record of this batch, its numbers can be spelled, and its keys are keys, each at one place at most.
pub record RecordObeys (p : Params) (b : ℕ) (r : BatchRecord) : Type 0 where
  pub batch_is : r.batch ≡ b
  pub generation_fits : r.generation < 2 ^ 64
  pub number_fits : r.number < 2 ^ 64
  pub first_fits : r.first < 2 ^ 64
  pub asks_many : length r.asks ≡ p.places
  pub words_many : length r.words ≡ p.places
  pub words_fit : (i : ℕ) → slice_index_or r.words i 0 < 2 ^ 64
  pub keys_low : (i k : ℕ) → asked_key_at r i ≡ Some k → k < p.keys
  pub keys_apart : (i j k : ℕ) → asked_key_at r i ≡ Some k → asked_key_at r j ≡ Some k → i ≡ j

-- The part of it that every accepted record has: the number of its batch, as many places as a batch has, and keys that are keys, each at
-- one place at most. (Its other numbers fit, since they were read.)
pub record RecordFits (p : Params) (b : ℕ) (r : BatchRecord) : Type 0 where
  pub batch_is : r.batch ≡ b
  pub asks_many : length r.asks ≡ p.places
  pub words_many : length r.words ≡ p.places
  pub keys_low : (i k : ℕ) → asked_key_at r i ≡ Some k → k < p.keys
  pub keys_apart : (i j k : ℕ) → asked_key_at r i ≡ Some k → asked_key_at r j ≡ Some k → i ≡ j

-- at most as many as an epoch has batches, and each fits its own
pub record RecordsFit (p : Params) (rs : List BatchRecord) : Type 0 where
  pub few : length rs ≤ p.batches
  pub each : (b : ℕ) → b < length rs → RecordFits p b (record_at rs b)

-- the body cells of a batch spell this record
abbrev pub SpellsRecord : Keys → Params → ℕ → ℕ → BatchRecord → Image → Type 0
SpellsRecord keys p epoch b r image = (i : ℕ) → i < record_cells p
    → image (log_cell p (epoch % 2) b i) ≡ sealed keys (log_cell p (epoch % 2) b i) r.generation (onward r.number i) (piece i (record_bytes epoch r))

-- these are the open records of an epoch: those before the first closed gate, and each later gate is closed
pub record OpenRecords (keys : Keys) (p : Params) (epoch : ℕ) (rs : List BatchRecord) (image : Image) : Type 0 where
  pub few : length rs ≤ p.batches
  pub opened : (b : ℕ) → b < length rs → image (log_gate p (epoch % 2) b) ≡ open_gate
  pub shut : (b : ℕ) → length rs ≤ b → b < p.batches → image (log_gate p (epoch % 2) b) ≢ open_gate
  pub bodies : (b : ℕ) → b < length rs → SpellsRecord keys p epoch b (record_at rs b) image
  pub obey : (b : ℕ) → b < length rs → RecordObeys p b (record_at rs b)
