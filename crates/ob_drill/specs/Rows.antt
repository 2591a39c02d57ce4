-- The rows of a map, and their digest.
use Rattle.std.specs.Prelude.{ℕ, ◌≡◌, ◌++◌, ◌∷◌, List, length, Option, Some, None, flat_map, filter_map}
use Rattle.std.specs.Int.{w32, to_le_bytes}
use Rattle.std.specs.Ordering.{nat_cmp}
use Rattle.std.specs.FinMap.{get}
use Rattle.sha2.specs.Sha256.{sha256}
use Rattle.ob_base.specs.Tree.{below}
use Rattle.ob_serial.specs.Serial.{Map}
use Rattle.ob_drill.specs.declared.map.MapDigest.{MapDigest}

-- a key that is there, with its value
abbrev pub with_key : ℕ → Option (List ℕ) → Option (ℕ × List ℕ)
with_key key None = None
with_key key (Some value) = Some (key, value)

-- the keys below a bound that are there, rising, each with its value
abbrev pub rows_below : (ℕ → Option (List ℕ)) → ℕ → List (ℕ × List ℕ)
rows_below value bound = filter_map (λ key. with_key key (value key)) (below bound)

-- a row's bytes: the key in four, the lowest first; how many bytes its value has; and these
abbrev pub row_bytes : ℕ × List ℕ → List ℕ
row_bytes (key, value) = to_le_bytes w32 key ++ length value ∷ value

abbrev pub bytes_of : List (ℕ × List ℕ) → List ℕ
bytes_of rows = flat_map row_bytes rows

-- how many these rows are, and the digest of their bytes
abbrev pub digest_of : List (ℕ × List ℕ) → MapDigest
digest_of rows = record { keys = length rows; map = sha256 (bytes_of rows) }

-- that of a map's keys below a bound
abbrev pub IsDigestOf : Map nat_cmp → ℕ → MapDigest → Type 0
IsDigestOf m bound digest = digest ≡ digest_of (rows_below (get m) bound)
