-- How a checkpoint is spelled, and a slot that holds a row.
use Rattle.std.specs.Prelude.{ℕ, ◌-◌, ◌*◌, List, ◌∷◌, ◌++◌, replicate, length, Option, Some, None}
use Rattle.std.specs.List.{flat_map}
use Rattle.std.specs.Int.{w32, w64, to_le_bytes}
use Rattle.std.specs.FinMap as finite
use Rattle.ob_base.specs.declared.params.Params.{Params}
use Rattle.ob_tables.specs.Version.{version_bytes}
use Rattle.ob_tables.specs.declared.entry.Entry.{Entry}
use Rattle.ob_tables.specs.Content.{Content, Rows}

-- a key's 21 bytes: whether it is present, and its entry; zeros where it is absent
abbrev pub entry_bytes : Option Entry → List ℕ
entry_bytes None = replicate 21 0
entry_bytes (Some e) = 1 ∷ to_le_bytes w64 e.generation ++ (to_le_bytes w64 e.index ++ to_le_bytes w32 e.leaf)

-- a value's length, and the value in so many places
abbrev pub value_bytes : ℕ → List ℕ → List ℕ
value_bytes room value = length value ∷ (value ++ replicate (room - length value) 0)

-- a row's 69 bytes
abbrev pub row_bytes : ℕ × List ℕ → List ℕ
row_bytes row = to_le_bytes w32 row.0 ++ value_bytes 64 row.1

-- the rows in rising key order, and zeros behind them
abbrev pub stash_bytes : ℕ → Rows → List ℕ
stash_bytes room rows = flat_map row_bytes (finite.entries rows) ++ replicate (69 * (room - finite.len rows)) 0

unfoldable pub checkpoint_bytes : Params → ℕ → Content → List ℕ
checkpoint_bytes p epoch c =
    to_le_bytes w64 epoch ++ (to_le_bytes w64 c.counter ++ (flat_map entry_bytes c.book
    ++ (flat_map version_bytes c.versions ++ (to_le_bytes w32 (finite.len c.rows) ++ stash_bytes p.room c.rows))))

-- the 96 bytes of a slot that holds a row; one that holds none has the number of no key, and no value
abbrev pub slot_bytes : ℕ → List ℕ → List ℕ
slot_bytes key value = to_le_bytes w32 key ++ value_bytes 91 value
