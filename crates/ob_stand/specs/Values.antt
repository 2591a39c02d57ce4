-- The values of a store's keys, and what writes make of them.
use Rattle.std.specs.Prelude.{ℕ, ◌==◌, cond, List, [], ◌∷◌, Option}
use Rattle.ob_base.specs.declared.value.Write.{Write}
use Rattle.ob_tables.specs.declared.entry.Entry.{Entry}

-- the value of each key that is present
abbrev pub Values : Type 0
Values = ℕ → Option (List ℕ)

abbrev pub with_write : Values → Write → Values
with_write m w k = cond (k == w.key) w.value (m k)

-- the writes one behind the other, each beside the entry that its place gives the key
abbrev pub with_entries : Values → List (Write × Entry) → Values
with_entries m [] = m
with_entries m (w ∷ ws) = with_entries (with_write m w.0) ws
