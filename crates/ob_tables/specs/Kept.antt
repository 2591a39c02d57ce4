-- What the position map and the stash keep.
use Rattle.std.specs.Prelude.{ℕ, List, Option, None, slice_index_or, refl}
use Rattle.std.specs.Coded.{Coded, code_by, coded×, coded_ℕ, coded_list}
use Rattle.std.specs.Ordering.{nat_cmp}
use Rattle.std.specs.FinMap as map
use Rattle.ob_tables.specs.declared.entry.Entry.{Entry}

-- a key's entry, if it is present
abbrev pub entry_at : List (Option Entry) → ℕ → Option Entry
entry_at book k = slice_index_or book k None

-- the rows by key, and how many there is room for
pub record Held : Type 0 where
  pub rows : map.FinMap nat_cmp (List ℕ)
  pub room : ℕ

abbrev pub held_code : Coded Held
held_code = code_by (map.FinMap nat_cmp (List ℕ) × ℕ) (coded× (map.code coded_ℕ (coded_list coded_ℕ)) coded_ℕ) (λ h. (h.rows, h.room)) (λ p. record { rows = p.0; room = p.1 }) (λ _. refl)
