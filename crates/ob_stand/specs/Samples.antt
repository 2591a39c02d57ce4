-- A store of eight keys, with seven buckets of two real and three dummy slots: its spare cells after a format, and after the first end.
use Rattle.std.specs.Prelude.{◌≡◌, ◌⊎◌, ◌↔◌, ◌≤◌, ℕ, List, [], ◌∷◌}
use Rattle.std.specs.declared.option.Option.TheVariants.{None}
use Rattle.ob_base.specs.declared.params.Params.{Params}
use Rattle.ob_tables.specs.Content.{Content}
use Rattle.ob_stand.specs.Carries.{Slots}
use Rattle.ob_stand.specs.ValueSamples.{numbers_of}
use Rattle.ob_stand.specs.Idle.{idle_order}
use Rattle.ob_stand.specs.ContentSamples.{ended, formatted}
use Rattle.ob_stand.specs.Ends.{IsEndOf}
use Rattle.ob_stand.specs.Fresh.{Ranks, AreRanked, fresh_content, fresh_standing}
use Rattle.ob_stand.specs.Spare.{IsSpare}
use Rattle.ob_stand.specs.Stands.{with_generation}

-- the cell is in one of these ranges, each from its first cell to its last
abbrev pub IsAmong : List (ℕ × ℕ) → ℕ → Type 0
IsAmong [] c = ⊥
IsAmong (r ∷ rs) c = ((r.0 ≤ c) × (c ≤ r.1)) ⊎ IsAmong rs c

-- at equal words each index has the slot of its own number
abbrev pub ranks_in_order : Ranks
ranks_in_order u = 0 ∷ 1 ∷ 2 ∷ 3 ∷ 4 ∷ []

abbrev pub sample_numbers : List ℕ
sample_numbers = 8 ∷ 2 ∷ 2 ∷ 3 ∷ 2 ∷ 2 ∷ 2 ∷ 2 ∷ 8 ∷ []

-- an end that changes nothing may follow the format, in generation 2
pub record IdleEnd : Type 0 where
  pub p : Params
  pub numbers : numbers_of p ≡ sample_numbers
  pub content : Content
  pub slots : Slots
  pub follows : IsEndOf p (with_generation (fresh_standing p ranks_in_order) 2) (record { content = content; map = λ k. None; slots = slots; order = idle_order })

-- what the definitions give for the store
pub record ImagesSampled : Type 0 where
  pub p : Params
  pub numbers : numbers_of p ≡ sample_numbers
  pub ranked : AreRanked p ranks_in_order
  pub fresh_is : fresh_content p ranks_in_order ≡ formatted
  -- after the format: the first log area, the second checkpoint area, all second homes
  pub spare_at_first : (c : ℕ) → IsSpare p 0 formatted c ↔ IsAmong ((9, 12) ∷ (28, 38) ∷ (74, 108) ∷ []) c
  -- after the first end, which left buckets 4 and 6 in their first homes
  pub spare_then : (c : ℕ) → IsSpare p 1 ended c ↔ IsAmong ((13, 16) ∷ (17, 27) ∷ (39, 58) ∷ (64, 68) ∷ (94, 98) ∷ (104, 108) ∷ []) c
  pub idle : IdleEnd
