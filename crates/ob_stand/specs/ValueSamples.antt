-- A store of eight keys, with seven buckets of two real and three dummy slots, and words that are all 0: two batches of pads, the final
-- lifts, and a put of key 5.
use Rattle.std.specs.Prelude.{◌≡◌, ℕ, List, [], ◌∷◌, length, take, Option}
use Rattle.std.specs.declared.option.Option.TheVariants.{None, Some}
use Rattle.std.specs.FinMap as finite
use Rattle.ob_base.specs.declared.value.Write.{Write}
use Rattle.ob_base.specs.declared.params.Params.{Params}
use Rattle.ob_tables.specs.Spelling.{slot_bytes}
use Rattle.ob_tables.specs.declared.entry.Entry.{Entry}
use Rattle.ob_ring.specs.FlatTable.{FlatTable, In, Batch, FinalLifts, Writes, Refill, after, refill_order}
use Rattle.ob_ring.specs.Ring.{empty_table}
use Rattle.ob_ring.specs.Writing.{leaf_writes, values_after}
use Rattle.ob_stand.specs.Values.{with_entries}
use Rattle.ob_stand.specs.Carries.{Slots, Carries}

-- the numbers of the parameters
abbrev pub numbers_of : Params → List ℕ
numbers_of p = p.keys ∷ p.levels ∷ p.real ∷ p.dummies ∷ p.batches ∷ p.places ∷ p.writes ∷ p.evictions ∷ p.room ∷ []

abbrev pub pads : List (Option ℕ × ℕ)
pads = (None, 0) ∷ (None, 0) ∷ []

abbrev pub lifted_table : Params → FlatTable
lifted_table p = after p (after p (after p empty_table (Batch pads)) (Batch pads)) FinalLifts

-- key 5 is put with the value 113, and its row goes to this leaf
abbrev pub puts : ℕ → List (Write × Entry)
puts leaf = (record { key = 5; value = Some (113 ∷ []) }, record { generation = 2; index = 4; leaf = leaf }) ∷ []

abbrev pub written_table : Params → ℕ → FlatTable
written_table p leaf = after p (lifted_table p) (Writes (leaf_writes (puts leaf)))

abbrev pub filled_table : Params → ℕ → FlatTable
filled_table p leaf = after p (written_table p leaf) Refill

-- what these steps give
pub record ValuesSampled : Type 0 where
  pub p : Params
  pub numbers : numbers_of p ≡ 8 ∷ 2 ∷ 2 ∷ 3 ∷ 2 ∷ 2 ∷ 2 ∷ 2 ∷ 8 ∷ []
  pub lifted : refill_order p (written_table p 0) ≡ 3 ∷ 5 ∷ 1 ∷ 2 ∷ 0 ∷ []
  pub lies : (filled_table p 0).rows 5 ≡ Some (record { leaf = 0; spot = In 3 0 })
  pub lies_higher : (filled_table p 1).rows 5 ≡ Some (record { leaf = 1; spot = In 1 0 })
  pub counter : (filled_table p 0).counter ≡ 2
  -- a table without keys carries the empty map, and after the put the map with it
  pub nothing : (slots : Slots) → Carries p empty_table finite.empty slots (λ k. None)
  pub put : (slots : Slots) → Carries p (after p empty_table (Writes (leaf_writes (puts 0)))) (values_after finite.empty (puts 0)) slots (with_entries (λ k. None) (puts 0))
  pub spelled : take 6 (slot_bytes 5 (113 ∷ [])) ≡ 5 ∷ 0 ∷ 0 ∷ 0 ∷ 1 ∷ 113 ∷ []
  pub long : length (slot_bytes 5 (113 ∷ [])) ≡ 96
