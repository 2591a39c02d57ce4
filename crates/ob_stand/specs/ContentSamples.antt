-- The contents of a store of eight keys, with seven buckets of two real and three dummy slots, and words that are all 0: after a format,
-- and after the first end, whose epoch had two batches of pads and a put of key 5.
use Rattle.std.specs.Prelude.{◌≡◌, ℕ, ◌*◌, ◌==◌, cond, Bool, false, List, [], ◌∷◌, map, replicate, Option}
use Rattle.std.specs.declared.option.Option.TheVariants.{None, Some}
use Rattle.std.specs.FinMap as finite
use Rattle.std.specs.List.{range_with_len}
use Rattle.ob_base.specs.declared.params.Params.{Params}
use Rattle.ob_base.specs.Tree.{below}
use Rattle.ob_tables.specs.Version.{Version}
use Rattle.ob_tables.specs.Content.{Content, Obeys}
use Rattle.ob_tables.specs.Spelling.{slot_bytes}
use Rattle.ob_ring.specs.FlatTable.{FlatTable, Row, In}
use Rattle.ob_ring.specs.Picked.{Picked, batch_picked}
use Rattle.ob_stand.specs.Values.{Values}
use Rattle.ob_stand.specs.Carries.{Slots}
use Rattle.ob_stand.specs.ValueSamples.{filled_table, numbers_of}
use Rattle.ob_stand.specs.Counts.{public_of}
use Rattle.ob_stand.specs.Numbers.{IsKnown}
use Rattle.ob_stand.specs.Table.{flat_of}
use Rattle.ob_stand.specs.Valued.{IsValued}

abbrev pub unused : List Bool
unused = false ∷ false ∷ false ∷ false ∷ false ∷ []

-- at equal words each index lies in the slot of its own number; bucket by bucket the slots take five numbers
abbrev pub format_version : ℕ → Version
format_version u = record { home = 0; generation = 1; base = 5 * u; keys = None ∷ None ∷ []; ranks = 0 ∷ 1 ∷ 2 ∷ 3 ∷ 4 ∷ []; used = unused }

abbrev pub formatted : Content
formatted = record { counter = 0; book = replicate 8 None; versions = map format_version (range_with_len 0 7); rows = finite.empty }

abbrev pub end_version : ℕ → List (Option ℕ) → Version
end_version base keys = record { home = 1; generation = 2; base = base; keys = keys; ranks = 0 ∷ 1 ∷ 2 ∷ 3 ∷ 4 ∷ []; used = unused }

-- the refill takes buckets 3, 5, 1, 2 and 0 in this order, from number 2 on; 4 and 6 stay as they were
abbrev pub ended : Content
ended = record {
  counter = 2;
  book = None ∷ None ∷ None ∷ None ∷ None ∷ Some (record { generation = 2; index = 4; leaf = 0 }) ∷ None ∷ None ∷ [];
  versions = end_version 22 (None ∷ None ∷ []) ∷ end_version 12 (None ∷ None ∷ []) ∷ end_version 17 (None ∷ None ∷ []) ∷ end_version 2 (Some 5 ∷ None ∷ [])
      ∷ format_version 4 ∷ end_version 7 (None ∷ None ∷ []) ∷ format_version 6 ∷ [];
  rows = finite.empty;
}

-- key 5 has this value, and no other key is present
abbrev pub values : Values
values k = cond (k == 5) (Some (113 ∷ [])) None

abbrev pub slots : Slots
slots u j = slot_bytes 5 (113 ∷ [])

abbrev pub row_of_5 : Row
row_of_5 = record { leaf = 0; spot = In 3 0 }

abbrev pub index_of : Picked → ℕ × ℕ × Option ℕ
index_of q = (q.bucket, q.index, q.key)

abbrev pub marks_in : FlatTable → List (List Bool)
marks_in t = map (λ u. map (t.used u) (below 5)) (below 7)

-- what the definitions give for them
pub record ContentsSampled : Type 0 where
  pub p : Params
  pub numbers : numbers_of p ≡ 8 ∷ 2 ∷ 2 ∷ 3 ∷ 2 ∷ 2 ∷ 2 ∷ 2 ∷ 8 ∷ []
  -- after the format
  pub formatted_obeys : Obeys p formatted
  pub formatted_known : IsKnown formatted 1
  pub formatted_valued : IsValued formatted slots (λ k. None)
  pub no_row : map (flat_of p formatted).rows (below 8) ≡ replicate 8 None
  pub no_mark : marks_in (flat_of p formatted) ≡ replicate 7 unused
  -- after the end
  pub ended_obeys : Obeys p ended
  pub ended_known : IsKnown ended 2
  pub ended_valued : IsValued ended slots values
  pub one_row : map (flat_of p ended).rows (below 8) ≡ None ∷ None ∷ None ∷ None ∷ None ∷ Some row_of_5 ∷ None ∷ None ∷ []
  pub homes : map (public_of ended 1 (λ cell. false)).homes (below 7) ≡ 1 ∷ 1 ∷ 1 ∷ 1 ∷ 0 ∷ 1 ∷ 0 ∷ []
  -- its table is that of the steps
  pub same_rows : map (filled_table p 0).rows (below 8) ≡ map (flat_of p ended).rows (below 8)
  pub same_marks : marks_in (filled_table p 0) ≡ marks_in (flat_of p ended)
  pub same_counter : (filled_table p 0).counter ≡ (flat_of p ended).counter
  -- of a place that asks for key 5 then one of the reads is its index
  pub picked : map index_of (batch_picked p (flat_of p ended) ((Some 5, 1) ∷ [])) ≡ (0, 2, None) ∷ (1, 2, None) ∷ (3, 0, Some 5) ∷ []
