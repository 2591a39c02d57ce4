-- A worked case, computed from the definitions: eight keys, seven buckets of two real and three dummy slots, and words that are all 0.
use Rattle.std.specs.Prelude.{◌≡◌, ℕ, false, List, [], ◌∷◌, map, Option}
use Rattle.std.specs.declared.option.Option.TheVariants.{None, Some}
use Rattle.std.proofs.Common.{refl, arith}
use Rattle.ob_base.specs.declared.params.Params.{Params}
use Rattle.ob_ring.specs.FlatTable.{FlatTable, In, Shown, Batch, FinalLifts, Writes, Refill, picks, after, refill_order}

abbrev pub p0 : Params
p0 = record {
  keys = 8;
  levels = 2;
  real = 2;
  dummies = 3;
  batches = 2;
  places = 2;
  writes = 2;
  evictions = 2;
  room = 8;
  in_range = record {
    some_keys = omega arith;
    few_keys = omega arith;
    some_levels = omega arith;
    few_levels = omega arith;
    some_real = omega arith;
    few_real = omega arith;
    some_dummies = omega arith;
    few_dummies = omega arith;
    some_batches = omega arith;
    few_batches = omega arith;
    some_places = omega arith;
    few_places = omega arith;
    some_writes = omega arith;
    few_writes = omega arith;
    some_evictions = omega arith;
    few_evictions = omega arith;
    some_room = omega arith;
    few_room = omega arith;
    keys_fit = omega arith;
  };
}

abbrev pub empty : FlatTable
empty = record { rows = λ k. None; used = λ u j. false; lifted = λ u. false; counter = 0 }

abbrev pub seen : List Shown → List (ℕ × ℕ)
seen ss = map (λ s. (s.bucket, s.index)) ss

abbrev pads : List (Option ℕ × ℕ)
pads = (None, 0) ∷ (None, 0) ∷ []

first_batch : seen (picks p0 empty (Batch pads)) ≡ (0, 2) ∷ (1, 2) ∷ (3, 2) ∷ (0, 3) ∷ (1, 3) ∷ (3, 3) ∷ []
first_batch = refl

abbrev after_1 : FlatTable
after_1 = after p0 empty (Batch pads)

-- the third place lifts buckets 0, 1 and 3, each by reads of 4, 0, 1; the fourth shows nothing
second_batch : seen (picks p0 after_1 (Batch pads)) ≡ (0, 4) ∷ (0, 0) ∷ (0, 1) ∷ (1, 4) ∷ (1, 0) ∷ (1, 1) ∷ (3, 4) ∷ (3, 0) ∷ (3, 1) ∷ []
second_batch = refl

abbrev after_2 : FlatTable
after_2 = after p0 after_1 (Batch pads)

final_lifts : seen (picks p0 after_2 FinalLifts) ≡ (2, 0) ∷ (2, 1) ∷ (5, 0) ∷ (5, 1) ∷ []
final_lifts = refl

abbrev after_3 : FlatTable
after_3 = after p0 (after p0 after_2 FinalLifts) (Writes ((5, Some 1) ∷ []))

order : refill_order p0 after_3 ≡ 3 ∷ 5 ∷ 1 ∷ 2 ∷ 0 ∷ []
order = refl

abbrev after_4 : FlatTable
after_4 = after p0 after_3 Refill

-- key 5 lies at real index 0 of bucket 1
key_5 : after_4.rows 5 ≡ Some (record { leaf = 1; spot = In 1 0 })
key_5 = refl

-- the next epoch
third_batch : seen (picks p0 after_4 (Batch ((Some 5, 0) ∷ (None, 0) ∷ []))) ≡ (0, 2) ∷ (1, 0) ∷ (4, 2) ∷ (0, 3) ∷ (1, 2) ∷ (3, 2) ∷ []
third_batch = refl

abbrev after_5 : FlatTable
after_5 = after p0 after_4 (Batch ((Some 5, 0) ∷ (None, 0) ∷ []))

fourth_batch : seen (picks p0 after_5 (Batch pads)) ≡ (0, 4) ∷ (0, 0) ∷ (0, 1) ∷ (1, 3) ∷ (1, 1) ∷ (1, 4) ∷ (3, 3) ∷ (3, 4) ∷ (3, 0) ∷ (3, 1) ∷ []
fourth_batch = refl

abbrev after_6 : FlatTable
after_6 = after p0 after_5 (Batch pads)

second_lifts : seen (picks p0 after_6 FinalLifts) ≡ (4, 0) ∷ (4, 1) ∷ (2, 0) ∷ (2, 1) ∷ (6, 0) ∷ (6, 1) ∷ []
second_lifts = refl
