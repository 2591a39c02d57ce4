-- Two stores on the small tree, computed.
use Rattle.std.specs.Prelude.{◌≡◌, ℕ, [], ◌∷◌, slice_index}
use Rattle.std.proofs.Common.{arith, refl, sym, ap, ◌∙◌}
use Rattle.ob_base.specs.Tree.{buckets}
use Rattle.ob_ring.proofs.Rows.{p0}
use Rattle.ob_ring.specs.FlatTable.{FinalLifts, after, refill_order}
use Rattle.ob_stand.specs.Fresh.{fresh_content}
use Rattle.ob_stand.specs.Table.{flat_of}
use Rattle.ob_blind.specs.Samples.{Sampled, bucket_words_apart, dummies_by_slot, epoch_picked, epoch_slots, leaves_by_bucket_word, leaves_then, own_ranks, slots_by_write_word, slots_then, turned_ranks, twice, write_words_apart, blank_words}

-- ---- two planners

picks : epoch_picked p0 own_ranks ≡ (0, 2) ∷ (1, 2) ∷ (3, 2) ∷ (0, 3) ∷ (1, 3) ∷ (3, 3) ∷ (0, 4) ∷ (0, 0) ∷ (0, 1) ∷ (1, 4) ∷ (1, 0) ∷ (1, 1) ∷ (3, 4) ∷ (3, 0) ∷ (3, 1) ∷ (2, 0) ∷ (2, 1) ∷ (5, 0) ∷ (5, 1) ∷ []
unfolding buckets
picks = refl

other_picks : epoch_picked p0 turned_ranks ≡ (0, 2) ∷ (1, 2) ∷ (3, 2) ∷ (0, 3) ∷ (1, 3) ∷ (3, 3) ∷ (0, 4) ∷ (0, 0) ∷ (0, 1) ∷ (1, 4) ∷ (1, 0) ∷ (1, 1) ∷ (3, 4) ∷ (3, 0) ∷ (3, 1) ∷ (2, 0) ∷ (2, 1) ∷ (5, 0) ∷ (5, 1) ∷ []
unfolding buckets
other_picks = refl

slots : epoch_slots p0 own_ranks ≡ 2 ∷ 2 ∷ 2 ∷ 3 ∷ 3 ∷ 3 ∷ 4 ∷ 0 ∷ 1 ∷ 4 ∷ 0 ∷ 1 ∷ 4 ∷ 0 ∷ 1 ∷ 0 ∷ 1 ∷ 0 ∷ 1 ∷ []
unfolding buckets
slots = refl

other_slots : epoch_slots p0 turned_ranks ≡ 0 ∷ 2 ∷ 2 ∷ 2 ∷ 3 ∷ 3 ∷ 1 ∷ 4 ∷ 3 ∷ 4 ∷ 0 ∷ 1 ∷ 4 ∷ 0 ∷ 1 ∷ 0 ∷ 1 ∷ 0 ∷ 1 ∷ []
unfolding buckets
other_slots = refl

by_slot : dummies_by_slot p0 own_ranks ≡ 2 ∷ 3 ∷ 4 ∷ []
unfolding buckets
by_slot = refl

by_other_slot : dummies_by_slot p0 turned_ranks ≡ 2 ∷ 4 ∷ 3 ∷ []
unfolding buckets
by_other_slot = refl

by_slot_apart : dummies_by_slot p0 own_ranks ≡ dummies_by_slot p0 turned_ranks → ⊥
by_slot_apart same = let x : ◌≡◌ {A = ℕ} 3 4 = ap (λ row. slice_index row 1) (sym by_slot ∙ same ∙ by_other_slot) in omega arith

-- ---- an end

filled_first : refill_order p0 (after p0 (twice p0 (flat_of p0 (fresh_content p0 own_ranks))) FinalLifts) ≡ 3 ∷ 5 ∷ 1 ∷ 2 ∷ 0 ∷ []
unfolding buckets
filled_first = refl

leaves : leaves_then p0 blank_words ≡ 1 ∷ 2 ∷ []
unfolding buckets
leaves = refl

same_leaves : leaves_then p0 bucket_words_apart ≡ 1 ∷ 2 ∷ []
unfolding buckets
same_leaves = refl

bucket_leaves : leaves_by_bucket_word p0 blank_words ≡ 0 ∷ 2 ∷ []
unfolding buckets
bucket_leaves = refl

other_bucket_leaves : leaves_by_bucket_word p0 bucket_words_apart ≡ 1 ∷ 2 ∷ []
unfolding buckets
other_bucket_leaves = refl

put_apart : leaves_by_bucket_word p0 blank_words ≡ leaves_by_bucket_word p0 bucket_words_apart → ⊥
put_apart same = let x : ◌≡◌ {A = ℕ} 0 1 = ap (λ row. slice_index row 0) (sym bucket_leaves ∙ same ∙ other_bucket_leaves) in omega arith

bucket_slots : slots_then p0 blank_words ≡ 0 ∷ 1 ∷ 2 ∷ 3 ∷ 4 ∷ []
bucket_slots = refl

other_bucket_slots : slots_then p0 bucket_words_apart ≡ 4 ∷ 3 ∷ 0 ∷ 2 ∷ 1 ∷ []
other_bucket_slots = refl

write_slots : slots_then p0 write_words_apart ≡ 0 ∷ 1 ∷ 2 ∷ 3 ∷ 4 ∷ []
write_slots = refl

early_slots : slots_by_write_word p0 blank_words ≡ 4 ∷ 0 ∷ 1 ∷ 2 ∷ 3 ∷ []
early_slots = refl

other_early_slots : slots_by_write_word p0 write_words_apart ≡ 0 ∷ 1 ∷ 2 ∷ 3 ∷ 4 ∷ []
other_early_slots = refl

write_apart : slots_by_write_word p0 blank_words ≡ slots_by_write_word p0 write_words_apart → ⊥
write_apart same = let x : ◌≡◌ {A = ℕ} 4 0 = ap (λ row. slice_index row 0) (sym early_slots ∙ same ∙ other_early_slots) in omega arith

pub sampled : Sampled
sampled = record {
  p = p0;
  numbers = refl;
  ranks = refl;
  picks = picks;
  same_picks = other_picks ∙ sym picks;
  slots = slots;
  other_slots = other_slots;
  by_slot = by_slot;
  by_other_slot = by_other_slot;
  by_slot_apart = by_slot_apart;
  filled_first = filled_first;
  leaves = leaves;
  same_leaves = same_leaves;
  bucket_slots = bucket_slots;
  other_bucket_slots = other_bucket_slots;
  put_apart = put_apart;
  write_slots = write_slots ∙ sym bucket_slots;
  write_apart = write_apart;
}
