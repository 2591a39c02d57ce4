-- Two stores on the small tree, computed: the slots of the one are its indexes, and those of the other the ranks of other words. And what would break
-- the laws: a dummy that is chosen by its slot, a put that takes a bucket's word, a bucket that takes a write's.
use Rattle.std.specs.Prelude.{◌≡◌, ℕ, zero, suc, nat_le, List, [], ◌∷◌, ◌++◌, drop, filter, map, None, replicate, Some, unwrap_or}
use Rattle.ob_base.specs.declared.params.Params.{Params}
use Rattle.ob_base.specs.declared.value.Write.{Write}
use Rattle.ob_base.specs.Tree.{below}
use Rattle.ob_tables.specs.Buckets.{version_at}
use Rattle.ob_tables.specs.Rank.{ranks_of}
use Rattle.ob_tables.specs.Version.{rank_at}
use Rattle.ob_schedule.specs.Paths.{eviction_path}
use Rattle.ob_ring.specs.Filling.{words_of}
use Rattle.ob_ring.specs.FlatTable.{Batch, FinalLifts, FlatTable, after, leaves_shown, refill_order}
use Rattle.ob_ring.specs.Jobs.{place_picked_at}
use Rattle.ob_ring.specs.Picked.{Picked, batch_picked, final_picked}
use Rattle.ob_ring.specs.Plain.{index_with}
use Rattle.ob_stand.specs.Fresh.{Ranks, fresh_content, fresh_version}
use Rattle.ob_stand.specs.Table.{flat_of}
use Rattle.ob_stand.specs.ValueSamples.{numbers_of, pads}
use Rattle.ob_end.specs.EndRuns.{end_writes, table_ended}

-- ---- two planners, over an epoch

-- each index has its own slot; or bucket 0 has those that other words give
abbrev pub own_ranks : Ranks
own_ranks u = ranks_of (replicate 5 0)

abbrev pub turned_ranks : Ranks
turned_ranks zero = ranks_of (9 ∷ 8 ∷ 1 ∷ 7 ∷ 6 ∷ [])
turned_ranks (suc u) = ranks_of (replicate 5 0)

-- the table after a batch of two pads of leaf 0, and after two such batches
abbrev pub once : Params → FlatTable → FlatTable
once p t = after p t (Batch pads)

abbrev pub twice : Params → FlatTable → FlatTable
twice p t = once p (once p t)

-- what two batches and the final lifts pick, of a store that was formatted with these slots
abbrev pub picked_from : Params → FlatTable → List Picked
picked_from p t = batch_picked p t pads ++ (batch_picked p (once p t) pads ++ final_picked p (twice p t) (eviction_path p t.counter))

abbrev pub epoch_picked : Params → Ranks → List (ℕ × ℕ)
epoch_picked p ranks = map place_picked_at (picked_from p (flat_of p (fresh_content p ranks)))

-- and the slots in which these lie
abbrev pub epoch_slots : Params → Ranks → List ℕ
epoch_slots p ranks = map (λ q. rank_at (version_at (fresh_content p ranks).versions q.bucket) q.index) (picked_from p (flat_of p (fresh_content p ranks)))

-- the dummies of bucket 0, each chosen as that of the least slot which wasn't shown
abbrev pub dummies_by_slot : Params → Ranks → List ℕ
dummies_by_slot p ranks = filter (nat_le p.real) (map (λ slot. unwrap_or (index_with (fresh_version p ranks 0) slot) 0) (below 5))

-- ---- an end, by other words

-- behind two batches of pads key 5 is put, with the first of these words
abbrev pub five_put : List Write
five_put = record { key = 5; value = Some (7 ∷ []) } ∷ []

abbrev pub table_put : Params → List ℕ → FlatTable
table_put p words = table_ended p (twice p (flat_of p (fresh_content p own_ranks))) (end_writes p five_put words 1 4)

-- the leaves of a batch that then asks for it, beside a pad
abbrev pub leaves_then : Params → List ℕ → List ℕ
leaves_then p words = leaves_shown p (table_put p words) ((Some 5, 3) ∷ (None, 2) ∷ [])

-- the slots that bucket 3 has then, the first that is filled anew
abbrev pub slots_then : Params → List ℕ → List ℕ
slots_then p words = ranks_of (words_of p (drop p.writes words) 0)

-- Two rows of 27 words that differ in those of bucket 3, and one that differs from the first in a write's.
abbrev pub blank_words : List ℕ
blank_words = 1 ∷ 6 ∷ replicate 25 0

abbrev pub bucket_words_apart : List ℕ
bucket_words_apart = 1 ∷ 6 ∷ 9 ∷ 8 ∷ 1 ∷ 7 ∷ 6 ∷ replicate 20 0

abbrev pub write_words_apart : List ℕ
write_words_apart = 1 ∷ 0 ∷ replicate 25 0

-- a put that takes the first word behind those of the writes
abbrev pub leaves_by_bucket_word : Params → List ℕ → List ℕ
leaves_by_bucket_word p words = leaves_then p (drop p.writes words)

-- a bucket that takes the last word of the writes
abbrev pub slots_by_write_word : Params → List ℕ → List ℕ
slots_by_write_word p words = ranks_of (words_of p (drop 1 words) 0)

pub record Sampled : Type 0 where
  pub p : Params
  pub numbers : numbers_of p ≡ 8 ∷ 2 ∷ 2 ∷ 3 ∷ 2 ∷ 2 ∷ 2 ∷ 2 ∷ 8 ∷ []
  -- both pick the same over an epoch, in other slots
  pub ranks : turned_ranks 0 ≡ 4 ∷ 3 ∷ 0 ∷ 2 ∷ 1 ∷ []
  pub picks : epoch_picked p own_ranks ≡ (0, 2) ∷ (1, 2) ∷ (3, 2) ∷ (0, 3) ∷ (1, 3) ∷ (3, 3) ∷ (0, 4) ∷ (0, 0) ∷ (0, 1) ∷ (1, 4) ∷ (1, 0) ∷ (1, 1) ∷ (3, 4) ∷ (3, 0) ∷ (3, 1) ∷ (2, 0) ∷ (2, 1) ∷ (5, 0) ∷ (5, 1) ∷ []
  pub same_picks : epoch_picked p turned_ranks ≡ epoch_picked p own_ranks
  pub slots : epoch_slots p own_ranks ≡ 2 ∷ 2 ∷ 2 ∷ 3 ∷ 3 ∷ 3 ∷ 4 ∷ 0 ∷ 1 ∷ 4 ∷ 0 ∷ 1 ∷ 4 ∷ 0 ∷ 1 ∷ 0 ∷ 1 ∷ 0 ∷ 1 ∷ []
  pub other_slots : epoch_slots p turned_ranks ≡ 0 ∷ 2 ∷ 2 ∷ 2 ∷ 3 ∷ 3 ∷ 1 ∷ 4 ∷ 3 ∷ 4 ∷ 0 ∷ 1 ∷ 4 ∷ 0 ∷ 1 ∷ 0 ∷ 1 ∷ 0 ∷ 1 ∷ []
  -- dummies that are chosen by their slots are other ones in each
  pub by_slot : dummies_by_slot p own_ranks ≡ 2 ∷ 3 ∷ 4 ∷ []
  pub by_other_slot : dummies_by_slot p turned_ranks ≡ 2 ∷ 4 ∷ 3 ∷ []
  pub by_slot_apart : dummies_by_slot p own_ranks ≡ dummies_by_slot p turned_ranks → ⊥
  -- words of buckets decide no label, and do decide slots
  pub filled_first : refill_order p (after p (twice p (flat_of p (fresh_content p own_ranks))) FinalLifts) ≡ 3 ∷ 5 ∷ 1 ∷ 2 ∷ 0 ∷ []
  pub leaves : leaves_then p blank_words ≡ 1 ∷ 2 ∷ []
  pub same_leaves : leaves_then p bucket_words_apart ≡ 1 ∷ 2 ∷ []
  pub bucket_slots : slots_then p blank_words ≡ 0 ∷ 1 ∷ 2 ∷ 3 ∷ 4 ∷ []
  pub other_bucket_slots : slots_then p bucket_words_apart ≡ 4 ∷ 3 ∷ 0 ∷ 2 ∷ 1 ∷ []
  -- they would, where a put took one
  pub put_apart : leaves_by_bucket_word p blank_words ≡ leaves_by_bucket_word p bucket_words_apart → ⊥
  -- and words of writes decide no slot; they would, where a bucket took one
  pub write_slots : slots_then p write_words_apart ≡ slots_then p blank_words
  pub write_apart : slots_by_write_word p blank_words ≡ slots_by_write_word p write_words_apart → ⊥
