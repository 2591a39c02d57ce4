-- Numbers of an epoch: how many buckets an end lifts, and how many rows a stash has.
use Rattle.std.specs.Prelude.{filter}
use Rattle.std.proofs.Common.{◌≡◌, ◌∙◌, ◌+◌, ◌-◌, ◌*◌, ◌^◌, ◌<◌, ◌≤◌, ℕ, suc, zero, Bool, List, length, refl, ap, sym, arith}
use Rattle.std.specs.List.{range_with_len}
use Rattle.std.proofs.Common.{length-append}
use Rattle.std.proofs.lemmas.List.Sums.{count_by-le-length, length-filter}
use Rattle.std.proofs.lemmas.Nat.{pow_pos}
use Rattle.std.proofs.Math.Nat.{mul-le-mul_right, two-pow-succ}
use Rattle.ob_base.specs.Tree.{below, buckets, width}
use Rattle.ob_base.specs.Layout.{checkpoint_cells}
use Rattle.ob_base.specs.declared.params.Params.{Params}
use Rattle.ob_end.specs.EndRuns.{lifted_many, seals_for_end, words_for_end}
use Rattle.ob_ring.specs.FlatTable.{FinalLifts, FlatTable, after, in_stash, stash_size}
use Rattle.ob_schedule.specs.Paths.{by_falling_level}

range_many : (a n : ℕ) → length (range_with_len a n) ≡ n
range_many a zero = refl
range_many a (suc n) = ap suc (range_many (a + 1) n)

levels_many : (n : ℕ) → length (by_falling_level n) ≤ 2 ^ n - 1
levels_many zero = omega arith
levels_many (suc n) = omega (arith, length-append (range_with_len (2 ^ n - 1) (2 ^ n)) (by_falling_level n), range_many (2 ^ n - 1) (2 ^ n), levels_many n, two-pow-succ n, pow_pos n)

filter_few : (f : ℕ → Bool) (xs : List ℕ) → length (filter f xs) ≤ length xs
filter_few f xs = omega (arith, length-filter f xs, count_by-le-length f xs)

module _ (p : Params) (t : FlatTable) where
  lifted_few : lifted_many p t ≤ buckets p
  unfolding buckets
  lifted_few = omega (arith, filter_few (after p t FinalLifts).lifted (by_falling_level (p.levels + 1)), levels_many (p.levels + 1))

  slots_few : lifted_many p t * width p ≤ buckets p * width p
  slots_few = mul-le-mul_right (width p) lifted_few

  pub words_few : words_for_end p t ≤ p.writes + buckets p * width p
  words_few = omega (arith, slots_few)

  pub seals_few : seals_for_end p t ≤ buckets p * width p + checkpoint_cells p
  seals_few = omega (arith, slots_few)

  pub rows_few : stash_size p t ≤ p.keys
  rows_few = omega (arith, count_by-le-length (λ k. in_stash (t.rows k)) (below p.keys), range_many 0 p.keys)

-- ---- what an epoch may still take

-- a batch took its part of it
pub less_left : (a b each rest d d' most : ℕ) → a + 1 ≡ b → d' ≡ d + each → d + (b * each + rest) ≤ most → d' + (a * each + rest) ≤ most
less_left a b each rest d d' most left taken within =
    let one : b * each ≡ a * each + each = sym (ap (λ x. x * each) left) ∙ once_more a each in omega (arith, one, taken, within)
  where
    once_more : (i j : ℕ) → (i + 1) * j ≡ i * j + j
    once_more i j = omega arith

-- an end took no more than its part, and the next epoch begins
pub one_more : (left batches each rest n d d' : ℕ) → d' ≤ d + rest → d + (left * each + rest) ≤ suc n * (batches * each + rest) → d' + (batches * each + rest) ≤ suc (suc n) * (batches * each + rest)
one_more left batches each rest n d d' taken within = omega (arith, taken, within, again n (batches * each + rest))
  where
    again : (i j : ℕ) → suc (suc i) * j ≡ suc i * j + j
    again i j = omega arith

-- a batch whose part isn't there goes past it
pub batch_past : (left each rest d most limit : ℕ) → 0 < left → d + (left * each + rest) ≤ most → limit < d + each → limit < most
batch_past left each rest d most limit some within past = omega (arith, within, past, least left each some)
  where
    least : (i j : ℕ) → 0 < i → j ≤ i * j
    least zero j none = absurd (omega (arith, none))
    least (suc i) j some = omega (arith, first i j)
      where
        first : (a b : ℕ) → suc a * b ≡ b + a * b
        first a b = omega arith

-- and so does an end
pub end_past : (part left each rest d most limit : ℕ) → part ≤ rest → d + (left * each + rest) ≤ most → limit < d + part → limit < most
end_past part left each rest d most limit few within past = omega (arith, few, within, past)

-- at the beginning
pub all_left : (left records batches each rest : ℕ) → left + records ≡ batches → 0 + (left * each + rest) ≤ suc 0 * (batches * each + rest)
all_left left records batches each rest is = let few : left * each ≤ batches * each = mul-le-mul_right each (omega (arith, is)) in omega (arith, few)
