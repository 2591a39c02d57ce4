-- The buckets of a level, and numbers turned round.
use Rattle.std.specs.Prelude.{◌≡◌, ◌<◌, ◌≤◌, ℕ, ◌+◌, ◌-◌, ◌*◌, ◌/◌, ◌%◌, ◌^◌}
use Rattle.std.proofs.Common.{arith, suc, ◌∙◌, sym, ap, add-one, pow-add}
use Rattle.std.proofs.Math.Nat.{div-lt_iff_lt-mul, pow-suc, mod-eq_of_lt}
use Rattle.std.proofs.lemmas.Nat.{pow_pos}
use Rattle.ob_base.specs.declared.params.Params.{Params}
use Rattle.ob_base.specs.Tree.{buckets, bucket_of, reversed}
use Rattle.ob_base.proofs.Bounds.{power_le}

-- one level more has twice as many
next_level : (l : ℕ) → 2 ^ (l + 1) ≡ 2 * 2 ^ l
next_level l = let h : 2 ^ (l + 1) ≡ 2 ^ l * 2 = rw add-one (pow-suc 2 l) in omega arith

-- shifts by a number of levels lose no bit
pub one_shifted : (l : ℕ) → l ≤ 16 → 1 * 2 ^ l % 4294967296 ≡ 2 ^ l
one_shifted l h = let small : 2 ^ l ≤ 65536 = power_le l 16 h in let fits : 1 * 2 ^ l < 4294967296 = omega arith in omega (arith, mod-eq_of_lt fits)

pub two_shifted : (l : ℕ) → l ≤ 16 → 2 * 2 ^ l % 4294967296 ≡ 2 ^ (l + 1)
two_shifted l h = let small : 2 ^ l ≤ 65536 = power_le l 16 h in let fits : 2 * 2 ^ l < 4294967296 = omega arith in omega (arith, mod-eq_of_lt fits, next_level l)

-- a bucket of a level is one of the tree
pub bucket_within : (p : Params) (level leaf : ℕ) → level ≤ p.levels → leaf < 2 ^ p.levels → bucket_of p level leaf < buckets p
unfolding buckets
bucket_within p level leaf h k =
    let n : ℕ = p.levels - level in
    let whole : level + n ≡ p.levels = omega arith in
    let split : 2 ^ p.levels ≡ 2 ^ level * 2 ^ n = ap (λ (m : ℕ). 2 ^ m) (sym whole) ∙ pow-add 2 level n in
    let fits : leaf < 2 ^ level * 2 ^ n = omega arith in
    let low : leaf / 2 ^ n < 2 ^ level = (div-lt_iff_lt-mul (pow_pos n)).1 fits in
    let more : 2 ^ (level + 1) ≤ 2 ^ (p.levels + 1) = power_le (level + 1) (p.levels + 1) (omega arith) in
    omega (arith, next_level level)

-- the bits turned already, in front of those that are left
pub record Turns (levels bit turned rest c : ℕ) : Type 0 where
  pub small : turned < 2 ^ bit
  pub whole : (left : ℕ) → bit + left ≡ levels → turned * 2 ^ left + reversed left rest ≡ reversed levels c

turned_more : (t rest m total : ℕ) → t * 2 ^ suc m + reversed (suc m) rest ≡ total → (t * 2 + rest % 2) * 2 ^ m + reversed m (rest / 2) ≡ total
turned_more t rest m total e = let p : t * 2 ^ suc m ≡ t * (2 ^ m * 2) = ap (λ (x : ℕ). t * x) (pow-suc 2 m) in grind arith

pub turns_none : (levels c : ℕ) → Turns levels 0 0 c c
turns_none levels c = record {
  small = omega arith;
  whole = λ left e. (let same : left ≡ levels = omega arith in let here : reversed left c ≡ reversed levels c = ap (λ (n : ℕ). reversed n c) same in omega arith);
}

pub turns_more : (levels bit turned rest c : ℕ) → Turns levels bit turned rest c → Turns levels (bit + 1) (turned * 2 + rest % 2) (rest / 2) c
turns_more levels bit turned rest c t = record {
  small = omega (arith, next_level bit, t.small);
  whole = λ left e. turned_more turned rest left (reversed levels c) (t.whole (suc left) (omega arith));
}

pub turns_all : (levels turned rest c : ℕ) → Turns levels levels turned rest c → turned ≡ reversed levels c
turns_all levels turned rest c t = let w : turned * 1 + 0 ≡ reversed levels c = t.whole 0 (omega arith) in omega arith
