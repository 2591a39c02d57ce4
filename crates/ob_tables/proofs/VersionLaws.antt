-- Versions that are filled.
use Rattle.std.specs.Prelude.{◌≡◌, ◌<◌, ◌≤◌, ℕ, ◌+◌, ◌-◌, Bool, false, true, List, [], ◌∷◌, ◌++◌, Option, Some, None, map, replicate, length, slice_get, slice_index}
use Rattle.std.specs.List.{range_with_len, refill}
use Rattle.std.proofs.Common.{zero, suc, arith, refl, sym, ap, ◌∙◌, get_or, length-append, add-one}
use Rattle.std.proofs.lemmas.List.{length-map, length-replicate, ext_get_or, get_or-replicate, replicate-append-replicate, take_at}
use Rattle.std.proofs.lemmas.List.FromFn.{length-map-range_with_len, get_or-map-range_with_len, length-range_with_len, get_or-range_with_len}
use Rattle.ob_base.specs.declared.params.Params.{Params}
use Rattle.ob_base.specs.Tree.{width}
use Rattle.ob_tables.specs.Rank.{rank, ranks_of}
use Rattle.ob_tables.specs.Version.{Version, AreRanks, IsWhole, filled, sealed_anew, blank}
use Rattle.ob_tables.proofs.Counting.{range_more}
use Rattle.ob_tables.proofs.RankLaws.{rank_within, rank_apart}

none_among : (m k : ℕ) → get_or (replicate {A = Option ℕ} m None) k None ≡ None
none_among zero k = refl
none_among (suc m) zero = refl
none_among (suc m) (suc k) = none_among m k

padded_at : (keys : List ℕ) (m k : ℕ) → get_or (map (λ k. Some k) keys ++ replicate m None) k None ≡ slice_get keys k
padded_at [] m k = none_among m k
padded_at (x ∷ keys) m zero = refl
padded_at (x ∷ keys) m (suc k) = padded_at keys m k

pub length-padded : (keys : List ℕ) (n : ℕ) → length keys ≤ n → length (map (λ (k : ℕ). Some k) keys ++ replicate (n - length keys) None) ≡ n
length-padded keys n few = omega (arith, length-append (map (λ (k : ℕ). Some k) keys) (replicate {A = Option ℕ} (n - length keys) None), length-map keys (λ (k : ℕ). Some k), length-replicate {A = Option ℕ} (n - length keys) None)

-- the keys, and none behind them
pub padded_is : (places : List (Option ℕ)) (keys : List ℕ) (n : ℕ) → length places ≡ n → length keys ≤ n → ((k : ℕ) → k < n → get_or places k None ≡ slice_get keys k) → places ≡ map (λ k. Some k) keys ++ replicate (n - length keys) None
padded_is places keys n long few at = ext_get_or None places (map (λ k. Some k) keys ++ replicate (n - length keys) None) (long ∙ sym (length-padded keys n few))
    (λ k h. at k (omega arith) ∙ sym (padded_at keys (n - length keys) k))

-- ranks are those of a version
pub ranks_are : (words : List ℕ) → AreRanks (ranks_of words)
ranks_are words =
    let n : length (ranks_of words) ≡ length words = length-map-range_with_len (rank words) 0 (length words) in
    let at : (j : ℕ) → j < length words → slice_index (ranks_of words) j ≡ rank words j = λ j h. get_or-map-range_with_len (rank words) 0 (length words) j j 0 h (omega arith) in
    record {
      low = λ j h. (let k : j < length words = omega arith in omega (arith, at j k, rank_within words j k));
      apart = λ i j h k e. (let a : i < length words = omega arith in let b : j < length words = omega arith in rank_apart words i j a b (sym (at i a) ∙ e ∙ at j b));
    }

pub whole_filled : (v : Version) (home generation base : ℕ) (keys words : List ℕ) → IsWhole v → home < 2 → length keys ≤ length v.keys → length words ≡ length v.ranks → IsWhole (filled v home generation base keys words)
whole_filled v home generation base keys words w small few long =
    let n : length (ranks_of words) ≡ length words = length-map-range_with_len (rank words) 0 (length words) in
    record {
      home = small;
      keys = omega (arith, length-padded keys (length v.keys) few, w.keys);
      used = omega (arith, length-replicate {A = Bool} (length words) false);
      ranks = ranks_are words;
    }

refilled : {X : Type 0} (xs ws target : List X) → ws ≡ target → length target ≡ length xs → refill (length xs) xs ws ≡ target
refilled xs ws target same long = take_at ws _ (length xs) (ap length same ∙ long) ∙ same

pub version_of : (h h' g g' b b' : ℕ) (k k' : List (Option ℕ)) (r r' : List ℕ) (u u' : List Bool) → h ≡ h' → g ≡ g' → b ≡ b' → k ≡ k' → r ≡ r' → u ≡ u'
    → ◌≡◌ {A = Version} (record { home = h; generation = g; base = b; keys = k; ranks = r; used = u }) (record { home = h'; generation = g'; base = b'; keys = k'; ranks = r'; used = u' })
version_of h h' g g' b b' k k' r r' u u' a c d e f i = rw (a, c, d, e, f, i) refl

-- a version whose parts were written anew
pub filled_is : (v : Version) (home generation base : ℕ) (keys words : List ℕ) (places : List (Option ℕ)) (ranks : List ℕ) (used : List Bool)
    → IsWhole v → length keys ≤ length v.keys → length words ≡ length v.ranks
    → places ≡ map (λ k. Some k) keys ++ replicate (length v.keys - length keys) None → ranks ≡ ranks_of words → used ≡ replicate (length v.used) false
    → ◌≡◌ {A = Version} (record { home = home; generation = generation; base = base; keys = refill (length v.keys) v.keys places; ranks = refill (length v.ranks) v.ranks ranks; used = refill (length v.used) v.used used })
    (filled v home generation base keys words)
filled_is v home generation base keys words places ranks used w few long is_places is_ranks is_used =
    let many : length (replicate (length words) false) ≡ length v.used = length-replicate {A = Bool} (length words) false ∙ long ∙ sym w.used in
    let marks : used ≡ replicate (length words) false = is_used ∙ ap (λ (n : ℕ). replicate n false) (w.used ∙ sym long) in
    version_of home home generation generation base base _ _ _ _ _ _ refl refl refl
    (refilled v.keys places (map (λ k. Some k) keys ++ replicate (length v.keys - length keys) None) is_places (length-padded keys (length v.keys) few))
    (refilled v.ranks ranks (ranks_of words) is_ranks (length-map-range_with_len (rank words) 0 (length words) ∙ long))
    (refilled v.used used (replicate (length words) false) marks many)

-- ---- the keys stay

pub whole_sealed : (v : Version) (home generation base : ℕ) (words : List ℕ) → IsWhole v → home < 2 → length words ≡ length v.ranks → IsWhole (sealed_anew v home generation base words)
whole_sealed v home generation base words w small long =
    let n : length (ranks_of words) ≡ length words = length-map-range_with_len (rank words) 0 (length words) in
    record {
      home = small;
      keys = omega (arith, w.keys);
      used = omega (arith, length-replicate {A = Bool} (length words) false);
      ranks = ranks_are words;
    }

pub sealed_is : (v : Version) (home generation base : ℕ) (words ranks : List ℕ) (used : List Bool)
    → IsWhole v → length words ≡ length v.ranks → ranks ≡ ranks_of words → used ≡ replicate (length v.used) false
    → ◌≡◌ {A = Version} (record { home = home; generation = generation; base = base; keys = v.keys; ranks = refill (length v.ranks) v.ranks ranks; used = refill (length v.used) v.used used }) (sealed_anew v home generation base words)
sealed_is v home generation base words ranks used w long is_ranks is_used =
    let many : length (replicate (length words) false) ≡ length v.used = length-replicate {A = Bool} (length words) false ∙ long ∙ sym w.used in
    let marks : used ≡ replicate (length words) false = is_used ∙ ap (λ (n : ℕ). replicate n false) (w.used ∙ sym long) in
    version_of home home generation generation base base _ _ _ _ _ _ refl refl refl refl
    (refilled v.ranks ranks (ranks_of words) is_ranks (length-map-range_with_len (rank words) 0 (length words) ∙ long))
    (refilled v.used used (replicate (length words) false) marks many)

pub replicate_is : (xs : List Bool) (n : ℕ) → length xs ≡ n → ((k : ℕ) → k < n → get_or xs k true ≡ false) → xs ≡ replicate n false
replicate_is xs n long at = ext_get_or true xs (replicate n false) (long ∙ sym (length-replicate {A = Bool} n false))
    (λ k h. (let low : k < n = omega arith in at k low ∙ sym (get_or-replicate n k false true low)))

-- ---- before any version was written

pub replicate_more : {X : Type 0} (n : ℕ) (x : X) → replicate (n + 1) x ≡ replicate n x ++ x ∷ []
replicate_more n x = sym (replicate-append-replicate n 1 x)

pub range_up : (n : ℕ) → range_with_len 0 (n + 1) ≡ range_with_len 0 n ++ n ∷ []
range_up n = rw add-one (range_more 0 n n (omega arith))

pub ranks_own : (n : ℕ) → AreRanks (range_with_len 0 n)
ranks_own n =
    let many : length (range_with_len 0 n) ≡ n = length-range_with_len 0 n in
    let at : (j : ℕ) → j < n → slice_index (range_with_len 0 n) j ≡ j = λ j h. (let e : slice_index (range_with_len 0 n) j ≡ 0 + j = get_or-range_with_len 0 n j 0 h in omega arith) in
    record {
      low = λ j h. (let k : j < n = omega arith in omega (arith, at j k));
      apart = λ i j h k e. (let a : i < n = omega arith in let b : j < n = omega arith in omega (arith, at i a, at j b));
    }

pub whole_blank : (p : Params) → IsWhole (blank p)
whole_blank p = record {
  home = omega arith;
  keys = omega (arith, length-replicate {A = Option ℕ} p.real None, length-range_with_len 0 (width p));
  used = length-replicate {A = Bool} (width p) false ∙ sym (length-range_with_len 0 (width p));
  ranks = ranks_own (width p);
}
