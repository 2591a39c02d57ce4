-- No index of a bucket's version is shown twice, and its reads are numbered in a row.
use Rattle.std.specs.Prelude.{◌≡◌, ℕ, ◌+◌, ◌<◌, ◌==◌, Bool, false, cond, ◌&&◌, ◌||◌, List, [], ◌∷◌, ⊤}
use Rattle.ob_base.specs.declared.params.Params.{Params}
use Rattle.ob_ring.specs.FlatTable.{FlatTable, Shown, reads}

-- what was shown of the present versions, by bucket and index, and how many reads of each bucket there were
pub record Seen : Type 0 where
  pub shown : ℕ → ℕ → Bool
  pub next : ℕ → ℕ

abbrev pub with_shown : Seen → Shown → Seen
with_shown k s = record {
  shown = λ u j. ((u == s.bucket) && (j == s.index)) || k.shown u j;
  next = λ u. k.next u + cond (u == s.bucket) 1 0;
}

abbrev pub with_all : Seen → List Shown → Seen
with_all k [] = k
with_all k (s ∷ ss) = with_all (with_shown k s) ss

-- each index is one of the bucket's, wasn't seen nor shown earlier in the list, and has the bucket's next number
abbrev pub AreNew : Params → Seen → List Shown → Type 0
AreNew p k [] = ⊤
AreNew p k (s ∷ ss) = (s.index < p.real + p.dummies) × (k.shown s.bucket s.index ≡ false) × (s.number ≡ k.next s.bucket) × AreNew p (with_shown k s) ss

-- of a bucket that isn't lifted, what was shown is what is marked as used
pub record Marks (p : Params) (t : FlatTable) (k : Seen) : Type 0 where
  pub shown_is : (u j : ℕ) → t.lifted u ≡ false → k.shown u j ≡ t.used u j
  pub next_is : (u : ℕ) → t.lifted u ≡ false → k.next u ≡ reads p t u
