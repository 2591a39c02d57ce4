-- The public state of a content, at an opening and at an end.
use Rattle.std.specs.Prelude.{◌≡◌, ℕ, Bool, List, [], length, Option}
use Rattle.std.specs.List.{count_by}
use Rattle.ob_base.specs.declared.params.Params.{Params}
use Rattle.ob_tables.specs.Rank.{IsRanking}
use Rattle.ob_tables.specs.Version.{Version, AreRanks, rank_at}
use Rattle.ob_tables.specs.Buckets.{Buckets, version_at}
use Rattle.ob_tables.specs.Content.{Content, Obeys}
use Rattle.ob_schedule.specs.Schedule.{Public, after_end, counts_now}
use Rattle.ob_ring.specs.Arrays.{AreWhole, IsTableOf, arrays_of, rest_of}
use Rattle.ob_ring.specs.Filling.{AreSealedAnew}
use Rattle.ob_ring.specs.FlatTable.{FlatTable, FinalLifts, Writes, Refill, after, refill_order}
use Rattle.ob_ring.specs.Laws.{IsOrderly}
use Rattle.ob_ring.specs.Sound.{IsCounted}
use Rattle.ob_stand.specs.Table.{flat_of}

-- how many indexes of a bucket's version were shown
abbrev pub marks_of : Content → ℕ → ℕ
marks_of c u = count_by (λ b. b) (version_at c.versions u).used

-- what the store may know of a content at its epoch's end, with the register gates that are open
abbrev pub public_of : Content → ℕ → (ℕ → Bool) → Public
public_of c epoch gates = record {
  epoch = epoch;
  homes = λ u. (version_at c.versions u).home;
  counts = marks_of c;
  counter = c.counter;
  gates = gates;
  leaves = [];
}

-- as an opening counts them, no bucket is lifted and each was read as often as indexes are marked
abbrev pub OpeningCounts : Type 0
OpeningCounts = (p : Params) (c : Content) (epoch : ℕ) (gates : ℕ → Bool) → Obeys p c → IsCounted p (flat_of p c) (counts_now p (public_of c epoch gates))

-- the table before the refill, from the table before the final lifts
abbrev pub lifted_and_written : Params → FlatTable → List (ℕ × Option ℕ) → FlatTable
lifted_and_written p t ws = after p (after p t FinalLifts) (Writes ws)

-- After an end the public state that the schedule tells is that of the content then: `t` is the table before the final lifts, `old` the
-- buckets before the refill.
pub record IsEndPublic (p : Params) (q : Public) (t : FlatTable) (ws : List (ℕ × Option ℕ)) (old new : Buckets) (words : List ℕ) (first : ℕ × ℕ) (c : Content) : Type 0 where
  pub orderly : IsOrderly p t
  pub counted : IsCounted p t (counts_now p q)
  pub counter : t.counter ≡ q.counter
  pub homes : (u : ℕ) → q.homes u ≡ (version_at old.versions u).home
  pub listed : old.order ≡ refill_order p (lifted_and_written p t ws)
  pub anew : AreSealedAnew p old new words first (length old.order)
  pub whole : AreWhole p new
  pub versions : c.versions ≡ new.versions
  pub obeys : Obeys p c
  pub table : IsTableOf p (arrays_of new (rest_of c.book c.counter)) (after p (lifted_and_written p t ws) Refill)

abbrev pub EndCounts : Type 0
EndCounts = (p : Params) (q : Public) (t : FlatTable) (ws : List (ℕ × Option ℕ)) (old new : Buckets) (words : List ℕ) (first : ℕ × ℕ) (c : Content)
    → IsEndPublic p q t ws old new words first c → after_end p q ≡ public_of c (after_end p q).epoch (after_end p q).gates

-- the slots of a version's indexes are a ranking
abbrev pub SlotsRank : Type 0
SlotsRank = (v : Version) → AreRanks v.ranks → IsRanking (length v.ranks) (rank_at v)
