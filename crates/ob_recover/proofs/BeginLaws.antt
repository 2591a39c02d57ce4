-- The planner of the tables that are found, before any batch is repeated.
use Rattle.std.proofs.Common.{◌≡◌, ◌≢◌, inl, inr, Bool, ℕ, zero, suc, ◌<◌, false, List, Option, None, replicate, length, get_or, refl, ◌∙◌, ap, arith}
use Rattle.std.proofs.lemmas.List.{length-replicate}
use Rattle.std.proofs.lemmas.Bool.{cases_lt}
use Rattle.ob_base.specs.declared.params.Params.{Params}
use Rattle.ob_base.specs.Tree.{buckets}
use Rattle.ob_tables.specs.Buckets.{Buckets}
use Rattle.ob_tables.specs.declared.entry.Entry.{Entry}
use Rattle.ob_tables.specs.declared.tables.Tables.{Tables}
use Rattle.ob_tables.specs.Kept.{entry_at}
use Rattle.ob_tables.specs.Content.{Obeys, content_of}
use Rattle.ob_ring.specs.Ring.{IsRing, StandsFor}
use Rattle.ob_check.specs.Fresh.{AreIdle}
use Rattle.ob_stand.specs.Table.{flat_of, ring_of}
use Rattle.ob_stand.proofs.Reading.{rings_stand}
use Rattle.ob_recover.proofs.RepeatLaws.{past}

low_present : (book : List (Option Entry)) (n k : ℕ) → length book ≡ n → entry_at book k ≢ None → k < n
low_present book n k many present = elim (cases_lt k n) [
  | inl low ↦ low
  | inr high ↦ absurd (present (past book None k (omega arith)))
]

pub ring_rules : (p : Params) (t : Tables Buckets) → Obeys p (content_of t) → AreIdle p t → IsRing (ring_of p t)
ring_rules p t obeys idle = record {
  book = record { many = obeys.book.many; leaves = λ k e is. (obeys.book.entries k e is).leaf };
  metas = record {
    many = obeys.many;
    marks = ap length idle.lifted ∙ length-replicate (buckets p) false;
    slots = λ u low. (obeys.versions u low).slots;
  };
  counter = obeys.counter;
  stash_low = λ k held. low_present t.book p.keys k obeys.book.many ((obeys.stash k).0 held).0;
  room = let same = idle.room in omega arith;
}

none_lifted : (n u : ℕ) → get_or (replicate n false) u false ≡ false
none_lifted zero u = refl
none_lifted (suc n) zero = refl
none_lifted (suc n) (suc u) = none_lifted n u

pub ring_stands : (p : Params) (t : Tables Buckets) → Obeys p (content_of t) → AreIdle p t → StandsFor (ring_of p t) (flat_of p (content_of t))
ring_stands p t obeys idle = rings_stand p t obeys (λ u. ap (λ (l : List Bool). get_or l u false) idle.lifted ∙ none_lifted (buckets p) u)
