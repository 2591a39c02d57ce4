-- A run that is ready is so in one way, once its table and its map are those that its planner has: so the fact can be kept.
use Rattle.std.specs.Prelude.{◌≡◌, ℕ, ◌*◌, ◌<◌, ◌≤◌, ◌^◌, true, List, [], length}
use Rattle.std.specs.declared.option.Option.TheVariants.{None, Some}
use Rattle.std.specs.Prelude.{Option}
use Rattle.std.specs.FinMap as finite
use Rattle.std.proofs.Common.{arith, refl, sym, ap, ◌∙◌}
use Rattle.std.proofs.Props.{props}
use mathlib.Core.HLevel.{is_prop→PathP}
use mathlib.Core.Logic.{∥∥₁_elim}
use mathlib.Core.Sum.{⊎_set}
use Rattle.ob_base.specs.Layout.{checkpoint_cells}
use Rattle.ob_base.specs.Planned.{most_jobs}
use Rattle.ob_base.specs.Tree.{buckets, width}
use Rattle.ob_tables.specs.Buckets.{version_at}
use Rattle.ob_tables.specs.Version.{key_at}
use Rattle.ob_tables.specs.Content.{FitsBook, FitsSeals}
use Rattle.ob_tables.specs.Spelling.{slot_bytes}
use Rattle.ob_end.specs.EndRuns.{IsEndReady}
use Rattle.ob_recover.specs.Fits.{IsPlannerFit}
use Rattle.ob_stand.specs.Plans.{AreAllWhole}
use Rattle.ob_fetch.specs.declared.run.Run.{Run}
use Rattle.ob_ring.specs.FlatTable.{FlatTable, In, InStash, Row, Spot, spot_of}
use Rattle.ob_ring.specs.Ring.{Kept, StandsFor}
use Rattle.ob_recover.proofs.Once.{table_once}
use Rattle.ob_stand.specs.Takes.{is_present}
use Rattle.ob_stand.specs.Values.{Values}
use Rattle.ob_stand.specs.Carries.{Carries, Slots}

-- ---- a map that the stash's rows are of: the keys that lie in a bucket have no byte

abbrev value_at : Spot → Option (List ℕ) → Option (List ℕ)
value_at InStash row = row
value_at (In u j) row = Some []

abbrev plain_map : Kept → FlatTable → Values
plain_map ring t k = value_at (spot_of (t.rows k)) (finite.get (ring.stash).rows k)

abbrev bytes_of : Option ℕ → List ℕ
bytes_of None = []
bytes_of (Some k) = slot_bytes k []

abbrev plain_slots : Kept → Slots
plain_slots ring u j = bytes_of (key_at (version_at (ring.metas).versions u) j)

record IsFitAt (ring : Kept) (t : FlatTable) : Type 0 where
  stands : StandsFor ring t
  carries : Carries ring.p t (ring.stash).rows (plain_slots ring) (plain_map ring t)
  book : FitsBook ring.p ring.book
  seals : (u : ℕ) → u < buckets ring.p → FitsSeals (version_at (ring.metas).versions u)
  whole : AreAllWhole ring.p ring.metas

some_nil : (value : List ℕ) → ◌≡◌ {A = Option (List ℕ)} (Some []) (Some value) → value ≡ []
some_nil value e = cc

placed_present : (x : Option Row) (u j : ℕ) → spot_of x ≡ In u j → is_present x ≡ true
placed_present None u j e = absurd (cc)
placed_present (Some r) u j e = refl

module _ (ring : Kept) (fit : IsPlannerFit ring) where
  abbrev t : FlatTable
  t = fit.table

  abbrev c : Carries ring.p t (ring.stash).rows fit.slots fit.map
  c = fit.carries

  keys_by : (k : ℕ) (s : Spot) → spot_of (t.rows k) ≡ s → is_present (t.rows k) ≡ is_present (value_at s (finite.get (ring.stash).rows k))
  keys_by k InStash e = c.keys k ∙ ap is_present (sym (c.held k e))
  keys_by k (In u j) e = placed_present (t.rows k) u j e

  short_by : (k : ℕ) (value : List ℕ) (s : Spot) → spot_of (t.rows k) ≡ s → value_at s (finite.get (ring.stash).rows k) ≡ Some value → length value ≤ 64
  short_by k value InStash e is = c.short k value (sym (c.held k e) ∙ is)
  short_by k value (In u j) e is = let none : length value ≡ 0 = ap length (some_nil value is) in omega arith

  placed_by : (k u j : ℕ) (value : List ℕ) → spot_of (t.rows k) ≡ In u j → plain_map ring t k ≡ Some value → plain_slots ring u j ≡ slot_bytes k value
  placed_by k u j value e is =
      let nil : value ≡ [] = some_nil value (sym (ap (λ (s : Spot). value_at s (finite.get (ring.stash).rows k)) e) ∙ is) in
      ap bytes_of (((fit.stands).arrays.spots_are k u j).0 e) ∙ ap (slot_bytes k) (sym nil)

  fit_at : IsFitAt ring t
  fit_at = record {
    stands = fit.stands;
    carries = record {
      low = c.low;
      keys = λ k. keys_by k (spot_of (t.rows k)) refl;
      short = λ k value is. short_by k value (spot_of (t.rows k)) refl is;
      held = λ k e. sym (ap (λ (s : Spot). value_at s (finite.get (ring.stash).rows k)) e);
      others = c.others;
      placed = placed_by;
    };
    book = fit.book;
    seals = fit.seals;
    whole = fit.whole;
  }

fit_prop : (ring : Kept) (t : FlatTable) → IsProp (IsFitAt ring t)
fit_prop ring t = hlevel (props, ⊎_set)

fit_once : (ring : Kept) → IsProp ((t : FlatTable) × IsFitAt ring t)
fit_once ring a b =
    let same : a.0 ≡ b.0 = table_once ring a.0 b.0 (a.1).stands (b.1).stands in
    λ i. (same i, is_prop→PathP (λ j. IsFitAt ring (same j)) (λ j. fit_prop ring (same j)) a.1 b.1 i)

-- ---- the run

record IsReadyOnce (run : Run) : Type 0 where
  params : (run.ring).p ≡ run.params
  rooms : ((run.jobs).room ≡ most_jobs run.params) × ((run.jobs).place_room ≡ (run.params).places)
  words : (run.params).places ≤ length (run.words).items
  few : run.left ≤ (run.params).batches
  small : run.epoch < 2 ^ 62
  generation : (run.sealer).generation < 2 ^ 62
  own_words : (run.params).writes ≤ length (run.words).items
  all_words : buckets run.params * width run.params ≤ length (run.words).items
  sheet : length run.sheet ≡ 96 * checkpoint_cells run.params
  planner : (t : FlatTable) × IsFitAt run.ring t

once : (run : Run) → IsEndReady run → IsReadyOnce run
once run is = record {
  params = (is.ready).params;
  rooms = (is.ready).rooms;
  words = (is.ready).words;
  few = (is.ready).few;
  small = (is.ready).small;
  generation = (is.ready).generation;
  own_words = is.own_words;
  all_words = is.all_words;
  sheet = is.sheet;
  planner = ((is.planner).table, fit_at run.ring is.planner);
}

once_prop : (run : Run) → IsProp (IsReadyOnce run)
once_prop run = hlevel (props, fit_once)

back : (run : Run) → IsReadyOnce run → IsEndReady run
back run is = record {
  ready = record { params = is.params; rooms = is.rooms; words = is.words; few = is.few; small = is.small; generation = is.generation; table = ((is.planner).0, ((is.planner).1).stands) };
  own_words = is.own_words;
  all_words = is.all_words;
  sheet = is.sheet;
  planner = record {
    table = (is.planner).0;
    stands = ((is.planner).1).stands;
    slots = plain_slots run.ring;
    map = plain_map run.ring (is.planner).0;
    carries = ((is.planner).1).carries;
    book = ((is.planner).1).book;
    seals = ((is.planner).1).seals;
    whole = ((is.planner).1).whole;
  };
}

pub ready_of : (run : Run) → ∥ IsEndReady run ∥₁ → IsEndReady run
ready_of run kept = back run (∥∥₁_elim kept (once_prop run) (once run))
