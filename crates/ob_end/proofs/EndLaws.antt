-- Where the store stood, what was made is an end of the epoch, and what it then stands for.
use Rattle.std.specs.Prelude.{◌≡◌, ℕ, suc, ◌<◌, ◌≤◌, ◌^◌, false, List, [], Some, length}
use Rattle.std.proofs.Common.{arith, refl, sym, ap, ◌∙◌, subst}
use Rattle.ob_base.specs.declared.params.Params.{Params}
use Rattle.ob_base.specs.declared.value.Write.{Write}
use Rattle.ob_tables.specs.Buckets.{Buckets, is_lifted}
use Rattle.ob_tables.specs.Content.{Obeys, Rows}
use Rattle.ob_end.specs.EndWrites.{IsEndOfRing, content_left, rows_left}
use Rattle.ob_end.specs.Lifts.{LiftsAreRead}
use Rattle.ob_stand.specs.Table.{buckets_of, flat_of}
use Rattle.ob_stand.proofs.Reading.{rings_stand}
use Rattle.ob_fetch.specs.Fetches.{RunsAt, unlisted}
use Rattle.ob_fetch.proofs.NextLaws.{seals_listed, stands_listed}
use Rattle.ob_recover.proofs.RepeatLaws.{repeated_none}
use Rattle.ob_recover.specs.Repeats.{AreRepeated, IsPlannerOf, content_of_ring, table_after_records}
use Rattle.ob_ring.specs.FlatTable.{FinalLifts, after, stash_size}
use Rattle.ob_ring.specs.Ring.{Kept, StandsFor}
use Rattle.ob_ring.specs.Writing.{write_at}
use Rattle.ob_seal.specs.declared.keys.Keys.{Keys}
use Rattle.ob_stand.specs.Ends.{RingEnd}
use Rattle.ob_stand.specs.Reads.{plains_in, slots_in}
use Rattle.ob_stand.specs.Stands.{RingStanding, Stands}
use Rattle.ob_store.specs.Disk.{Disk, Image}
use Rattle.ob_tables.specs.declared.entry.Entry.{Entry}
use Rattle.ob_tables.specs.declared.tables.Tables.{Tables}
use Rattle.ob_stand.specs.Values.{Values, with_entries}
use Rattle.ob_stand.specs.Runs.{slots_of}
use Rattle.ob_end.specs.EndRuns.{IsEndMade, end_writes, rows_ended}
use Rattle.ob_recover.specs.Fits.{IsPlannerFit}
use Rattle.ob_end.proofs.EndTables as tables
use Rattle.ob_end.proofs.MadeLaws as made_laws
use Rattle.ob_end.proofs.MakeLaws.{writes_are}
use Rattle.ob_end.proofs.StandEnds.{is_end, the_end}

-- the end that it is: with the ring's content, and the map with the writes
pub record IsEndWith (s : RingStanding) (g : ℕ) (new : Kept) (ws : List (Write × Entry)) : Type 0 where
  pub end : RingEnd
  pub is : IsEndOfRing s end g new
  pub map : end.map ≡ with_entries s.map ws

module _ (keys : Keys) (disk : Disk) (writes : List Write) (words : List ℕ) (g drawn next : ℕ) (ring new : Kept) (made : IsEndMade keys disk writes words g drawn next ring new)
    (low : (i : ℕ) → i < length writes → (write_at writes i).key < (ring.p).keys) (short : (i : ℕ) (value : List ℕ) → i < length writes → (write_at writes i).value ≡ Some value → length value ≤ 64)
    (fit : IsPlannerFit ring) (small : g < 2 ^ 64) (few_fit : rows_ended ring.p fit.table (end_writes ring.p writes words g drawn) ≤ (ring.p).room)
    (p : Params) (params : ring.p ≡ p) (s : RingStanding) (tells : disk.tells) (stands : Stands keys p s disk.cells) (planner : IsPlannerOf p s.content s.records (unlisted ring))
    (read : AreRepeated p (slots_in keys p s.content disk.cells) (flat_of p s.content) (s.content).rows (ring.stash).rows s.records) (under : g ≡ s.generation)
    (few : rows_ended p (table_after_records p (flat_of p s.content) s.records) (end_writes p writes words g drawn) ≤ p.room) where
  abbrev lifted : Kept
  lifted = made.lifted

  same : lifted.p ≡ ring.p
  same = made_laws.same keys disk writes words g drawn next ring new made low short

  path : p ≡ lifted.p
  path = sym params ∙ sym same

  stands0 : StandsFor ring (table_after_records p (flat_of p s.content) s.records)
  stands0 = stands_listed ring (table_after_records p (flat_of p s.content) s.records) planner.table

  lifts : LiftsAreRead lifted.p (slots_in keys lifted.p s.content disk.cells) (table_after_records lifted.p (flat_of lifted.p s.content) s.records) (ring.stash).rows (lifted.stash).rows
  lifts = subst (λ (q : Params). LiftsAreRead q (slots_in keys q s.content disk.cells) (table_after_records q (flat_of q s.content) s.records) (ring.stash).rows (lifted.stash).rows) path
      (subst (λ (q : Params). LiftsAreRead q (slots_of q (s.content).versions (plains_in keys disk.cells)) (table_after_records p (flat_of p s.content) s.records) (ring.stash).rows (lifted.stash).rows) params
      (made.read (record (buckets_of p s.content) { order = (ring.metas).order }) (table_after_records p (flat_of p s.content) s.records) (seals_listed (buckets_of p s.content) ring planner.seals) stands0 tells))

  table : StandsFor lifted (after lifted.p (table_after_records lifted.p (flat_of lifted.p s.content) s.records) FinalLifts)
  table = subst (λ (q : Params). StandsFor lifted (after q (table_after_records q (flat_of q s.content) s.records) FinalLifts)) path
      (subst (λ (q : Params). StandsFor lifted (after q (table_after_records p (flat_of p s.content) s.records) FinalLifts)) params
      (made.table (table_after_records p (flat_of p s.content) s.records) stands0))

  writes_at : end_writes p writes words g drawn ≡ tables.ws lifted new writes words g drawn next made.renews
  writes_at = sym (writes_are p (table_after_records p (flat_of p s.content) s.records) lifted (sym path) writes words g drawn)

  few_at : stash_size lifted.p (tables.t3 lifted new writes words g drawn next made.renews (after lifted.p (table_after_records lifted.p (flat_of lifted.p s.content) s.records) FinalLifts) table) ≤ (lifted.p).room
  few_at = subst (λ (w : List (Write × Entry)). rows_ended lifted.p (table_after_records lifted.p (flat_of lifted.p s.content) s.records) w ≤ (lifted.p).room) writes_at
      (subst (λ (q : Params). rows_ended q (table_after_records q (flat_of q s.content) s.records) (end_writes p writes words g drawn) ≤ q.room) path few)

  stands_at : Stands keys lifted.p s disk.cells
  stands_at = subst (λ (q : Params). Stands keys q s disk.cells) path stands

  planner_at : IsPlannerOf lifted.p s.content s.records (unlisted ring)
  planner_at = subst (λ (q : Params). IsPlannerOf q s.content s.records (unlisted ring)) path planner

  read_at : AreRepeated lifted.p (slots_in keys lifted.p s.content disk.cells) (flat_of lifted.p s.content) (s.content).rows (ring.stash).rows s.records
  read_at = subst (λ (q : Params). AreRepeated q (slots_in keys q s.content disk.cells) (flat_of q s.content) (s.content).rows (ring.stash).rows s.records) path read

  book : lifted.book ≡ ring.book
  book = ap (λ (r : Kept). r.book) made.kept

  pub end_with : IsEndWith s g new (end_writes p writes words g drawn)
  end_with =
      let whole = made_laws.whole1 keys disk writes words g drawn next ring new made low short fit small few_fit in
      let fit_ws = made_laws.fit_writes keys disk writes words g drawn next ring new made low short in
      record {
        end = the_end keys s disk.cells ring lifted new writes words g drawn next made.renews stands_at planner_at read_at lifts book made.seals table fit_ws under few_at whole;
        is = is_end keys s disk.cells ring lifted new writes words g drawn next made.renews stands_at planner_at read_at lifts book made.seals table fit_ws under few_at whole (tables.renewed_p lifted new writes words g drawn next made.renews);
        map = ap (with_entries s.map) (sym writes_at);
      }

-- ---- what the run is then at

module _ (p : Params) (new last : Kept) (kept : last ≡ record new { stash = last.stash }) (rows : (last.stash).rows ≡ rows_left new) (params : new.p ≡ p) where
  pub content_is : content_of_ring last ≡ content_left new
  content_is =
      ap content_of_ring kept
      ∙ ap (λ (r : Rows). record { counter = new.counter; book = new.book; versions = (new.metas).versions; rows = r }) rows

  last_p : last.p ≡ p
  last_p = ap (λ (r : Kept). r.p) kept ∙ params

  module _ (obeys : Obeys p (content_left new)) (none : (u : ℕ) → is_lifted new.metas u ≡ false) (room : (last.stash).room ≡ p.keys) where
    abbrev tables_then : Tables Buckets
    tables_then = record { book = last.book; metas = record last.metas { order = [] }; stash = last.stash; counter = last.counter }

    stands_then : StandsFor (record (unlisted last) { p = p }) (flat_of p (content_of_ring last))
    stands_then = rings_stand p tables_then (subst (Obeys p) (sym content_is) obeys) (λ u. ap (λ (r : Kept). is_lifted r.metas u) kept ∙ none u)

    pub planner_then : IsPlannerOf p (content_of_ring last) [] (unlisted last)
    planner_then = record {
      params = last_p;
      table = subst (λ (q : Params). StandsFor (record (unlisted last) { p = q }) (flat_of p (content_of_ring last))) (sym last_p) stands_then;
      entries = λ k. refl;
      seals = record { homes = λ u. refl; generations = λ u. refl; bases = λ u. refl; ranks = λ u. refl; order = refl };
      counter = refl;
      room = room;
    }

    pub runs_then : (keys : Keys) (s : RingStanding) (image : Image) (m : Values) (epoch g left : ℕ) → epoch ≡ suc s.epoch → g ≡ s.generation → left ≡ p.batches
        → RunsAt keys p epoch g left last (record { epoch = suc s.epoch; generation = s.generation; map = m; content = content_of_ring last; records = [] }) image
    runs_then keys s image m epoch g left at under all = record {
      epoch_is = at;
      generation_is = under;
      left_are = omega (arith, all);
      planner = planner_then;
      read = repeated_none p (slots_in keys p (content_of_ring last) image) (flat_of p (content_of_ring last)) (last.stash).rows;
    }
