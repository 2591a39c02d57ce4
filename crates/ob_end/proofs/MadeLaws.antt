-- What an end made obeys, and is one of the epoch that stands.
use Rattle.std.specs.Prelude.{◌≡◌, ℕ, zero, suc, ◌+◌, ◌-◌, ◌*◌, ◌<◌, ◌≤◌, ◌^◌, Bool, true, false, List, [], ◌∷◌, Some, take, drop, length, slice_index, slice_index_or}
use Rattle.std.proofs.lemmas.Bool.{true≢false}
use Rattle.std.proofs.Math.Seq.{take-length}
use Rattle.std.proofs.Common.{arith, sym, ap, ◌∙◌, subst}
use Rattle.ob_base.specs.declared.params.Params.{Params}
use Rattle.ob_base.specs.declared.value.Write.{Write}
use Rattle.ob_base.specs.Layout.{checkpoint_cells}
use Rattle.ob_base.specs.Tree.{buckets, width}
use Rattle.ob_tables.specs.Buckets.{is_lifted, version_at}
use Rattle.ob_tables.specs.Version.{Version}
use Rattle.ob_tables.specs.Content.{FitsBook, FitsSeals, Obeys}
use Rattle.ob_end.specs.EndWrites.{AreSealedFrom, all_seals, content_left, rows_left}
use Rattle.ob_stand.specs.Plans.{AreAllWhole}
use Rattle.ob_stand.specs.Valued.{IsEnd}
use Rattle.ob_stand.proofs.Calling.{calls_join, writes_are_fit}
use Rattle.ob_stand.proofs.Plans.{refill_plans}
use Rattle.ob_ring.specs.Arrays.{IsTableOf, arrays_of, rest_of}
use Rattle.ob_ring.specs.Filling.{base_of}
use Rattle.ob_ring.specs.Laws.{IsOrderly}
use Rattle.ob_ring.specs.FlatTable.{FlatTable, FinalLifts, Refill, Writes, after, refill_order, stash_size}
use Rattle.ob_ring.specs.Ring.{Kept, StandsFor}
use Rattle.ob_ring.specs.Writing.{entries_after, leaf_writes, write_at, writes_of}
use Rattle.ob_schedule.specs.Paths.{is_one_of}
use Rattle.ob_seal.specs.declared.keys.Keys.{Keys}
use Rattle.ob_store.specs.Disk.{Disk}
use Rattle.ob_tables.specs.Kept.{Held, entry_at}
use Rattle.ob_tables.specs.declared.entry.Entry.{Entry}
use Rattle.ob_stand.proofs.KeyLaws.{picked_are_taken}
use Rattle.ob_stand.specs.Values.{Values, with_entries}
use Rattle.ob_stand.specs.Carries.{Carries}
use Rattle.ob_stand.specs.ValueLaws.{AreFit}
use Rattle.ob_end.specs.EndRuns.{AreFilledAnew, IsEndMade, TakeBucketWords, end_writes, rows_ended, seals_for_end, table_ended}
use Rattle.ob_recover.specs.Fits.{IsPlannerFit}
use Rattle.ob_end.proofs.EndTables as tables
use Rattle.ob_recover.proofs.JoinLaws.{carries_then, joined, map_then}
use Rattle.ob_end.proofs.MakeLaws.{rows_are, seals_are, writes_are}

module _ (keys : Keys) (disk : Disk) (writes : List Write) (words : List ℕ) (g drawn next : ℕ) (ring new : Kept) (made : IsEndMade keys disk writes words g drawn next ring new)
    (low : (i : ℕ) → i < length writes → (write_at writes i).key < (ring.p).keys) (short : (i : ℕ) (value : List ℕ) → i < length writes → (write_at writes i).value ≡ Some value → length value ≤ 64) where
  abbrev lifted : Kept
  lifted = made.lifted

  pub same : lifted.p ≡ ring.p
  same = ap (λ (r : Kept). r.p) made.kept

  pub new_p : new.p ≡ ring.p
  new_p = tables.renewed_p lifted new writes words g drawn next made.renews ∙ same

  abbrev ws : List (Write × Entry)
  ws = tables.ws lifted new writes words g drawn next made.renews

  pub fit_writes : AreFit lifted.p ws
  fit_writes = writes_are_fit lifted.p writes (take (lifted.p).writes words) (g, drawn) (λ i lt. subst (λ (q : Params). (write_at writes i).key < q.keys) (sym same) (low i lt)) short

  -- ---- what is written of it

  order_is : (new.metas).order ≡ ((made.renews).between.metas).order
  order_is = ((made.renews).filled).order

  between_p : (made.renews).between.p ≡ new.p
  between_p = tables.between_p lifted new writes words g drawn next made.renews ∙ sym (tables.renewed_p lifted new writes words g drawn next made.renews)

  pub sealed : AreSealedFrom new g next
  sealed = record {
    under = λ i lt. subst (λ (us : List ℕ). (version_at (new.metas).versions (slice_index us i)).generation ≡ g) (sym order_is)
        ((((made.renews).filled).anew).anew i (subst (λ (us : List ℕ). i < length us) order_is lt)).under;
    from = λ i lt. subst (λ (us : List ℕ). (version_at (new.metas).versions (slice_index us i)).base ≡ base_of new.p (g, next) i) (sym order_is)
        (subst (λ (q : Params). (version_at (new.metas).versions (slice_index ((made.renews).between.metas).order i)).base ≡ base_of q (g, next) i) between_p
        ((((made.renews).filled).anew).anew i (subst (λ (us : List ℕ). i < length us) order_is lt)).from);
  }

  pub seals_are_for : (t : FlatTable) → StandsFor ring t → all_seals new ≡ seals_for_end ring.p t
  seals_are_for t stands =
      ap (λ (q : Params). length (new.metas).order * width q + checkpoint_cells q) new_p
      ∙ ap (λ (us : List ℕ). length us * width ring.p + checkpoint_cells ring.p) (order_is ∙ (((made.renews).made).seals).order)
      ∙ ap (λ (q : Params). length (lifted.metas).order * width q + checkpoint_cells q) (sym same)
      ∙ seals_are ring.p t lifted same (made.table t stands) made.listed

  pub room_kept : (new.stash).room ≡ (ring.stash).room
  room_kept = ap (λ (r : Kept). (r.stash).room) ((made.renews).filled).kept ∙ ((made.renews).made).room ∙ made.room

  -- the table then
  pub table_then : (t : FlatTable) → StandsFor ring t → (last : Kept) → last ≡ record new { stash = last.stash } → StandsFor last (table_ended ring.p t (end_writes ring.p writes words g drawn))
  table_then t stands last kept =
      subst (λ (r : Kept). StandsFor r (table_ended ring.p t (end_writes ring.p writes words g drawn))) (sym kept)
      (subst (λ (w : List (Write × Entry)). StandsFor (record new { stash = last.stash }) (table_ended ring.p t w)) (writes_are ring.p t lifted same writes words g drawn)
      (record { orderly = subst (λ (q : Params). IsOrderly q (table_ended ring.p t ws)) (sym new_p) orderly; arrays = subst (λ (q : Params). IsTableOf q (arrays_of new.metas (rest_of new.book new.counter)) (table_ended ring.p t ws)) (sym new_p) arrays }))
    where
      at : StandsFor lifted (after ring.p t FinalLifts)
      at = made.table t stands

      orderly : IsOrderly ring.p (table_ended ring.p t ws)
      orderly = subst (λ (q : Params). IsOrderly q (after q (after q (after ring.p t FinalLifts) (Writes (leaf_writes ws))) Refill)) same (tables.orderly3 lifted new writes words g drawn next made.renews (after ring.p t FinalLifts) at)

      arrays : IsTableOf ring.p (arrays_of new.metas (rest_of new.book new.counter)) (table_ended ring.p t ws)
      arrays = subst (λ (q : Params). IsTableOf q (arrays_of new.metas (rest_of new.book new.counter)) (after q (after q (after ring.p t FinalLifts) (Writes (leaf_writes ws))) Refill)) same
          (tables.table3 lifted new writes words g drawn next made.renews (after ring.p t FinalLifts) at)

  -- ---- what becomes of the tables

  abbrev between : Kept
  between = (made.renews).between

  pub entries_then : (k : ℕ) → entry_at new.book k ≡ entries_after (λ i. entry_at ring.book i) (end_writes ring.p writes words g drawn) k
  entries_then k =
      ap (λ (r : Kept). entry_at r.book k) ((made.renews).filled).kept
      ∙ ((made.renews).made).entries k
      ∙ ap (λ (r : Kept). entries_after (λ i. entry_at r.book i) ws k) made.kept
      ∙ ap (λ (q : Params). entries_after (λ i. entry_at ring.book i) (writes_of q writes (take q.writes words) (g, drawn) (length writes)) k) same

  homes_since : (u : ℕ) → (version_at (between.metas).versions u).home ≡ (version_at (ring.metas).versions u).home
  homes_since u = (((made.renews).made).seals).homes u ∙ (made.seals).homes u

  -- a bucket off the list stays as it was
  kept_at : (u : ℕ) → is_one_of (between.metas).order u ≡ false → version_at (new.metas).versions u ≡ version_at (between.metas).versions u
  kept_at u off = (((made.renews).filled).anew).others u (ap (λ (us : List ℕ). is_one_of us u) (take-length (between.metas).order) ∙ off)

  filled_between : AreFilledAnew between.p (between.metas).order ring.metas new.metas (drop (lifted.p).writes words) (g, next)
  filled_between = record {
    anew = λ i lt. (let a = (((made.renews).filled).anew).anew i lt in record { home = a.home ∙ ap (λ h. 1 - h) (homes_since (slice_index (between.metas).order i)); under = a.under; from = a.from; ranks = a.ranks });
    homes = λ u off. ap (λ (v : Version). v.home) (kept_at u off) ∙ homes_since u;
    generations = λ u off. ap (λ (v : Version). v.generation) (kept_at u off) ∙ (((made.renews).made).seals).generations u ∙ (made.seals).generations u;
    bases = λ u off. ap (λ (v : Version). v.base) (kept_at u off) ∙ (((made.renews).made).seals).bases u ∙ (made.seals).bases u;
    ranks = λ u off. ap (λ (v : Version). v.ranks) (kept_at u off) ∙ (((made.renews).made).seals).ranks u ∙ (made.seals).ranks u;
  }

  -- a bucket that is marked lifted has a mark
  marked : (marks : List Bool) (u : ℕ) → slice_index_or marks u false ≡ true → u < length marks
  marked [] u on = absurd (true≢false (sym on))
  marked (b ∷ marks) zero on = omega arith
  marked (b ∷ marks) (suc u) on = let low = marked marks u on in omega (arith, low)

  pub filled_then : (t : FlatTable) → StandsFor ring t → TakeBucketWords ring.p t words g next ring new
  filled_then t stands =
      let at : StandsFor lifted (after ring.p t FinalLifts) = made.table t stands in
      let order : (between.metas).order ≡ refill_order ring.p (after ring.p t FinalLifts) =
      (((made.renews).made).seals).order ∙ calls_join.listed lifted (after ring.p t FinalLifts) at made.listed ∙ ap (λ (q : Params). refill_order q (after ring.p t FinalLifts)) same in
      record {
        within = λ u up. (let low = marked (lifted.metas).lifted u (sym ((at.arrays).lifted_is u) ∙ up) in let many = ((made.rules).metas).marks ∙ ap buckets same in omega (arith, low, many));
        filled =
            subst (λ (us : List ℕ). AreFilledAnew ring.p us ring.metas new.metas (drop (ring.p).writes words) (g, next)) order
            (subst (λ (q : Params). AreFilledAnew ring.p (between.metas).order ring.metas new.metas (drop q.writes words) (g, next)) same
            (subst (λ (q : Params). AreFilledAnew q (between.metas).order ring.metas new.metas (drop (lifted.p).writes words) (g, next)) (between_p ∙ new_p) filled_between));
      }

  -- ---- from a planner that fits

  module _ (fit : IsPlannerFit ring) (small : g < 2 ^ 64) (few : rows_ended ring.p fit.table (end_writes ring.p writes words g drawn) ≤ (ring.p).room) where
    abbrev t1 : FlatTable
    t1 = after ring.p fit.table FinalLifts

    pub stands1 : StandsFor lifted t1
    stands1 = made.table fit.table fit.stands

    abbrev m1 : Values
    m1 = map_then ring.p fit.table t1 (ring.stash).rows (lifted.stash).rows fit.slots fit.map _ (picked_are_taken.lifts ring.p fit.table (fit.stands).orderly (fit.carries).low) (picked_are_taken.lifts_keys ring.p fit.table) fit.carries
        (joined _ (ring.stash).rows (lifted.stash).rows (made.joins fit.table fit.stands))

    carries1 : Carries lifted.p t1 (lifted.stash).rows fit.slots m1
    carries1 = subst (λ (q : Params). Carries q t1 (lifted.stash).rows fit.slots m1) (sym same)
        (carries_then ring.p fit.table t1 (ring.stash).rows (lifted.stash).rows fit.slots fit.map _ (picked_are_taken.lifts ring.p fit.table (fit.stands).orderly (fit.carries).low) (picked_are_taken.lifts_keys ring.p fit.table) fit.carries
        (joined _ (ring.stash).rows (lifted.stash).rows (made.joins fit.table fit.stands)))

    pub book1 : FitsBook lifted.p lifted.book
    book1 = subst (λ (r : Kept). FitsBook r.p r.book) (sym (ap (λ (r : Kept). record ring { p = r.p; book = r.book }) made.kept)) fit.book

    pub seals1 : (u : ℕ) → u < buckets lifted.p → FitsSeals (version_at (lifted.metas).versions u)
    seals1 u lt =
        let was : FitsSeals (version_at (ring.metas).versions u) = fit.seals u (subst (λ (q : Params). u < buckets q) same lt) in
        record {
          generation = subst (λ x. x < 2 ^ 64) (sym ((made.seals).generations u)) was.generation;
          base = subst (λ x. x < 2 ^ 64) (sym ((made.seals).bases u)) was.base;
        }

    pub whole1 : AreAllWhole lifted.p lifted.metas
    whole1 = refill_plans.whole_same lifted.p (record ring.metas { order = (lifted.metas).order }) lifted.metas (made.rules).metas made.seals
        (subst (λ (q : Params). AreAllWhole q (record ring.metas { order = (lifted.metas).order })) (sym same) fit.whole)

    pub few1 : stash_size lifted.p (tables.t3 lifted new writes words g drawn next made.renews t1 stands1) ≤ (lifted.p).room
    few1 =
        let size : stash_size lifted.p (tables.t3 lifted new writes words g drawn next made.renews t1 stands1) ≡ rows_ended ring.p fit.table ws = rows_are ring.p fit.table lifted same ws in
        let alike : rows_ended ring.p fit.table ws ≡ rows_ended ring.p fit.table (end_writes ring.p writes words g drawn) = ap (rows_ended ring.p fit.table) (writes_are ring.p fit.table lifted same writes words g drawn) in
        let room : (lifted.p).room ≡ (ring.p).room = ap (λ (q : Params). q.room) same in
        omega (arith, size, alike, room, few)

    ended : IsEnd (lifted.p) (content_left new) (tables.slots_then lifted new writes words g drawn next made.renews t1 stands1 fit.slots) (with_entries m1 ws)
    ended = tables.ends_well lifted new writes words g drawn next made.renews t1 stands1 whole1 fit.slots m1 fit_writes carries1 small book1 seals1 few1

    pub obeys : Obeys new.p (content_left new)
    obeys = subst (λ (q : Params). Obeys q (content_left new)) (sym (tables.renewed_p lifted new writes words g drawn next made.renews)) ended.obeys

    pub none_lifted : (u : ℕ) → is_lifted new.metas u ≡ false
    none_lifted = tables.none_lifted lifted new writes words g drawn next made.renews t1 stands1

    -- so the planner fits then, with the rows that are left
    pub fit_then : (last : Kept) → last ≡ record new { stash = last.stash } → (last.stash).rows ≡ rows_left new → IsPlannerFit last
    fit_then last kept rows = subst IsPlannerFit (sym kept) (at_new last.stash rows)
      where
        at_new : (held : Held) → held.rows ≡ rows_left new → IsPlannerFit (record new { stash = held })
        at_new held is = record {
          table = (tables.t3 lifted new writes words g drawn next made.renews t1 stands1);
          stands = subst (λ (q : Params). StandsFor (record new { p = q; stash = held }) (tables.t3 lifted new writes words g drawn next made.renews t1 stands1)) (sym (tables.renewed_p lifted new writes words g drawn next made.renews))
              (record { orderly = tables.orderly3 lifted new writes words g drawn next made.renews t1 stands1; arrays = tables.table3 lifted new writes words g drawn next made.renews t1 stands1 });
          slots = tables.slots_then lifted new writes words g drawn next made.renews t1 stands1 fit.slots;
          map = with_entries m1 ws;
          carries = subst (λ (q : Params). Carries q (tables.t3 lifted new writes words g drawn next made.renews t1 stands1) held.rows (tables.slots_then lifted new writes words g drawn next made.renews t1 stands1 fit.slots) (with_entries m1 ws))
              (sym (tables.renewed_p lifted new writes words g drawn next made.renews))
              (subst (λ rows. Carries lifted.p (tables.t3 lifted new writes words g drawn next made.renews t1 stands1) rows (tables.slots_then lifted new writes words g drawn next made.renews t1 stands1 fit.slots) (with_entries m1 ws)) (sym is)
              (tables.carries3 lifted new writes words g drawn next made.renews t1 stands1 whole1 fit.slots m1 fit_writes carries1));
          book = obeys.book;
          seals = obeys.seals;
          whole = subst (λ (q : Params). AreAllWhole q new.metas) (sym (tables.renewed_p lifted new writes words g drawn next made.renews)) (tables.all_whole lifted new writes words g drawn next made.renews t1 stands1 whole1);
        }
