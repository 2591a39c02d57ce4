-- Where the store stands, what an end makes is an end of the epoch that stands.
use Rattle.std.specs.Prelude.{◌≡◌, ℕ, ◌+◌, ◌≤◌, true, List, take}
use Rattle.std.proofs.Common.{refl, sym, ap, ◌∙◌, subst}
use Rattle.ob_base.specs.declared.params.Params.{Params}
use Rattle.ob_base.specs.declared.value.Write.{Write}
use Rattle.ob_tables.specs.Content.{Content, Rows}
use Rattle.ob_end.specs.EndWrites.{IsEndOfRing, rows_left}
use Rattle.ob_end.specs.Lifts.{LiftsAreRead}
use Rattle.ob_end.specs.Renewals.{Renews, renewed_writes}
use Rattle.ob_stand.specs.Plans.{AreAllWhole}
use Rattle.ob_stand.specs.Table.{flat_of}
use Rattle.ob_fetch.specs.Fetches.{unlisted}
use Rattle.ob_recover.proofs.RepeatLaws.{tables_are}
use Rattle.ob_recover.specs.Repeats.{AreRepeated, IsPlannerOf, table_after_records}
use Rattle.ob_ring.specs.FlatTable.{FlatTable, FinalLifts, after, stash_size}
use Rattle.ob_ring.specs.Picked.{SameSeals, final_picked}
use Rattle.ob_ring.specs.Ring.{Kept, StandsFor}
use Rattle.ob_ring.specs.Settling.{rows_after}
use Rattle.ob_ring.specs.Writing.{values_after}
use Rattle.ob_ring.proofs.Members.{one_of-filter}
use Rattle.ob_schedule.specs.Paths.{by_falling_level, eviction_path, is_one_of}
use Rattle.ob_seal.specs.declared.keys.Keys.{Keys}
use Rattle.ob_stand.specs.Ends.{IsEndOf, RingEnd}
use Rattle.ob_stand.specs.Reads.{end_of_run, slots_in}
use Rattle.ob_stand.specs.Stands.{AreKnown, RingStanding, Stands}
use Rattle.ob_stand.proofs.ReadLaws.{runs_end}
use Rattle.ob_store.specs.Disk.{Image}
use Rattle.ob_tables.specs.declared.entry.Entry.{Entry}
use Rattle.ob_stand.specs.Carries.{AreRead, Slots}
use Rattle.ob_stand.specs.Epochs.{IsEpoch, after_epoch, before_refill, rows_before_refill}
use Rattle.ob_stand.specs.ValueLaws.{AreFit}
use Rattle.ob_stand.specs.Refilled.{IsRefilled}
use Rattle.ob_end.proofs.EndTables as made
use Rattle.ob_end.proofs.RunLaws as runs

module _ (keys : Keys) (s : RingStanding) (image : Image) (ring lifted renewed : Kept) (writes : List Write) (words : List ℕ) (g drawn next : ℕ) (renews : Renews writes words g drawn next lifted renewed)
    (stands : Stands keys lifted.p s image) (planner : IsPlannerOf lifted.p s.content s.records (unlisted ring)) (read : AreRepeated lifted.p (slots_in keys lifted.p s.content image) (flat_of lifted.p s.content) (s.content).rows (ring.stash).rows s.records)
    (lifts : LiftsAreRead lifted.p (slots_in keys lifted.p s.content image) (table_after_records lifted.p (flat_of lifted.p s.content) s.records) (ring.stash).rows (lifted.stash).rows)
    (book : lifted.book ≡ ring.book) (seals : SameSeals (record ring.metas { order = (lifted.metas).order }) lifted.metas)
    (table : StandsFor lifted (after lifted.p (table_after_records lifted.p (flat_of lifted.p s.content) s.records) FinalLifts))
    (fit : AreFit lifted.p (renewed_writes lifted writes (take (lifted.p).writes words) g drawn)) (under : g ≡ s.generation)
    (few : stash_size lifted.p (made.t3 lifted renewed writes words g drawn next renews (after lifted.p (table_after_records lifted.p (flat_of lifted.p s.content) s.records) FinalLifts) table) ≤ (lifted.p).room)
    (whole : AreAllWhole lifted.p lifted.metas) where
  abbrev p : Params
  p = lifted.p

  abbrev c : Content
  c = s.content

  abbrev slots : Slots
  slots = slots_in keys p c image

  abbrev t0 : FlatTable
  t0 = table_after_records p (flat_of p c) s.records

  abbrev t1 : FlatTable
  t1 = after p t0 FinalLifts

  abbrev ws : List (Write × Entry)
  ws = made.ws lifted renewed writes words g drawn next renews

  abbrev t2 : FlatTable
  t2 = made.t2 lifted renewed writes words g drawn next renews t1 table

  abbrev t3 : FlatTable
  t3 = made.t3 lifted renewed writes words g drawn next renews t1 table

  abbrev slots' : Slots
  slots' = made.slots_then lifted renewed writes words g drawn next renews t1 table slots

  abbrev known : AreKnown s.records g
  known = subst (λ n. AreKnown s.records n) (sym under) (stands.holds).records_known

  rows_are : (renewed.stash).rows ≡ rows_before_refill c.rows read.batches lifts.jobs ws
  rows_are =
      made.same_rows lifted renewed writes words g drawn next renews ∙ (renews.made).values
      ∙ ap (λ (rows : Rows). values_after rows ws) (lifts.rows_are ∙ ap (λ (rows : Rows). rows_after rows lifts.jobs) read.rows_are)

  epoch : IsEpoch p (flat_of p c) c.rows (rows_left renewed) slots slots' read.batches lifts.jobs ws
  epoch = record {
    batches = read.read;
    lifts = subst (λ (t : FlatTable). AreRead slots (final_picked p t (eviction_path p t.counter)) lifts.jobs) (sym (tables_are p slots (flat_of p c) read.batches s.records read.asked)) lifts.read;
    fit = fit;
    refilled =
        subst (λ (rows : Rows). IsRefilled (before_refill p (flat_of p c) read.batches ws) (after_epoch p (flat_of p c) read.batches ws) rows (rows_left renewed) slots slots') rows_are
        (subst (λ (t : FlatTable). IsRefilled t (after_epoch p (flat_of p c) read.batches ws) (renewed.stash).rows (rows_left renewed) slots slots')
        (sym (runs.before_is c s.records ring lifted renewed writes words g drawn next renews planner book seals table read.batches read.asked))
        (subst (λ (t : FlatTable). IsRefilled t2 t (renewed.stash).rows (rows_left renewed) slots slots')
        (sym (runs.after_is c s.records ring lifted renewed writes words g drawn next renews planner book seals table read.batches read.asked))
        (made.refilled lifted renewed writes words g drawn next renews t1 table whole slots)));
  }

  abbrev pub the_end : RingEnd
  the_end = end_of_run s (runs.run c s.records ring lifted renewed writes words g drawn next renews planner book seals table) renewed.book (rows_left renewed) renewed.counter slots' ws

  follows : IsEndOf p s the_end
  follows = runs_end keys p s image (runs.run c s.records ring lifted renewed writes words g drawn next renews planner book seals table) slots' read.batches lifts.jobs ws renewed.book (rows_left renewed) renewed.counter stands under epoch
      (runs.run_from c s.records ring lifted renewed writes words g drawn next renews planner book seals table read.batches read.asked known few)

  order_is : (renewed.metas).order ≡ ((renews.between).metas).order
  order_is = (renews.filled).order

  -- a bucket that is listed is lifted then
  is_up : (u : ℕ) → is_one_of ((renews.between).metas).order u ≡ true → t2.lifted u ≡ true
  is_up u on = (one_of-filter t2.lifted (by_falling_level (p.levels + 1)) u (sym (ap (λ (us : List ℕ). is_one_of us u) (made.listed2 lifted renewed writes words g drawn next renews t1 table)) ∙ on)).0

  pub is_end : renewed.p ≡ p → IsEndOfRing s the_end g renewed
  is_end same = record {
    follows = subst (λ (q : Params). IsEndOf q s the_end) (sym same) follows;
    under = sym under;
    content = refl;
    order = sym order_is;
    slots = λ u j on low. made.slot_up lifted renewed writes words g drawn next renews t1 table slots u j (is_up u on);
  }
