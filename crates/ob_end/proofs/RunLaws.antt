-- What an end made is a run of the planner's calls from the content on that the epoch began with.
use Rattle.std.specs.Prelude.{◌≡◌, ℕ, ◌<◌, ◌≤◌, ◌^◌, List, [], drop, map, Option}
use Rattle.std.proofs.Common.{refl, sym, ap, ◌∙◌, subst}
use Rattle.ob_base.specs.declared.params.Params.{Params}
use Rattle.ob_base.specs.declared.value.Write.{Write}
use Rattle.ob_tables.specs.Content.{Content}
use Rattle.ob_end.specs.Renewals.{Renews}
use Rattle.ob_stand.specs.EpochEnds.{IsRunFrom, RefillRun}
use Rattle.ob_stand.specs.Numbers.{KnowsBook}
use Rattle.ob_stand.specs.Table.{buckets_of, flat_of}
use Rattle.ob_stand.proofs.Calling.{calls_join}
use Rattle.ob_stand.proofs.Numbers.{steps_renew}
use Rattle.ob_fetch.specs.Fetches.{unlisted}
use Rattle.ob_fetch.proofs.NextLaws.{seals_listed}
use Rattle.ob_log.specs.Logs.{BatchRecord}
use Rattle.ob_recover.proofs.RepeatLaws.{tables_are}
use Rattle.ob_recover.specs.Repeats.{IsPlannerOf, asked_of_record, table_after_records}
use Rattle.ob_ring.specs.Arrays.{IsTableOf, arrays_of, rest_of}
use Rattle.ob_ring.specs.FlatTable.{FlatTable, FinalLifts, Refill, Writes, after, refill_order, stash_size}
use Rattle.ob_ring.specs.Picked.{SameSeals}
use Rattle.ob_ring.specs.Ring.{Kept, StandsFor}
use Rattle.ob_ring.specs.Writing.{leaf_writes}
use Rattle.ob_recover.specs.Ends.{RefillsFrom}
use Rattle.ob_stand.specs.Stands.{AreKnown}
use Rattle.ob_tables.specs.Kept.{entry_at}
use Rattle.ob_tables.specs.declared.entry.Entry.{Entry}
use Rattle.ob_stand.specs.Epochs.{Read, after_epoch, before_refill}
use Rattle.ob_end.proofs.EndTables as made
use Rattle.ob_end.proofs.KnownEntries.{entries_known}

module _ (c : Content) (rs : List BatchRecord) (ring lifted renewed : Kept) (writes : List Write) (words : List ℕ) (g drawn next : ℕ) (renews : Renews writes words g drawn next lifted renewed)
    (planner : IsPlannerOf lifted.p c rs (unlisted ring)) (book : lifted.book ≡ ring.book) (seals : SameSeals (record ring.metas { order = (lifted.metas).order }) lifted.metas)
    (table : StandsFor lifted (after lifted.p (table_after_records lifted.p (flat_of lifted.p c) rs) FinalLifts)) where
  abbrev p : Params
  p = lifted.p

  abbrev between : Kept
  between = renews.between

  abbrev ws : List (Write × Entry)
  ws = made.ws lifted renewed writes words g drawn next renews

  abbrev t1 : FlatTable
  t1 = after p (table_after_records p (flat_of p c) rs) FinalLifts

  abbrev t2 : FlatTable
  t2 = made.t2 lifted renewed writes words g drawn next renews t1 table

  abbrev t3 : FlatTable
  t3 = made.t3 lifted renewed writes words g drawn next renews t1 table

  abbrev pub run : RefillRun
  run = record { start = record (buckets_of p c) { order = (between.metas).order }; before = between.metas; filled = renewed.metas; words = drop p.writes words; first = (g, next) }

  -- the seals, from the checkpoint's buckets on
  since : SameSeals (record (buckets_of p c) { order = (between.metas).order }) between.metas
  since = calls_join.further (buckets_of p c) lifted.metas between.metas
      (calls_join.further (buckets_of p c) ring.metas lifted.metas (seals_listed (buckets_of p c) ring planner.seals) seals)
      (calls_join.seals lifted.metas between.metas (renews.made).seals)

  known_book : AreKnown rs g → KnowsBook p g c.book lifted.book
  known_book known = λ k e at. entries_known p g (λ i. entry_at c.book i) rs k e known (sym (planner.entries k) ∙ sym (ap (λ (b : List (Option Entry)). entry_at b k) book) ∙ at)

  entries : AreKnown rs g → KnowsBook p g c.book renewed.book
  entries known = steps_renew.knows p g c.book lifted.book renewed.book (known_book known) (made.books lifted renewed writes words g drawn next renews)

  table_kept : IsTableOf p (arrays_of between.metas (rest_of renewed.book renewed.counter)) t2
  table_kept =
      subst (λ (n : ℕ). IsTableOf p (arrays_of between.metas (rest_of renewed.book n)) t2) (sym (made.same_counter lifted renewed writes words g drawn next renews))
      (subst (λ (b : List (Option Entry)). IsTableOf p (arrays_of between.metas (rest_of b between.counter)) t2) (sym (made.same_book lifted renewed writes words g drawn next renews))
      (made.table2 lifted renewed writes words g drawn next renews t1 table))

  module _ (bs : List Read) (asked : map (λ (b : Read). b.0) bs ≡ map (asked_of_record p) rs) where
    pub before_is : before_refill p (flat_of p c) bs ws ≡ t2
    before_is = ap (λ (t : FlatTable). after p (after p t FinalLifts) (Writes (leaf_writes ws))) (tables_are p (λ u j. []) (flat_of p c) bs rs asked)

    pub after_is : after_epoch p (flat_of p c) bs ws ≡ t3
    after_is = ap (λ (t : FlatTable). after p t Refill) before_is

    listed : (between.metas).order ≡ refill_order p (before_refill p (flat_of p c) bs ws)
    listed = made.listed2 lifted renewed writes words g drawn next renews t1 table ∙ ap (λ (t : FlatTable). refill_order p t) (sym before_is)

    table_then : IsTableOf p (arrays_of renewed.metas (rest_of renewed.book renewed.counter)) (after_epoch p (flat_of p c) bs ws)
    table_then = subst (λ (t : FlatTable). IsTableOf p (arrays_of renewed.metas (rest_of renewed.book renewed.counter)) t) (sym after_is) (made.table3 lifted renewed writes words g drawn next renews t1 table)

    -- what its schedule needs of it
    pub refills_from : RefillsFrom p run c renewed.book renewed.counter bs ws
    refills_from = record {
      began = refl;
      seals = since;
      listed = listed;
      anew = made.anew lifted renewed writes words g drawn next renews;
      table = table_then;
      whole = made.whole_renewed lifted renewed writes words g drawn next renews;
    }

    pub run_from : AreKnown rs g → stash_size p t3 ≤ p.room → IsRunFrom p run c renewed.book renewed.counter bs ws
    run_from known few = record {
      began = refl;
      seals = since;
      table_before = subst (λ (t : FlatTable). IsTableOf p (arrays_of between.metas (rest_of renewed.book renewed.counter)) t) (sym before_is) table_kept;
      listed = listed;
      anew = made.anew lifted renewed writes words g drawn next renews;
      table = table_then;
      whole_before = made.whole_between lifted renewed writes words g drawn next renews;
      whole = made.whole_renewed lifted renewed writes words g drawn next renews;
      entries = entries known;
      many = made.book_many lifted renewed writes words g drawn next renews;
      low = subst (λ (q : Params). renewed.counter < 2 ^ q.levels) (made.renewed_p lifted renewed writes words g drawn next renews) ((renews.filled).rules).counter;
      room = subst (λ (t : FlatTable). stash_size p t ≤ p.room) (sym after_is) few;
    }
