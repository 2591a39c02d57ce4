-- The tables that an end makes: they obey, and have the map's values with the writes.
use Rattle.std.specs.Prelude.{◌≡◌, ℕ, ◌<◌, ◌≤◌, ◌^◌, Bool, true, false, cond, List, length, take, drop}
use Rattle.std.specs.FinMap as finite
use Rattle.std.proofs.Common.{arith, inl, sym, ap, ◌∙◌, subst}
use Rattle.ob_base.specs.declared.params.Params.{Params}
use Rattle.ob_base.specs.declared.value.Write.{Write}
use Rattle.ob_base.specs.Tree.{buckets}
use Rattle.ob_tables.specs.Buckets.{is_lifted, version_at}
use Rattle.ob_tables.specs.Version.{rank_at}
use Rattle.ob_tables.specs.Content.{FitsBook, FitsSeals, Rows}
use Rattle.ob_end.specs.EndWrites.{content_left, rows_left, slot_plain, version_of}
use Rattle.ob_end.specs.Renewals.{Renews, renewed_writes, table_behind_writes}
use Rattle.ob_stand.specs.Numbers.{RenewsBook, RenewsSeals}
use Rattle.ob_stand.specs.Plans.{AreAllWhole}
use Rattle.ob_stand.specs.Valued.{AreTablesFilled, IsEnd}
use Rattle.ob_stand.proofs.Calling.{calls_join}
use Rattle.ob_stand.proofs.Numbers.{renewed_fit, steps_renew}
use Rattle.ob_stand.proofs.Plans.{refill_plans}
use Rattle.ob_stand.proofs.Standing.{tables_obey}
use Rattle.ob_ring.specs.Arrays.{AreWhole, IsTableOf, arrays_of, rest_of}
use Rattle.ob_ring.specs.Filling.{AreSealedAnew}
use Rattle.ob_ring.specs.FlatTable.{FlatTable, Refill, after, refill_order, stash_size}
use Rattle.ob_ring.specs.Laws.{IsOrderly}
use Rattle.ob_ring.specs.Ring.{Kept, StandsFor}
use Rattle.ob_tables.specs.declared.entry.Entry.{Entry}
use Rattle.ob_stand.specs.Values.{Values, with_entries}
use Rattle.ob_stand.specs.Carries.{Carries, Slots}
use Rattle.ob_stand.specs.ValueLaws.{AreFit}
use Rattle.ob_stand.specs.Refilled.{IsRefilled}
use Rattle.ob_stand.proofs.Counted.{stash_counts}
use Rattle.ob_stand.proofs.Planned.{refill_is_written}
use Rattle.ob_stand.proofs.Refilling.{refill_carries}
use Rattle.ob_stand.proofs.Written.{writes_carry}

module _ (lifted renewed : Kept) (writes : List Write) (words : List ℕ) (g drawn next : ℕ) (renews : Renews writes words g drawn next lifted renewed) where
  abbrev pub p : Params
  p = lifted.p

  abbrev pub between : Kept
  between = renews.between

  abbrev pub ws : List (Write × Entry)
  ws = renewed_writes lifted writes (take (lifted.p).writes words) g drawn

  pub between_p : between.p ≡ p
  between_p = ap (λ (r : Kept). r.p) (renews.made).kept

  pub renewed_p : renewed.p ≡ p
  renewed_p = ap (λ (r : Kept). r.p) (renews.filled).kept ∙ between_p

  pub same_rows : (renewed.stash).rows ≡ (between.stash).rows
  same_rows = ap (λ (r : Kept). (r.stash).rows) (renews.filled).kept

  pub same_book : renewed.book ≡ between.book
  same_book = ap (λ (r : Kept). r.book) (renews.filled).kept

  pub same_counter : renewed.counter ≡ between.counter
  same_counter = ap (λ (r : Kept). r.counter) (renews.filled).kept

  pub whole_between : AreWhole p between.metas
  whole_between = subst (λ (q : Params). AreWhole q between.metas) between_p ((renews.made).rules).metas

  pub whole_renewed : AreWhole p renewed.metas
  whole_renewed = subst (λ (q : Params). AreWhole q renewed.metas) renewed_p ((renews.filled).rules).metas

  pub anew : AreSealedAnew p between.metas renewed.metas (drop (lifted.p).writes words) (g, next) (length (between.metas).order)
  anew = subst (λ (q : Params). AreSealedAnew q between.metas renewed.metas (drop (lifted.p).writes words) (g, next) (length (between.metas).order)) between_p (renews.filled).anew

  pub book_many : length renewed.book ≡ p.keys
  book_many = (((renews.filled).rules).book).many ∙ ap (λ (q : Params). q.keys) renewed_p

  -- the entries and the seals are those of the lifted tables, or this generation's
  pub books : RenewsBook p g lifted.book renewed.book
  books = subst (λ book. RenewsBook p g lifted.book book) (sym same_book) (steps_renew.writes p lifted.book between.book writes (take (lifted.p).writes words) (g, drawn) (length writes) (renews.made).entries)

  pub seals : RenewsSeals g (lifted.metas).versions (renewed.metas).versions
  seals = steps_renew.versions g (lifted.metas).versions (between.metas).versions (renewed.metas).versions (steps_renew.seals lifted.metas between.metas g (renews.made).seals)
      (steps_renew.refill p between.metas renewed.metas (drop (lifted.p).writes words) (g, next) anew)

  module _ (t1 : FlatTable) (stands : StandsFor lifted t1) where
    abbrev pub t2 : FlatTable
    t2 = table_behind_writes lifted ws t1

    abbrev pub t3 : FlatTable
    t3 = after p t2 Refill

    stands2 : StandsFor between t2
    stands2 = (renews.made).table t1 stands

    stands3 : StandsFor renewed (after between.p t2 Refill)
    stands3 = (renews.filled).table t2 stands2

    pub orderly2 : IsOrderly p t2
    orderly2 = subst (λ (q : Params). IsOrderly q t2) between_p stands2.orderly

    pub table2 : IsTableOf p (arrays_of between.metas (rest_of between.book between.counter)) t2
    table2 = subst (λ (q : Params). IsTableOf q (arrays_of between.metas (rest_of between.book between.counter)) t2) between_p stands2.arrays

    pub orderly3 : IsOrderly p t3
    orderly3 = subst (λ (q : Params). IsOrderly q (after q t2 Refill)) between_p (subst (λ (q : Params). IsOrderly q (after between.p t2 Refill)) (renewed_p ∙ sym between_p) stands3.orderly)

    pub table3 : IsTableOf p (arrays_of renewed.metas (rest_of renewed.book renewed.counter)) t3
    table3 = subst (λ (q : Params). IsTableOf q (arrays_of renewed.metas (rest_of renewed.book renewed.counter)) (after q t2 Refill)) between_p
        (subst (λ (q : Params). IsTableOf q (arrays_of renewed.metas (rest_of renewed.book renewed.counter)) (after between.p t2 Refill)) (renewed_p ∙ sym between_p) stands3.arrays)

    -- the list is that of the table's lifted buckets
    pub listed2 : (between.metas).order ≡ refill_order p t2
    listed2 = calls_join.listed between t2 stands2 (renews.made).listed ∙ ap (λ (q : Params). refill_order q t2) between_p

    pub listed3 : (renewed.metas).order ≡ refill_order p t2
    listed3 = (renews.filled).order ∙ listed2

    pub standing3 : (u : ℕ) → t3.lifted u ≡ false
    standing3 u = refill_plans.none_lifted p between.metas (rest_of between.book between.counter) t2 u orderly2 whole_between table2

    pub none_lifted : (u : ℕ) → is_lifted renewed.metas u ≡ false
    none_lifted u = sym (table3.lifted_is u) ∙ standing3 u

    -- the slots then: what the planner gives for those of a listed bucket, and the others as before
    abbrev pub slots_then : Slots → Slots
    slots_then slots u j = cond (t2.lifted u) (slot_plain renewed u (rank_at (version_of renewed u) j)) (slots u j)

    pub slot_up : (slots : Slots) (u j : ℕ) → t2.lifted u ≡ true → slots_then slots u j ≡ slot_plain renewed u (rank_at (version_of renewed u) j)
    slot_up slots u j up = ap (λ (b : Bool). cond b (slot_plain renewed u (rank_at (version_of renewed u) j)) (slots u j)) up

    pub slot_down : (slots : Slots) (u j : ℕ) → t2.lifted u ≡ false → slots_then slots u j ≡ slots u j
    slot_down slots u j down = ap (λ (b : Bool). cond b (slot_plain renewed u (rank_at (version_of renewed u) j)) (slots u j)) down

    module _ (whole1 : AreAllWhole p lifted.metas) where
      pub all_whole : AreAllWhole p renewed.metas
      all_whole = refill_plans.whole_anew p between.metas renewed.metas (drop (lifted.p).writes words) (g, next) whole_renewed anew
          (refill_plans.whole_same p lifted.metas between.metas whole_between (renews.made).seals whole1)

      pub refilled : (slots : Slots) → IsRefilled t2 t3 (renewed.stash).rows (rows_left renewed) slots (slots_then slots)
      refilled slots = refill_is_written p renewed.metas (rest_of renewed.book renewed.counter) t2 (renewed.stash).rows slots (slots_then slots) orderly2 whole_renewed all_whole table3 listed3
          (record { anew = λ u j up low. slot_up slots u j up; same = λ u j down low. slot_down slots u j down })

      module _ (slots : Slots) (m : Values) (fit : AreFit p ws) (carries : Carries p t1 (lifted.stash).rows slots m) where
        carries2 : Carries p t2 (renewed.stash).rows slots (with_entries m ws)
        carries2 = subst (λ (rows : Rows). Carries p t2 rows slots (with_entries m ws)) (sym (same_rows ∙ (renews.made).values)) (writes_carry p t1 ws (lifted.stash).rows slots m fit carries)

        pub carries3 : Carries p t3 (rows_left renewed) (slots_then slots) (with_entries m ws)
        carries3 = refill_carries p t2 (renewed.stash).rows (rows_left renewed) slots (slots_then slots) (with_entries m ws) orderly2 carries2 (refilled slots)

        -- so they obey, where no number is out of range and the stash isn't too full
        pub ends_well : g < 2 ^ 64 → FitsBook p lifted.book → ((u : ℕ) → u < buckets p → FitsSeals (version_at (lifted.metas).versions u)) → stash_size p t3 ≤ p.room
            → IsEnd p (content_left renewed) (slots_then slots) (with_entries m ws)
        ends_well small fits sealed few =
            tables_obey p renewed.metas renewed.book (rows_left renewed) renewed.counter t3 (slots_then slots) (with_entries m ws) orderly3 table3 carries3 filled
          where
            filled : AreTablesFilled p renewed.metas renewed.book (rows_left renewed) renewed.counter t3
            filled = record {
              book_fits = renewed_fit.book p g lifted.book renewed.book small book_many fits (steps_renew.knows p g lifted.book lifted.book renewed.book (λ k e at. inl at) books);
              whole = whole_renewed;
              versions = all_whole;
              seals = renewed_fit.seals p g (lifted.metas).versions (renewed.metas).versions small seals sealed;
              low = subst (λ (q : Params). renewed.counter < 2 ^ q.levels) renewed_p ((renews.filled).rules).counter;
              standing = standing3;
              few = (let many : finite.len (rows_left renewed) ≡ stash_size p t3 = stash_counts p t3 (rows_left renewed) (slots_then slots) (with_entries m ws) carries3 in omega (arith, many, few));
            }
