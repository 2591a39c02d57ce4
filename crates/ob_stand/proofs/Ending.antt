-- From one checkpoint's content to the next.
use Rattle.std.specs.Prelude.{◌≡◌, ℕ, ◌+◌, ◌-◌, ◌<◌, ◌^◌, ◌==◌, true, false, List, [], ◌∷◌, take, length, Option, slice_index}
use Rattle.std.specs.FinMap as finite
use Rattle.std.proofs.Common.{zero, suc, arith, refl, sym, ap, ◌∙◌, subst, inl, inr}
use Rattle.std.proofs.lemmas.Bool.{true≢false, cases_Bool, eq-eqb, or_left, or_right}
use Rattle.ob_base.specs.declared.params.Params.{Params}
use Rattle.ob_base.specs.declared.job.Job.{Job}
use Rattle.ob_base.specs.declared.value.Write.{Write}
use Rattle.ob_base.specs.Tree.{buckets}
use Rattle.ob_tables.specs.Version.{Version, IsWhole}
use Rattle.ob_tables.specs.Buckets.{version_at}
use Rattle.ob_tables.specs.Content.{Content, Rows, Obeys}
use Rattle.ob_schedule.specs.Paths.{is_one_of, by_falling_level}
use Rattle.ob_tables.specs.declared.entry.Entry.{Entry}
use Rattle.ob_ring.specs.FlatTable.{FlatTable, Batch, FinalLifts, Writes, after, refill_order, stash_size}
use Rattle.ob_ring.specs.Laws.{IsOrderly}
use Rattle.ob_ring.specs.Writing.{leaf_writes}
use Rattle.ob_ring.proofs.TableLaws.{steps_keep_order}
use Rattle.ob_ring.proofs.Members.{IsDistinct, distinct-filter, off_unless, one_of-filter, one_of-filter_from, one_of-take}
use Rattle.ob_ring.proofs.Refills.{distinct_levels, of_levels}
use Rattle.ob_stand.specs.Goes.{Goes}
use Rattle.ob_stand.specs.Values.{Values, with_entries}
use Rattle.ob_stand.specs.Carries.{Slots, Carries}
use Rattle.ob_stand.specs.Epochs.{EpochFollows, EpochGoes, Read, IsEpoch, after_batches, after_epoch, before_refill}
use Rattle.ob_stand.proofs.Counted.{stash_counts}
use Rattle.ob_stand.proofs.Epochs.{buckets_go, epochs_follow}
use Rattle.ob_stand.specs.EpochEnds.{EndsFollow, IsRunFrom, RefillRun}
use Rattle.ob_stand.specs.Numbers.{IsKnown, RenewsSeals}
use Rattle.ob_stand.specs.Plans.{AreAllWhole}
use Rattle.ob_stand.specs.Table.{IsTableOfContent, flat_of}
use Rattle.ob_stand.specs.Valued.{AreTablesFilled, IsEnd, IsValued, content_with}
use Rattle.ob_stand.proofs.Numbers.{renewed_fit, steps_renew}
use Rattle.ob_stand.proofs.Plans.{bucket_listed, refill_plans}
use Rattle.ob_stand.proofs.Reading.{tables_are_read}
use Rattle.ob_stand.proofs.Standing.{contents_carry, tables_obey}

-- ---- lists without repeats

one_of_at : (us : List ℕ) (i : ℕ) → i < length us → is_one_of us (slice_index us i) ≡ true
one_of_at [] i low = absurd (omega arith)
one_of_at (u ∷ us) zero low = or_left (u == u) (is_one_of us u) (eq-eqb u u refl)
one_of_at (u ∷ us) (suc i) low = or_right (u == slice_index us i) (is_one_of us (slice_index us i)) (one_of_at us i (omega arith))

pub places_apart : (us : List ℕ) (i j : ℕ) → IsDistinct us → i < length us → j < length us → slice_index us i ≡ slice_index us j → i ≡ j
places_apart [] i j d low high e = absurd (omega arith)
places_apart (u ∷ us) zero zero d low high e = refl
places_apart (u ∷ us) zero (suc j) d low high e = absurd (true≢false (sym (one_of_at us j (omega arith)) ∙ ap (is_one_of us) (sym e) ∙ d.0))
places_apart (u ∷ us) (suc i) zero d low high e = absurd (true≢false (sym (one_of_at us i (omega arith)) ∙ ap (is_one_of us) e ∙ d.0))
places_apart (u ∷ us) (suc i) (suc j) d low high e = let same : i ≡ j = places_apart us i j d.1 (omega arith) (omega arith) e in ap suc same

batches_order : (p : Params) (t : FlatTable) (bs : List Read) → IsOrderly p t → IsOrderly p (after_batches p t bs)
batches_order p t [] o = o
batches_order p t (b ∷ bs) o = batches_order p (after p t (Batch b.0)) bs (steps_keep_order p t (Batch b.0) o)

pub orderly_before : (p : Params) (t : FlatTable) (bs : List Read) (ws : List (Write × Entry)) → IsOrderly p t → IsOrderly p (before_refill p t bs ws)
orderly_before p t bs ws o =
    let t1 : FlatTable = after_batches p t bs in
    steps_keep_order p (after p t1 FinalLifts) (Writes (leaf_writes ws)) (steps_keep_order p t1 FinalLifts (batches_order p t bs o))

module _ (p : Params) (r : RefillRun) (c : Content) (slots slots' : Slots) (m : Values) (bs : List Read) (js : List Job) (ws : List (Write × Entry)) (book : List (Option Entry)) (rows' : Rows) (counter : ℕ)
    (o : Obeys p c) (known : IsKnown c (r.first).0) (seal : (r.first).0 < 2 ^ 64) (v : IsValued c slots m)
    (ep : IsEpoch p (flat_of p c) c.rows rows' slots slots' bs js ws) (run : IsRunFrom p r c book counter bs ws) where
  abbrev t3 : FlatTable
  t3 = before_refill p (flat_of p c) bs ws

  read_first : IsTableOfContent p c
  read_first = tables_are_read p c o

  carried_first : Carries p (flat_of p c) c.rows slots m
  carried_first = contents_carry p c slots m o v

  follows : EpochFollows p (flat_of p c) rows' slots' m bs js ws
  follows = epochs_follow p (flat_of p c) c.rows rows' slots slots' m bs js ws read_first.orderly carried_first ep

  start_at : (u : ℕ) → version_at (r.start).versions u ≡ version_at c.versions u
  start_at u = ap (λ (vs : List Version). version_at vs u) run.began

  whole_start : AreAllWhole p r.start
  whole_start u low = let ob = o.versions u low in
      let keys : length (version_at c.versions u).keys ≡ p.real = (ob.slots).keys in
      let ranks : length (version_at c.versions u).ranks ≡ p.real + p.dummies = (ob.slots).ranks in
      subst IsWhole (sym (start_at u)) (record { home = ob.home; keys = omega arith; used = (ob.slots).used ∙ sym ranks; ranks = ob.ranks })

  seals_renewed : RenewsSeals (r.first).0 c.versions (r.filled).versions
  seals_renewed = steps_renew.versions (r.first).0 c.versions (r.before).versions (r.filled).versions
      (subst (λ (vs : List Version). RenewsSeals (r.first).0 vs (r.before).versions) run.began (steps_renew.seals r.start r.before (r.first).0 run.seals))
      (steps_renew.refill p r.before r.filled r.words r.first run.anew)

  filled_then : (orderly : IsOrderly p t3) → AreTablesFilled p r.filled book rows' counter (after_epoch p (flat_of p c) bs ws)
  filled_then orderly = record {
    book_fits = renewed_fit.book p (r.first).0 c.book book seal run.many o.book run.entries;
    whole = run.whole;
    versions = refill_plans.whole_anew p r.before r.filled r.words r.first run.whole run.anew (refill_plans.whole_same p r.start r.before run.whole_before run.seals whole_start);
    seals = renewed_fit.seals p (r.first).0 c.versions (r.filled).versions seal seals_renewed o.seals;
    low = run.low;
    standing = λ u. refill_plans.none_lifted p r.before _ t3 u orderly run.whole_before run.table_before;
    few = (let many : finite.len rows' ≡ stash_size p (after_epoch p (flat_of p c) bs ws) = stash_counts p (after_epoch p (flat_of p c) bs ws) rows' slots' (with_entries m ws) follows.carries in omega (arith, run.room));
  }

  order_is : (u : ℕ) → is_one_of (r.before).order u ≡ is_one_of (refill_order p t3) u
  order_is u = ap (λ (us : List ℕ). is_one_of us u) run.listed

  stands_still : (u : ℕ) → u < buckets p → is_one_of (r.before).order u ≡ false → t3.lifted u ≡ false
  stands_still u low off = off_unless (t3.lifted u) (λ up. true≢false (sym (one_of-filter_from t3.lifted (by_falling_level (p.levels + 1)) u up (bucket_listed p u low)) ∙ sym (order_is u) ∙ off))

  goes_on : (u : ℕ) → u < buckets p → is_one_of (r.before).order u ≡ false → Goes m (with_entries m ws) (version_at c.versions u) (version_at (r.filled).versions u)
  goes_on u low off =
      let left : EpochGoes p (flat_of p c) (after_epoch p (flat_of p c) bs ws) m (with_entries m ws) u = buckets_go p (flat_of p c) m bs ws u read_first.orderly carried_first.low (stands_still u low off) in
      let not_taken : is_one_of (take (length (r.before).order) (r.before).order) u ≡ false = off_unless (is_one_of (take (length (r.before).order) (r.before).order) u) (λ on. true≢false (sym (one_of-take (length (r.before).order) (r.before).order u on) ∙ off)) in
      let same : version_at (r.filled).versions u ≡ version_at (r.before).versions u = (run.anew).others u not_taken in
      record {
        home = ap (λ (x : Version). x.home) same ∙ (run.seals).homes u ∙ ap (λ (x : Version). x.home) (start_at u);
        generation = ap (λ (x : Version). x.generation) same ∙ (run.seals).generations u ∙ ap (λ (x : Version). x.generation) (start_at u);
        base = ap (λ (x : Version). x.base) same ∙ (run.seals).bases u ∙ ap (λ (x : Version). x.base) (start_at u);
        ranks = ap (λ (x : Version). x.ranks) same ∙ (run.seals).ranks u ∙ ap (λ (x : Version). x.ranks) (start_at u);
        used = λ j e. sym ((read_first.arrays).used_is u j) ∙ (left.leaves).used j ((run.table).used_is u j ∙ e);
        keys = λ j k e. ((read_first.arrays).spots_are k u j).0 ((left.leaves).keys k j (((run.table).spots_are k u j).1 e));
        values = λ j k e. left.values k j (((run.table).spots_are k u j).1 e);
      }

  home_turned : (u : ℕ) → is_one_of (r.before).order u ≡ true → (version_at (r.filled).versions u).home ≡ 1 - (version_at c.versions u).home
  home_turned u on =
      refill_plans.homes p r.before r.filled r.words r.first u run.anew on
      ∙ ap (λ (h : ℕ). 1 - h) ((run.seals).homes u ∙ ap (λ (x : Version). x.home) (start_at u))

  listed_within : (u : ℕ) → is_one_of (r.before).order u ≡ true → u < buckets p
  unfolding buckets
  listed_within u on = of_levels (p.levels + 1) u (one_of-filter t3.lifted (by_falling_level (p.levels + 1)) u (sym (order_is u) ∙ on)).1

  listed_apart : (i j : ℕ) → i < length (r.before).order → j < length (r.before).order → slice_index (r.before).order i ≡ slice_index (r.before).order j → i ≡ j
  listed_apart i j = places_apart (r.before).order i j (subst IsDistinct (sym run.listed) (distinct-filter t3.lifted (by_falling_level (p.levels + 1)) (distinct_levels (p.levels + 1))))

pub ends_follow : EndsFollow
ends_follow p r c slots slots' m bs js ws book rows' counter o known seal v ep run =
    let a : EpochFollows p (flat_of p c) rows' slots' m bs js ws = follows p r c slots slots' m bs js ws book rows' counter o known seal v ep run in
    let orderly = orderly_before p (flat_of p c) bs ws (tables_are_read p c o).orderly in
    let end : IsEnd p (content_with r.filled book rows' counter) slots' (with_entries m ws) =
    tables_obey p r.filled book rows' counter (after_epoch p (flat_of p c) bs ws) slots' (with_entries m ws) a.orderly run.table a.carries
    (filled_then p r c slots slots' m bs js ws book rows' counter o known seal v ep run orderly) in
    record {
      obeys = end.obeys;
      valued = end.valued;
      known = renewed_fit.known p (r.first).0 c (content_with r.filled book rows' counter) run.entries (seals_renewed p r c slots slots' m bs js ws book rows' counter o known seal v ep run) known;
      goes = λ u low. elim (cases_Bool (is_one_of (r.before).order u)) [
        | inl on ↦ inl on
        | inr off ↦ inr (goes_on p r c slots slots' m bs js ws book rows' counter o known seal v ep run u low off)
      ];
      within = listed_within p r c slots slots' m bs js ws book rows' counter o known seal v ep run;
      apart = listed_apart p r c slots slots' m bs js ws book rows' counter o known seal v ep run;
      homes = home_turned p r c slots slots' m bs js ws book rows' counter o known seal v ep run;
    }
