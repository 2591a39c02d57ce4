-- Words of buckets decide no label and no pick, and words of labels no slot.
use Rattle.std.specs.Prelude.{◌≡◌, ℕ, suc, ◌+◌, ◌<◌, Bool, true, false, List, [], ◌∷◌, ◌++◌, drop, length, map, Option, slice_index, take}
use Rattle.std.proofs.Common.{refl, sym, ap, subst, ◌∙◌, length-append}
use Rattle.std.proofs.lemmas.List.{length-map, map-append}
use mathlib.Core.Path.{fun_ext}
use Rattle.ob_base.specs.declared.params.Params.{Params}
use Rattle.ob_tables.specs.Buckets.{version_at}
use Rattle.ob_tables.specs.Kept.{entry_at}
use Rattle.ob_tables.specs.Rank.{ranks_of}
use Rattle.ob_tables.specs.declared.entry.Entry.{Entry}
use Rattle.ob_ring.specs.Filling.{words_of}
use Rattle.ob_ring.specs.FlatTable.{FinalLifts, FlatTable, Refill, Writes, after, picks, refill_order}
use Rattle.ob_ring.specs.Writing.{leaf_writes}
use Rattle.ob_stand.proofs.Plans.{listed_at}
use Rattle.ob_stand.specs.Table.{flat_of}
use Rattle.ob_log.specs.Logs.{BatchRecord}
use Rattle.ob_recover.specs.Bridge.{slot_read_off}
use Rattle.ob_recover.specs.Known.{label_among, leaves_of_records, picks_of_records, slot_kept}
use Rattle.ob_recover.specs.Repeats.{entries_after_records, table_after_records}
use Rattle.ob_schedule.specs.Paths.{is_one_of}
use Rattle.ob_schedule.specs.Schedule.{Fills}
use Rattle.ob_serial.specs.Vaults.{End, Fetch, VaultCall}
use Rattle.ob_end.specs.EndRuns.{end_writes, words_for_end}
use Rattle.ob_vault.specs.Hidden.{DrawsBatch, DrawsEnd, IsNextRecord, RingDraws, RingHidden, table_hidden, with_next}
use Rattle.ob_vault.specs.KindShown.{AreDrawn}
use Rattle.ob_vault.specs.RingKind.{ring_kind}
use Rattle.ob_vault.specs.RingVaults.{write_from}
use Rattle.ob_vault.specs.Shapes.{Shape}
use Rattle.ob_blind.specs.Draws.{AgreeInLabels, AreAllFilledAlike, AreFilledAlike, AreHiddenAlike, DrawsAreBlind, HaveSameSlots, words_of_buckets, call_erased, label_words, unnumbered, write_erased}
use Rattle.ob_blind.proofs.EraseLaws.{AreWritesAlike, end_entries, end_leaves, entries_unnumbered, leaves_unnumbered, of_unnumbered, picks_unnumbered, table_unnumbered, writes_alike}

-- what stands behind the first ones
since : (xs ys : List ℕ) → drop (length xs) (xs ++ ys) ≡ ys
since [] ys = refl
since (x ∷ xs) ys = since xs ys

module _ (p : Params) (one other : RingHidden) (a : AreHiddenAlike p one other) where
  table_alike : table_hidden p one ≡ table_hidden p other
  table_alike = of_unnumbered (table_after_records p (flat_of p one.content)) (table_unnumbered p (flat_of p one.content)) one.records other.records a.records ∙ ap (λ (t : FlatTable). table_after_records p t other.records) a.table

  entries_alike : (k : ℕ) → entries_after_records p (λ i. entry_at (one.content).book i) one.records k ≡ entries_after_records p (λ i. entry_at (other.content).book i) other.records k
  entries_alike k = of_unnumbered (λ rs. entries_after_records p (λ i. entry_at (one.content).book i) rs k) (entries_unnumbered p (λ i. entry_at (one.content).book i) k) one.records other.records a.records
      ∙ ap (λ (entries : ℕ → Option Entry). entries_after_records p entries other.records k) (fun_ext a.entries)

  leaves_alike : (rs others : List BatchRecord) → map unnumbered rs ≡ map unnumbered others → leaves_of_records p (flat_of p one.content) rs ≡ leaves_of_records p (flat_of p other.content) others
  leaves_alike rs others same = of_unnumbered (leaves_of_records p (flat_of p one.content)) (leaves_unnumbered p (flat_of p one.content)) rs others same ∙ ap (λ (t : FlatTable). leaves_of_records p t others) a.table

  picks_alike : (rs others : List BatchRecord) → map unnumbered rs ≡ map unnumbered others → picks_of_records p (flat_of p one.content) rs ≡ picks_of_records p (flat_of p other.content) others
  picks_alike rs others same = of_unnumbered (picks_of_records p (flat_of p one.content)) (picks_unnumbered p (flat_of p one.content)) rs others same ∙ ap (λ (t : FlatTable). picks_of_records p t others) a.table

  many_alike : length one.records ≡ length other.records
  many_alike = sym (length-map one.records unnumbered) ∙ ap (λ (l : List BatchRecord). length l) a.records ∙ length-map other.records unnumbered

  -- ---- a batch

  next_alike : (asks others : List (Option ℕ)) (r s : BatchRecord) → IsNextRecord one asks r → IsNextRecord other others s → asks ≡ others → r.words ≡ s.words → unnumbered r ≡ unnumbered s
  next_alike asks others r s is also same words =
      let batch = is.batch ∙ many_alike ∙ sym also.batch in
      let generation = is.generation ∙ a.generation ∙ sym also.generation in
      let first = is.first ∙ a.drawn ∙ sym also.first in
      let asked = is.asked ∙ same ∙ sym also.asked in
      λ i. record { batch = batch i; generation = generation i; number = 0; first = first i; asks = asked i; words = words i }

  with_next_alike : (r s : BatchRecord) → unnumbered r ≡ unnumbered s → map unnumbered (one.records ++ r ∷ []) ≡ map unnumbered (other.records ++ s ∷ [])
  with_next_alike r s same = map-append unnumbered one.records (r ∷ []) ∙ (λ i. a.records i ++ same i ∷ []) ∙ sym (map-append unnumbered other.records (s ∷ []))

  batch_hidden : (r s : BatchRecord) → unnumbered r ≡ unnumbered s → AreHiddenAlike p (with_next p one r) (with_next p other s)
  batch_hidden r s same = record {
    epoch = a.epoch;
    table = a.table;
    entries = a.entries;
    records = with_next_alike r s same;
    generation = a.generation;
    drawn = length-append one.words r.words ∙ (λ i. a.drawn i + length (same i).words) ∙ sym (length-append other.words s.words);
  }

  batch : (asks others : List (Option ℕ)) (f g : Fills) (behind then : RingHidden) → asks ≡ others → DrawsBatch p one asks f behind → DrawsBatch p other others g then
      → label_words p (Fetch asks) one behind ≡ label_words p (Fetch others) other then → AreFilledAlike p one other f g behind then
  batch asks others f g behind then same d e agree = record {
    labels = ap (λ (x : Fills). x.label) d.fills ∙ ap label_among (leaves_alike rs ss recorded) ∙ sym (ap (λ (x : Fills). x.label) e.fills);
    picked = picks_of_records p (flat_of p one.content) rs;
    slots = ap (λ (x : Fills). x.slot) d.fills;
    others = ap (λ (x : Fills). x.slot) e.fills ∙ ap (slot_read_off (slot_kept other.content)) (sym (picks_alike rs ss recorded));
    alike = subst (λ (h : RingHidden). AreHiddenAlike p h then) (sym d.behind_is) (subst (λ (h : RingHidden). AreHiddenAlike p (with_next p one d.next) h) (sym e.behind_is) (batch_hidden d.next e.next next));
  }
    where
      rs : List BatchRecord
      rs = one.records ++ d.next ∷ []

      ss : List BatchRecord
      ss = other.records ++ e.next ∷ []

      words : (d.next).words ≡ (e.next).words
      words = sym (since one.words (d.next).words) ∙ ap (λ (h : RingHidden). drop (length one.words) h.words) (sym d.behind_is) ∙ agree
          ∙ ap (λ (h : RingHidden). drop (length other.words) h.words) e.behind_is ∙ since other.words (e.next).words

      next : unnumbered d.next ≡ unnumbered e.next
      next = next_alike asks others d.next e.next d.is_next e.is_next same words

      recorded : map unnumbered rs ≡ map unnumbered ss
      recorded = with_next_alike d.next e.next next

  -- ---- an end

  end : (writes others : List (ℕ × Option (List ℕ))) (f g : Fills) (behind then : RingHidden) → map write_erased writes ≡ map write_erased others → DrawsEnd p one (map write_from writes) f behind → DrawsEnd p other (map write_from others) g then
      → label_words p (End writes) one behind ≡ label_words p (End others) other then → AreFilledAlike p one other f g behind then
  end writes others f g behind then same d e agree = record {
    labels = ap (λ (x : Fills). x.label) d.fills ∙ ap label_among (leaves_alike one.records other.records a.records) ∙ sym (ap (λ (x : Fills). x.label) e.fills);
    picked = picks_of_records p (flat_of p one.content) one.records ++ picks p (table_hidden p one) FinalLifts;
    slots = ap (λ (x : Fills). x.slot) d.fills;
    others = ap (λ (x : Fills). x.slot) e.fills ∙ ap (slot_read_off (slot_kept other.content)) (sym shown);
    alike = record {
      epoch = d.epoch ∙ ap suc a.epoch ∙ sym e.epoch;
      table = (d.ended).table ∙ (λ i. after p (after p (after p (table_alike i) FinalLifts) (Writes (leaves i))) Refill) ∙ sym (e.ended).table;
      entries = λ k. (d.ended).entries k ∙ end_entries p (map write_from writes) (map write_from others) alike d.words e.words words one.generation other.generation (length one.words) (length other.words) a.generation a.drawn
          (entries_after_records p (λ i. entry_at (one.content).book i) one.records) (entries_after_records p (λ i. entry_at (other.content).book i) other.records) (fun_ext entries_alike) k ∙ sym ((e.ended).entries k);
      records = ap (λ (l : List BatchRecord). map unnumbered l) d.none ∙ sym (ap (λ (l : List BatchRecord). map unnumbered l) e.none);
      generation = d.generation ∙ a.generation ∙ sym e.generation;
      drawn = ap (λ (l : List ℕ). length l) d.grows ∙ length-append one.words d.words ∙ (λ i. a.drawn i + many i) ∙ sym (length-append other.words e.words) ∙ sym (ap (λ (l : List ℕ). length l) e.grows);
    };
  }
    where
      alike : AreWritesAlike (map write_from writes) (map write_from others)
      alike = writes_alike writes others same

      words : take p.writes d.words ≡ take p.writes e.words
      words = ap (λ (l : List ℕ). take p.writes l) (sym (since one.words d.words) ∙ ap (λ (l : List ℕ). drop (length one.words) l) (sym d.grows)) ∙ agree
          ∙ ap (λ (l : List ℕ). take p.writes l) (ap (λ (l : List ℕ). drop (length other.words) l) e.grows ∙ since other.words e.words)

      leaves : leaf_writes (end_writes p (map write_from writes) d.words one.generation (length one.words)) ≡ leaf_writes (end_writes p (map write_from others) e.words other.generation (length other.words))
      leaves = end_leaves p (map write_from writes) (map write_from others) alike d.words e.words words one.generation other.generation (length one.words) (length other.words) a.generation a.drawn

      many : length d.words ≡ length e.words
      many = d.many ∙ ap (words_for_end p) table_alike ∙ sym e.many

      shown : picks_of_records p (flat_of p one.content) one.records ++ picks p (table_hidden p one) FinalLifts ≡ picks_of_records p (flat_of p other.content) other.records ++ picks p (table_hidden p other) FinalLifts
      shown = λ i. picks_alike one.records other.records a.records i ++ picks p (table_alike i) FinalLifts

-- ---- any call, and a row

abbrev asks_of : VaultCall → List (Option ℕ)
asks_of (Fetch asks) = asks
asks_of (End writes) = []

abbrev writes_in : VaultCall → List (ℕ × Option (List ℕ))
writes_in (Fetch asks) = []
writes_in (End writes) = writes

abbrev IsFetch : VaultCall → Type 0
IsFetch (Fetch asks) = Unit {0}
IsFetch (End writes) = ⊥

call : (p : Params) (one other : RingHidden) (c d : VaultCall) (f g : Fills) (behind then : RingHidden) → AreHiddenAlike p one other → call_erased c ≡ call_erased d → RingDraws p one c f behind → RingDraws p other d g then
    → label_words p c one behind ≡ label_words p d other then → AreFilledAlike p one other f g behind then
call p one other (Fetch asks) (Fetch others) f g behind then a same (draws, fit) (redraws, fits) agree = batch p one other a asks others f g behind then (ap asks_of same) draws redraws agree
call p one other (End writes) (End others) f g behind then a same draws redraws agree = end p one other a writes others f g behind then (ap writes_in same) draws redraws agree
call p one other (Fetch asks) (End others) f g behind then a same draws redraws agree = absurd (subst IsFetch same tt)
call p one other (End writes) (Fetch others) f g behind then a same draws redraws agree = absurd (subst IsFetch (sym same) tt)

row : (p : Params) (one other : RingHidden) (calls others : List VaultCall) (steps fills : List (Shape × Fills)) (behind then : RingHidden) → AreHiddenAlike p one other
    → (drawn : AreDrawn ring_kind p one calls steps behind) (again : AreDrawn ring_kind p other others fills then) → AgreeInLabels p one other calls others steps fills behind then drawn again
    → AreAllFilledAlike p one other calls others steps fills behind then drawn again
row p one other [] [] [] [] behind then a drawn again agree = subst (λ (h : RingHidden). AreHiddenAlike p h then) (sym drawn) (subst (λ (h : RingHidden). AreHiddenAlike p one h) (sym again) a)
row p one other (c ∷ cs) (d ∷ ds) (s ∷ ss) (r ∷ rs) behind then a (mid, draws, rest) (half, redraws, more) (same, words, agree) =
    let filled = call p one other c d s.1 r.1 mid half a same draws redraws words in (filled, row p mid half cs ds ss rs behind then filled.alike rest more agree)
row p one other _ _ _ _ behind then a drawn again agree = absurd agree

-- ---- slots

-- what is filled anew by one row of words, and else was the same, is the same
filled_same : (order : List ℕ) (fresh : ℕ → List ℕ) (c d old older : ℕ → List ℕ) → ((i : ℕ) → i < length order → c (slice_index order i) ≡ fresh i) → ((i : ℕ) → i < length order → d (slice_index order i) ≡ fresh i)
    → ((u : ℕ) → is_one_of order u ≡ false → c u ≡ old u) → ((u : ℕ) → is_one_of order u ≡ false → d u ≡ older u) → ((u : ℕ) → old u ≡ older u) → (u : ℕ) → c u ≡ d u
filled_same order fresh c d old older anew again stays stay same u = by (is_one_of order u) refl
  where
    by : (b : Bool) → is_one_of order u ≡ b → c u ≡ d u
    by true on = let (i, lt, is) = listed_at order u on in sym (ap c is) ∙ anew i lt ∙ sym (again i lt) ∙ ap d is
    by false off = stays u off ∙ same u ∙ sym (stay u off)

slots : (p : Params) (one other : RingHidden) (writes others : List (ℕ × Option (List ℕ))) (f g : Fills) (behind then : RingHidden) → table_hidden p one ≡ table_hidden p other → HaveSameSlots one.content other.content
    → RingDraws p one (End writes) f behind → RingDraws p other (End others) g then → words_of_buckets p one behind ≡ words_of_buckets p other then → HaveSameSlots behind.content then.content
slots p one other writes others f g behind then tables same d e agree =
    filled_same (order (table_hidden p one)) (λ i. ranks_of (words_of p (drop p.writes d.words) i)) (λ u. (version_at (behind.content).versions u).ranks) (λ u. (version_at (then.content).versions u).ranks)
    (λ u. (version_at (one.content).versions u).ranks) (λ u. (version_at (other.content).versions u).ranks)
    (d.ended).ranks again (d.ended).others stay same
  where
    order : FlatTable → List ℕ
    order t = refill_order p (after p t FinalLifts)

    words : drop p.writes d.words ≡ drop p.writes e.words
    words = ap (λ (l : List ℕ). drop p.writes l) (sym (since one.words d.words) ∙ ap (λ (l : List ℕ). drop (length one.words) l) (sym d.grows)) ∙ agree
        ∙ ap (λ (l : List ℕ). drop p.writes l) (ap (λ (l : List ℕ). drop (length other.words) l) e.grows ∙ since other.words e.words)

    again : (i : ℕ) → i < length (refill_order p (after p (table_hidden p one) FinalLifts)) → (version_at (then.content).versions (slice_index (refill_order p (after p (table_hidden p one) FinalLifts)) i)).ranks ≡ ranks_of (words_of p (drop p.writes d.words) i)
    again = subst (λ (t : FlatTable). (i : ℕ) → i < length (refill_order p (after p t FinalLifts)) → (version_at (then.content).versions (slice_index (refill_order p (after p t FinalLifts)) i)).ranks ≡ ranks_of (words_of p (drop p.writes d.words) i)) (sym tables)
        (λ i lt. (e.ended).ranks i lt ∙ ap (λ (l : List ℕ). ranks_of (words_of p l i)) (sym words))

    stay : (u : ℕ) → is_one_of (refill_order p (after p (table_hidden p one) FinalLifts)) u ≡ false → (version_at (then.content).versions u).ranks ≡ (version_at (other.content).versions u).ranks
    stay = subst (λ (t : FlatTable). (u : ℕ) → is_one_of (refill_order p (after p t FinalLifts)) u ≡ false → (version_at (then.content).versions u).ranks ≡ (version_at (other.content).versions u).ranks) (sym tables) (e.ended).others

pub draws_are_blind : DrawsAreBlind
draws_are_blind = record { call = call; row = row; slots = slots }
