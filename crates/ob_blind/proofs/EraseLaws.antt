-- What a write's value, and a record's seal, have no part in.
use Rattle.std.specs.Prelude.{◌≡◌, ℕ, List, [], ◌∷◌, ◌++◌, length, map, Option, None, Some, slice_index_or, take}
use Rattle.std.proofs.Common.{zero, suc, refl, sym, ap, ◌∙◌}
use Rattle.std.proofs.lemmas.List.{length-map}
use Rattle.ob_base.specs.Tree.{below}
use Rattle.ob_base.specs.declared.params.Params.{Params}
use Rattle.ob_base.specs.declared.value.Write.{Write}
use Rattle.ob_tables.specs.declared.entry.Entry.{Entry}
use Rattle.ob_ring.specs.Fetching.{after_labels, own_entry}
use Rattle.ob_ring.specs.FlatTable.{Batch, FlatTable, Shown, after, leaves_shown, picks}
use Rattle.ob_ring.specs.Writing.{entries_after, entry_of, leaf_of_write, leaf_writes, with_entry, write_at}
use Rattle.ob_log.specs.Logs.{BatchRecord}
use Rattle.ob_recover.specs.Known.{leaves_of_records, picks_of_records}
use Rattle.ob_recover.specs.Repeats.{asked_of_record, entries_after_records, record_places, table_after_records}
use Rattle.ob_end.specs.EndRuns.{end_writes}
use Rattle.ob_vault.specs.RingVaults.{write_from}
use Rattle.ob_blind.specs.Draws.{unnumbered, value_erased, write_erased}

-- ---- records, but for their seals' numbers

-- what doesn't go by these numbers is the same of such records
pub of_unnumbered : {A : Type 0} (f : List BatchRecord → A) → ((rs : List BatchRecord) → f (map unnumbered rs) ≡ f rs) → (rs others : List BatchRecord) → map unnumbered rs ≡ map unnumbered others → f rs ≡ f others
of_unnumbered f stays rs others same = sym (stays rs) ∙ ap f same ∙ stays others

module _ (p : Params) where
  pub table_unnumbered : (t : FlatTable) (rs : List BatchRecord) → table_after_records p t (map unnumbered rs) ≡ table_after_records p t rs
  table_unnumbered t [] = refl
  table_unnumbered t (r ∷ rs) = table_unnumbered (after p t (Batch (asked_of_record p r))) rs

  pub entries_unnumbered : (entries : ℕ → Option Entry) (k : ℕ) (rs : List BatchRecord) → entries_after_records p entries (map unnumbered rs) k ≡ entries_after_records p entries rs k
  entries_unnumbered entries k [] = refl
  entries_unnumbered entries k (r ∷ rs) = entries_unnumbered (after_labels entries (record_places p r)) k rs

  pub leaves_unnumbered : (t : FlatTable) (rs : List BatchRecord) → leaves_of_records p t (map unnumbered rs) ≡ leaves_of_records p t rs
  leaves_unnumbered t [] = refl
  leaves_unnumbered t (r ∷ rs) = ap (λ (rest : List (List ℕ)). leaves_shown p t (asked_of_record p r) ∷ rest) (leaves_unnumbered (after p t (Batch (asked_of_record p r))) rs)

  pub picks_unnumbered : (t : FlatTable) (rs : List BatchRecord) → picks_of_records p t (map unnumbered rs) ≡ picks_of_records p t rs
  picks_unnumbered t [] = refl
  picks_unnumbered t (r ∷ rs) = ap (λ (rest : List Shown). picks p t (Batch (asked_of_record p r)) ++ rest) (picks_unnumbered (after p t (Batch (asked_of_record p r))) rs)

-- ---- writes, but for their values

-- the same keys are put, and the same are deleted
pub record AreWritesAlike (ws others : List Write) : Type 0 where
  pub many : length ws ≡ length others
  pub keys : (i : ℕ) → (write_at ws i).key ≡ (write_at others i).key
  pub kinds : (i : ℕ) → value_erased (write_at ws i).value ≡ value_erased (write_at others i).value

erased_at : (ws : List (ℕ × Option (List ℕ))) (i : ℕ) → ((write_at (map write_from ws) i).key ≡ (slice_index_or (map write_erased ws) i (0, None)).0) × (value_erased (write_at (map write_from ws) i).value ≡ (slice_index_or (map write_erased ws) i (0, None)).1)
erased_at [] i = (refl, refl)
erased_at (w ∷ ws) zero = (refl, refl)
erased_at (w ∷ ws) (suc i) = erased_at ws i

many_erased : (ws : List (ℕ × Option (List ℕ))) → length (map write_from ws) ≡ length (map write_erased ws)
many_erased ws = length-map ws write_from ∙ sym (length-map ws write_erased)

pub writes_alike : (ws others : List (ℕ × Option (List ℕ))) → map write_erased ws ≡ map write_erased others → AreWritesAlike (map write_from ws) (map write_from others)
writes_alike ws others same = record {
  many = many_erased ws ∙ ap (λ (l : List (ℕ × Option (List ℕ))). length l) same ∙ sym (many_erased others);
  keys = λ i. (erased_at ws i).0 ∙ ap (λ (l : List (ℕ × Option (List ℕ))). (slice_index_or l i (0, None)).0) same ∙ sym (erased_at others i).0;
  kinds = λ i. (erased_at ws i).1 ∙ ap (λ (l : List (ℕ × Option (List ℕ))). (slice_index_or l i (0, None)).1) same ∙ sym (erased_at others i).1;
}

leaf_erased : (v : Option (List ℕ)) (own : Entry) → leaf_of_write (value_erased v) own ≡ leaf_of_write v own
leaf_erased None own = refl
leaf_erased (Some value) own = refl

entry_erased : (v : Option (List ℕ)) (own : Entry) → entry_of (value_erased v) own ≡ entry_of v own
entry_erased None own = refl
entry_erased (Some value) own = refl

same_leaf : (v w : Option (List ℕ)) (own : Entry) → value_erased v ≡ value_erased w → leaf_of_write v own ≡ leaf_of_write w own
same_leaf v w own same = sym (leaf_erased v own) ∙ ap (λ (x : Option (List ℕ)). leaf_of_write x own) same ∙ leaf_erased w own

same_entry : (v w : Option (List ℕ)) (own : Entry) → value_erased v ≡ value_erased w → entry_of v own ≡ entry_of w own
same_entry v w own same = sym (entry_erased v own) ∙ ap (λ (x : Option (List ℕ)). entry_of x own) same ∙ entry_erased w own

module _ (ws others : List Write) (alike : AreWritesAlike ws others) (own : ℕ → Entry) where
  same_leaves : (at : List ℕ) → leaf_writes (map (λ i. (write_at ws i, own i)) at) ≡ leaf_writes (map (λ i. (write_at others i, own i)) at)
  same_leaves [] = refl
  same_leaves (i ∷ at) = λ j. (alike.keys i j, same_leaf (write_at ws i).value (write_at others i).value (own i) (alike.kinds i) j) ∷ same_leaves at j

  same_entries : (book : ℕ → Option Entry) (k : ℕ) (at : List ℕ) → entries_after book (map (λ i. (write_at ws i, own i)) at) k ≡ entries_after book (map (λ i. (write_at others i, own i)) at) k
  same_entries book k [] = refl
  same_entries book k (i ∷ at) = ap (λ (b : ℕ → Option Entry). entries_after b (map (λ n. (write_at ws n, own n)) at) k) (λ j. with_entry book (alike.keys i j) (same_entry (write_at ws i).value (write_at others i).value (own i) (alike.kinds i) j))
      ∙ same_entries (with_entry book (write_at others i).key (entry_of (write_at others i).value (own i))) k at

-- the words of the writes, and where they stand in the tape, are the same
module _ (p : Params) (ws others : List Write) (alike : AreWritesAlike ws others) (words again : List ℕ) (same : take p.writes words ≡ take p.writes again) (g h m n : ℕ) (generation : g ≡ h) (drawn : m ≡ n) where
  pub end_leaves : leaf_writes (end_writes p ws words g m) ≡ leaf_writes (end_writes p others again h n)
  end_leaves = same_leaves ws others alike (own_entry p (take p.writes words) (g, m)) (below (length ws))
      ∙ λ j. leaf_writes (map (λ i. (write_at others i, own_entry p (same j) (generation j, drawn j) i)) (below (alike.many j)))

  pub end_entries : (book then : ℕ → Option Entry) → book ≡ then → (k : ℕ) → entries_after book (end_writes p ws words g m) k ≡ entries_after then (end_writes p others again h n) k
  end_entries book then books k = same_entries ws others alike (own_entry p (take p.writes words) (g, m)) book k (below (length ws))
      ∙ λ j. entries_after (books j) (map (λ i. (write_at others i, own_entry p (same j) (generation j, drawn j) i)) (below (alike.many j))) k
