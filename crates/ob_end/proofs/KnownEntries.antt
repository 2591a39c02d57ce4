-- Each entry that the batches of records leave is the checkpoint's, or one of a record, whose generation is known.
use Rattle.std.specs.Prelude.{◌≡◌, ◌⊎◌, ℕ, suc, ◌≤◌, Bool, true, false, List, [], ◌∷◌, map, length, Option, Some, None, slice_index_or, ⊤}
use Rattle.std.proofs.Common.{arith, subst, inl, inr}
use Rattle.ob_base.specs.declared.params.Params.{Params}
use Rattle.ob_base.specs.Tree.{below}
use Rattle.ob_stand.specs.Numbers.{IsKnownEntry}
use Rattle.ob_stand.proofs.Numbers.{own_is}
use Rattle.ob_log.specs.Logs.{BatchRecord}
use Rattle.ob_recover.specs.Repeats.{entries_after_records, record_places}
use Rattle.ob_ring.specs.Fetching.{after_labels, own_entry}
use Rattle.ob_ring.specs.FlatTable.{after_label, asks_for, rebound}
use Rattle.ob_stand.specs.Stands.{AreKnown}
use Rattle.ob_tables.specs.declared.entry.Entry.{Entry}

abbrev PlacesKnown : Params → ℕ → List (Option ℕ × Entry) → Type 0
PlacesKnown p g [] = ⊤
PlacesKnown p g (a ∷ rest) = IsKnownEntry p g a.1 × PlacesKnown p g rest

some_is : (a b : Entry) → Some a ≡ Some b → a ≡ b
some_is a b e = cc

rebound_known : (p : Params) (g : ℕ) (b : Bool) (own : Entry) (kept : Option Entry) (e : Entry) → IsKnownEntry p g own → rebound b own kept ≡ Some e → (kept ≡ Some e) ⊎ IsKnownEntry p g e
rebound_known p g b own None e is h = absurd (cc)
rebound_known p g true own (Some x) e is h = inr (subst (IsKnownEntry p g) (some_is own e h) is)
rebound_known p g false own (Some x) e is h = inl h

labels_known : (p : Params) (g : ℕ) (entries : ℕ → Option Entry) (places : List (Option ℕ × Entry)) (k : ℕ) (e : Entry) → PlacesKnown p g places → after_labels entries places k ≡ Some e → (entries k ≡ Some e) ⊎ IsKnownEntry p g e
labels_known p g entries [] k e known at = inl at
labels_known p g entries (a ∷ rest) k e known at = elim (labels_known p g (after_label entries a.0 a.1) rest k e known.1 at) [
  | inl before ↦ rebound_known p g (asks_for a.0 k) a.1 (entries k) e known.0 before
  | inr now ↦ inr now
]

place_known : (p : Params) (g : ℕ) (r : BatchRecord) (i : ℕ) → r.generation ≤ g → IsKnownEntry p g (own_entry p r.words (r.generation, r.first) i)
place_known p g r i low = let own = own_is p r.words (r.generation, r.first) i in record { under = low; index = own.index; leaf = own.leaf }

places_known : (p : Params) (g : ℕ) (r : BatchRecord) (xs : List ℕ) → r.generation ≤ g → PlacesKnown p g (map (λ i. (slice_index_or r.asks i None, own_entry p r.words (r.generation, r.first) i)) xs)
places_known p g r [] low = tt
places_known p g r (x ∷ xs) low = (place_known p g r x low, places_known p g r xs low)

pub entries_known : (p : Params) (g : ℕ) (entries : ℕ → Option Entry) (rs : List BatchRecord) (k : ℕ) (e : Entry) → AreKnown rs g → entries_after_records p entries rs k ≡ Some e → (entries k ≡ Some e) ⊎ IsKnownEntry p g e
entries_known p g entries [] k e known at = inl at
entries_known p g entries (r ∷ rs) k e known at = elim (entries_known p g (after_labels entries (record_places p r)) rs k e (λ b low. known (suc b) (omega (arith, low))) at) [
  | inl before ↦ labels_known p g entries (record_places p r) k e (places_known p g r (below (length r.asks)) (known 0 (omega arith))) before
  | inr now ↦ inr now
]
