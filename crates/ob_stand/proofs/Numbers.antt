-- Kept numbers, and those of the running generation.
use Rattle.std.specs.Prelude.{◌≡◌, ◌⊎◌, ℕ, ◌<◌, ◌≤◌, ◌^◌, ◌==◌, Bool, true, false, cond, List, [], ◌∷◌, map, length, take, slice_index, slice_index_or, Option, ⊤}
use Rattle.std.specs.declared.option.Option.TheVariants.{None, Some}
use Rattle.std.proofs.Common.{arith, refl, sym, ap, ◌∙◌, subst, inl, inr}
use Rattle.std.proofs.lemmas.Nat.{pow_pos}
use Rattle.std.proofs.Math.Nat.{mod-lt}
use Rattle.ob_base.specs.declared.params.Params.{Params}
use Rattle.ob_base.specs.declared.value.Write.{Write}
use Rattle.ob_base.specs.Tree.{below}
use Rattle.ob_tables.specs.Version.{Version}
use Rattle.ob_tables.specs.Buckets.{Buckets, version_at}
use Rattle.ob_schedule.specs.Paths.{is_one_of}
use Rattle.ob_tables.specs.declared.entry.Entry.{Entry}
use Rattle.ob_tables.specs.Kept.{entry_at}
use Rattle.ob_ring.specs.FlatTable.{after_label, asks_for, rebound}
use Rattle.ob_ring.specs.Fetching.{after_labels, own_entry, places_of}
use Rattle.ob_ring.specs.Filling.{AreSealedAnew, base_of}
use Rattle.ob_ring.specs.Writing.{entries_after, entry_of, with_entry, write_at, writes_of}
use Rattle.ob_ring.proofs.Members.{one_of-take}
use Rattle.ob_stand.specs.Numbers.{IsKnownEntry, IsOwnEntry, IsSealedAs, IsSealedIn, StepsRenew, RenewedFit}
use Rattle.ob_stand.proofs.Plans.{listed_at}

-- ---- entries

pub own_is : (p : Params) (words : List ℕ) (first : ℕ × ℕ) (i : ℕ) → IsOwnEntry p first.0 (own_entry p words first i)
own_is p words first i = record { under = refl; index = omega arith; leaf = mod-lt (slice_index words i) (pow_pos p.levels) }

abbrev AreOwn : Params → ℕ → List (Option ℕ × Entry) → Type 0
AreOwn p g [] = ⊤
AreOwn p g (a ∷ rest) = IsOwnEntry p g a.1 × AreOwn p g rest

places_own : (p : Params) (asks : List (Option ℕ)) (words : List ℕ) (first : ℕ × ℕ) (xs : List ℕ) → AreOwn p first.0 (map (λ i. (slice_index_or asks i None, own_entry p words first i)) xs)
places_own p asks words first [] = tt
places_own p asks words first (x ∷ xs) = (own_is p words first x, places_own p asks words first xs)

some_same : (a b : Entry) → Some a ≡ Some b → a ≡ b
some_same a b e = cc

rebound_from : (p : Params) (g : ℕ) (b : Bool) (own : Entry) (kept : Option Entry) (e : Entry) → IsOwnEntry p g own → rebound b own kept ≡ Some e → (kept ≡ Some e) ⊎ IsOwnEntry p g e
rebound_from p g b own None e is h = absurd (cc)
rebound_from p g true own (Some x) e is h = inr (subst (IsOwnEntry p g) (some_same own e h) is)
rebound_from p g false own (Some x) e is h = inl h

labels_from : (p : Params) (g : ℕ) (book : ℕ → Option Entry) (places : List (Option ℕ × Entry)) (k : ℕ) (e : Entry) → AreOwn p g places → after_labels book places k ≡ Some e → (book k ≡ Some e) ⊎ IsOwnEntry p g e
labels_from p g book [] k e own h = inl h
labels_from p g book (a ∷ rest) k e own h = elim (labels_from p g (after_label book a.0 a.1) rest k e own.1 h) [
  | inl before ↦ rebound_from p g (asks_for a.0 k) a.1 (book k) e own.0 before
  | inr now ↦ inr now
]

abbrev AreOwnWrites : Params → ℕ → List (Write × Entry) → Type 0
AreOwnWrites p g [] = ⊤
AreOwnWrites p g (w ∷ rest) = IsOwnEntry p g w.1 × AreOwnWrites p g rest

writes_own : (p : Params) (writes : List Write) (words : List ℕ) (first : ℕ × ℕ) (xs : List ℕ) → AreOwnWrites p first.0 (map (λ i. (write_at writes i, own_entry p words first i)) xs)
writes_own p writes words first [] = tt
writes_own p writes words first (x ∷ xs) = (own_is p words first x, writes_own p writes words first xs)

written_from : (p : Params) (g : ℕ) (b : Bool) (value : Option (List ℕ)) (own : Entry) (kept : Option Entry) (e : Entry) → IsOwnEntry p g own → cond b (entry_of value own) kept ≡ Some e → (kept ≡ Some e) ⊎ IsOwnEntry p g e
written_from p g true None own kept e is h = absurd (cc)
written_from p g true (Some v) own kept e is h = inr (subst (IsOwnEntry p g) (some_same own e h) is)
written_from p g false value own kept e is h = inl h

entries_from : (p : Params) (g : ℕ) (book : ℕ → Option Entry) (ws : List (Write × Entry)) (k : ℕ) (e : Entry) → AreOwnWrites p g ws → entries_after book ws k ≡ Some e → (book k ≡ Some e) ⊎ IsOwnEntry p g e
entries_from p g book [] k e own h = inl h
entries_from p g book (w ∷ ws) k e own h = elim (entries_from p g (with_entry book (w.0).key (entry_of (w.0).value w.1)) ws k e own.1 h) [
  | inl before ↦ written_from p g (k == (w.0).key) (w.0).value w.1 (book k) e own.0 before
  | inr now ↦ inr now
]

-- ---- seals

sealed_then : (g : ℕ) (a b c : Version) → (IsSealedAs a b ⊎ IsSealedIn g b) → (IsSealedAs b c ⊎ IsSealedIn g c) → IsSealedAs a c ⊎ IsSealedIn g c
sealed_then g a b c first then = elim then [
  | inr now ↦ inr now
  | inl same ↦ elim first [
    | inl before ↦ inl (record { generation = same.generation ∙ before.generation; base = same.base ∙ before.base })
    | inr anew ↦ inr (record { under = same.generation ∙ anew.under; base = subst (λ (x : ℕ). x < 2 ^ 64) (sym same.base) anew.base })
  ]
]

refill_seals : (p : Params) (old new : Buckets) (words : List ℕ) (first : ℕ × ℕ) (u : ℕ) (b : Bool) → is_one_of (take (length old.order) old.order) u ≡ b → AreSealedAnew p old new words first (length old.order)
    → IsSealedAs (version_at old.versions u) (version_at new.versions u) ⊎ IsSealedIn first.0 (version_at new.versions u)
refill_seals p old new words first u false off s = inl (record { generation = ap (λ (v : Version). v.generation) (s.others u off); base = ap (λ (v : Version). v.base) (s.others u off) })
refill_seals p old new words first u true on s =
    let at : (i : ℕ) × (i < length old.order) × (slice_index old.order i ≡ u) = listed_at old.order u (one_of-take (length old.order) old.order u on) in
    let low : base_of p first at.0 < 2 ^ 64 = omega arith in
    inr (subst (λ (v : ℕ). IsSealedIn first.0 (version_at new.versions v)) at.2
    (record { under = (s.anew at.0 at.1).under; base = subst (λ (x : ℕ). x < 2 ^ 64) (sym (s.anew at.0 at.1).from) low }))

own_known : (p : Params) (g : ℕ) (e : Entry) → IsOwnEntry p g e → IsKnownEntry p g e
own_known p g e own = record { under = (let same : e.generation ≡ g = own.under in omega arith); index = own.index; leaf = own.leaf }

pub steps_renew : StepsRenew
steps_renew = record {
  batch = λ p old new asks words first n is k e at. labels_from p first.0 (λ i. entry_at old i) (places_of p asks words first n) k e (places_own p asks words first (below n)) (sym (is k) ∙ at);
  writes = λ p old new writes words first n is k e at. entries_from p first.0 (λ i. entry_at old i) (writes_of p writes words first n) k e (writes_own p writes words first (below n)) (sym (is k) ∙ at);
  seals = λ old new g s u. inl (record { generation = s.generations u; base = s.bases u });
  refill = λ p old new words first s u. refill_seals p old new words first u (is_one_of (take (length old.order) old.order) u) refl s;
  books = λ p g a b c first then k e at. elim (then k e at) [
    | inl before ↦ first k e before
    | inr now ↦ inr now
  ];
  versions = λ g a b c first then u. sealed_then g (version_at a u) (version_at b u) (version_at c u) (first u) (then u);
  knows = λ p g a b c first then k e at. elim (then k e at) [
    | inl before ↦ first k e before
    | inr now ↦ inr (own_known p g e now)
  ];
}

-- ---- what follows

pub renewed_fit : RenewedFit
renewed_fit = record {
  book = λ p g old new low many fits renews. record {
    many = many;
    entries = λ k e at. elim (renews k e at) [
      | inl before ↦ fits.entries k e before
      | inr now ↦ record { generation = (let few : e.generation ≤ g = now.under in omega arith); index = now.index; leaf = now.leaf }
    ];
  };
  seals = λ p g old new low renews fits u within. elim (renews u) [
    | inl same ↦ record { generation = subst (λ (x : ℕ). x < 2 ^ 64) (sym same.generation) (fits u within).generation; base = subst (λ (x : ℕ). x < 2 ^ 64) (sym same.base) (fits u within).base }
    | inr now ↦ record { generation = subst (λ (x : ℕ). x < 2 ^ 64) (sym now.under) low; base = now.base }
  ];
  known = λ p g old new book seals known. record {
    entries = λ k e at. elim (book k e at) [
      | inl before ↦ known.entries k e before
      | inr now ↦ now.under
    ];
    seals = λ u. elim (seals u) [
      | inl same ↦ subst (λ (x : ℕ). x ≤ g) (sym same.generation) (known.seals u)
      | inr now ↦ (let same : (version_at new.versions u).generation ≡ g = now.under in omega arith)
    ];
  };
  later = λ c g h more known. record {
    entries = λ k e at. (let low : e.generation ≤ g = known.entries k e at in omega arith);
    seals = λ u. (let low : (version_at c.versions u).generation ≤ g = known.seals u in omega arith);
  };
}
