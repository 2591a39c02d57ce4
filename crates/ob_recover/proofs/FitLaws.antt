-- A planner that fits goes on fitting over a batch, and that of a content that obeys fits.
use Rattle.std.specs.Prelude.{◌≡◌, ◌≢◌, ℕ, ◌+◌, ◌<◌, ◌^◌, List, [], length, Option}
use Rattle.std.specs.declared.option.Option.TheVariants.{None, Some}
use Rattle.std.specs.FinMap as finite
use Rattle.std.proofs.Common.{arith, inl, inr, refl, sym, ap, ◌∙◌, subst}
use Rattle.ob_base.specs.declared.params.Params.{Params}
use Rattle.ob_base.specs.Tree.{buckets}
use Rattle.ob_tables.specs.Buckets.{Buckets, version_at}
use Rattle.ob_tables.specs.Version.{IsWhole, key_at}
use Rattle.ob_check.specs.Fresh.{AreIdle}
use Rattle.ob_tables.specs.Content.{Content, FitsBook, FitsSeals, IsKeyOf, Obeys, content_of}
use Rattle.ob_tables.specs.Spelling.{slot_bytes}
use Rattle.ob_stand.specs.Plans.{AreAllWhole}
use Rattle.ob_stand.specs.Table.{flat_of, ring_of}
use Rattle.ob_stand.specs.Valued.{IsSlotOf, IsValued}
use Rattle.ob_stand.proofs.Numbers.{steps_renew}
use Rattle.ob_stand.proofs.Plans.{refill_plans}
use Rattle.ob_stand.proofs.Standing.{contents_carry}
use Rattle.ob_recover.specs.Fits.{IsPlannerFit}
use Rattle.ob_recover.specs.Repeats.{RowsJoin, asked_of_record, record_of, record_places}
use Rattle.ob_recover.proofs.BeginLaws.{ring_stands}
use Rattle.ob_recover.proofs.JoinLaws.{carries_then, joined, map_then}
use Rattle.ob_ring.specs.Fetching.{after_labels}
use Rattle.ob_ring.specs.FlatTable.{Batch, FlatTable, after}
use Rattle.ob_ring.specs.Picked.{SameSeals, batch_picked}
use Rattle.ob_ring.specs.Ring.{IsRing, Kept, StandsFor}
use Rattle.ob_tables.specs.Kept.{entry_at}
use Rattle.ob_tables.specs.declared.entry.Entry.{Entry}
use Rattle.ob_tables.specs.declared.tables.Tables.{Tables}
use Rattle.ob_stand.proofs.KeyLaws.{picked_are_taken}
use Rattle.ob_stand.specs.Values.{Values}
use Rattle.ob_stand.specs.Carries.{Carries, Slots}

-- ---- over a batch

module _ (old new : Kept) (fit : IsPlannerFit old) (g first : ℕ) (asks : List (Option ℕ)) (words : List ℕ) (low : g < 2 ^ 64) (kept : new ≡ record old { book = new.book; metas = new.metas; stash = new.stash }) (rules : IsRing new)
    (entries : (k : ℕ) → entry_at new.book k ≡ after_labels (λ i. entry_at old.book i) (record_places old.p (record_of 0 0 g first asks words)) k) (seals : SameSeals (record old.metas { order = [] }) new.metas)
    (stands : StandsFor new (after old.p fit.table (Batch (asked_of_record old.p (record_of 0 0 g first asks words)))))
    (joins : RowsJoin (batch_picked old.p fit.table (asked_of_record old.p (record_of 0 0 g first asks words))) (old.stash).rows (new.stash).rows) where
  abbrev asked : List (Option ℕ × ℕ)
  asked = asked_of_record old.p (record_of 0 0 g first asks words)

  same : new.p ≡ old.p
  same = ap (λ (r : Kept). r.p) kept

  abbrev table_then : FlatTable
  table_then = after old.p fit.table (Batch asked)

  abbrev map_now : Values
  map_now = map_then old.p fit.table table_then (old.stash).rows (new.stash).rows fit.slots fit.map _ (picked_are_taken.batch old.p fit.table asked (fit.stands).orderly (fit.carries).low) (picked_are_taken.batch_keys old.p fit.table asked) fit.carries
      (joined _ (old.stash).rows (new.stash).rows joins)

  carried : Carries new.p table_then (new.stash).rows fit.slots map_now
  carried = subst (λ (q : Params). Carries q table_then (new.stash).rows fit.slots map_now) (sym same)
      (carries_then old.p fit.table table_then (old.stash).rows (new.stash).rows fit.slots fit.map _ (picked_are_taken.batch old.p fit.table asked (fit.stands).orderly (fit.carries).low) (picked_are_taken.batch_keys old.p fit.table asked) fit.carries
      (joined _ (old.stash).rows (new.stash).rows joins))

  book_fits : FitsBook old.p new.book
  book_fits = record {
    many = subst (λ (q : Params). length new.book ≡ q.keys) same (rules.book).many;
    entries = λ k e at. elim (steps_renew.batch old.p old.book new.book asks words (g, first) (length asks) entries k e at) [
      | inl before ↦ (fit.book).entries k e before
      | inr now ↦ record { generation = subst (λ (x : ℕ). x < 2 ^ 64) (sym now.under) low; index = now.index; leaf = now.leaf }
    ];
  }

  seals_fit : (u : ℕ) → u < buckets new.p → FitsSeals (version_at (new.metas).versions u)
  seals_fit u lt =
      let was : FitsSeals (version_at (old.metas).versions u) = fit.seals u (subst (λ (q : Params). u < buckets q) same lt) in
      record {
        generation = subst (λ x. x < 2 ^ 64) (sym (seals.generations u)) was.generation;
        base = subst (λ x. x < 2 ^ 64) (sym (seals.bases u)) was.base;
      }

  all_whole : AreAllWhole new.p new.metas
  all_whole = refill_plans.whole_same new.p (record old.metas { order = [] }) new.metas rules.metas seals
      (subst (λ (q : Params). AreAllWhole q (record old.metas { order = [] })) (sym same) fit.whole)

  pub fit_batch : IsPlannerFit new
  fit_batch = record {
    table = table_then;
    stands = stands;
    slots = fit.slots;
    map = map_now;
    carries = carried;
    book = subst (λ (q : Params). FitsBook q new.book) (sym same) book_fits;
    seals = seals_fit;
    whole = all_whole;
  }

-- a batch that was planned, and then settled
module _ (old mid last : Kept) (fit : IsPlannerFit old) (g first : ℕ) (asks : List (Option ℕ)) (words : List ℕ) (low : g < 2 ^ 64) (planned : mid ≡ record old { book = mid.book; metas = mid.metas }) (settled : last ≡ record mid { stash = last.stash }) (rules : IsRing last)
    (entries : (k : ℕ) → entry_at mid.book k ≡ after_labels (λ i. entry_at old.book i) (record_places old.p (record_of 0 0 g first asks words)) k) (seals : SameSeals (record old.metas { order = [] }) mid.metas)
    (stands : StandsFor mid (after old.p fit.table (Batch (asked_of_record old.p (record_of 0 0 g first asks words)))))
    (joins : RowsJoin (batch_picked old.p fit.table (asked_of_record old.p (record_of 0 0 g first asks words))) (old.stash).rows (last.stash).rows) where
  pub fit_settled : IsPlannerFit last
  fit_settled = subst IsPlannerFit (sym settled)
      (fit_batch old (record mid { stash = last.stash }) fit g first asks words low (ap (λ (r : Kept). record r { stash = last.stash }) planned) (subst IsRing settled rules) entries seals
      (record { orderly = stands.orderly; arrays = stands.arrays }) joins)

-- ---- of a content

-- some map that a content may have: its own rows, and an empty value of each key that lies in a bucket
abbrev value_of : Option Entry → Option (List ℕ) → Option (List ℕ)
value_of None row = None
value_of (Some e) None = Some []
value_of (Some e) (Some value) = Some value

abbrev some_map : Content → Values
some_map c k = value_of (entry_at c.book k) (finite.get c.rows k)

-- and the bytes of its slots
abbrev empty_row : Option ℕ → List ℕ
empty_row None = []
empty_row (Some k) = slot_bytes k []

abbrev some_slots : Content → Slots
some_slots c u j = empty_row (key_at (version_at c.versions u) j)

some_not : {X : Type 0} (o : Option X) (x : X) → o ≡ Some x → o ≢ None
some_not o x e f = let both : None ≡ Some x = sym f ∙ e in absurd (cc)

none_of : {X : Type 0} (o : Option X) → (o ≢ None → ⊥) → o ≡ None
none_of None h = refl
none_of (Some x) h = absurd (h (some_not (Some x) x refl))

value_held : (e : Option Entry) (row : Option (List ℕ)) (value : List ℕ) → row ≡ Some value → e ≢ None → value_of e row ≡ Some value
value_held None row value is present = absurd (present refl)
value_held (Some e) None value is present = absurd (some_not None value is refl)
value_held (Some e) (Some x) value is present = is

module _ (p : Params) (c : Content) (obeys : Obeys p c) where
  rows_are : (k : ℕ) (value : List ℕ) → finite.get c.rows k ≡ Some value → some_map c k ≡ Some value
  rows_are k value is = value_held (entry_at c.book k) (finite.get c.rows k) value is (((obeys.stash k).0 (some_not (finite.get c.rows k) value is)).0)

  slots_are : (u j k : ℕ) → key_at (version_at c.versions u) j ≡ Some k → IsSlotOf (some_slots c) (some_map c) u j k
  slots_are u j k at =
      let key : IsKeyOf p c.book u k = obeys.keys u j k at in
      let off : finite.get c.rows k ≡ None = none_of (finite.get c.rows k) (λ held. ((obeys.stash k).0 held).1 u j at) in
      record {
        value = [];
        is = (λ i. value_of (key.kept i) (off i));
        spelled = ap empty_row at;
        short = omega arith;
      }

  pub some_valued : IsValued c (some_slots c) (some_map c)
  some_valued = record {
    absent = λ k is. ap (λ (e : Option Entry). value_of e (finite.get c.rows k)) is;
    rows = rows_are;
    slots_are = slots_are;
  }

pub fit_content : (p : Params) (t : Tables Buckets) → Obeys p (content_of t) → AreIdle p t → IsPlannerFit (ring_of p t)
fit_content p t obeys idle = record {
  table = flat_of p (content_of t);
  stands = ring_stands p t obeys idle;
  slots = some_slots (content_of t);
  map = some_map (content_of t);
  carries = contents_carry p (content_of t) (some_slots (content_of t)) (some_map (content_of t)) obeys (some_valued p (content_of t) obeys);
  book = obeys.book;
  seals = obeys.seals;
  whole = λ u lt. whole_of u lt;
}
  where
    whole_of : (u : ℕ) → u < buckets p → IsWhole (version_at (t.metas).versions u)
    whole_of u lt =
        let v = obeys.versions u lt in
        let keys : length (version_at (t.metas).versions u).keys ≡ p.real = (v.slots).keys in
        let ranks : length (version_at (t.metas).versions u).ranks ≡ p.real + p.dummies = (v.slots).ranks in
        record { home = v.home; keys = omega arith; used = (v.slots).used ∙ sym ranks; ranks = v.ranks }
