-- What batches and final lifts show lies in the tree, at the indexes of its buckets.
use Rattle.std.specs.Prelude.{◌≡◌, ℕ, ◌+◌, ◌-◌, ◌<◌, ◌^◌, ◌==◌, Bool, true, false, cond, List, [], ◌∷◌, ◌++◌, Option, Some, None}
use Rattle.std.proofs.Common.{arith, refl, sym, ap, subst, inl, inr}
use Rattle.std.proofs.lemmas.Bool.{eq-eqb, or_left, or_right}
use Rattle.std.proofs.lemmas.Nat.{pow_pos}
use Rattle.ob_base.specs.declared.params.Params.{Params}
use Rattle.ob_base.specs.Repeats.{Has}
use Rattle.ob_base.specs.Tree.{buckets, path, width}
use Rattle.ob_tables.specs.Content.{Content, Obeys}
use Rattle.ob_stand.specs.Counts.{public_of}
use Rattle.ob_stand.specs.Table.{flat_of, lying_place, row_for}
use Rattle.ob_log.specs.Logs.{BatchRecord}
use Rattle.ob_recover.specs.Repeats.{asked_of_record, table_after_records}
use Rattle.ob_recover.proofs.StandingReads.{asked_low}
use Rattle.ob_ring.specs.FlatTable.{Batch, FinalLifts, FlatTable, Shown, Spot, after, after_place, asked_row, batch_shown, fetch, final_shown, index_shown, Row, leaf_of, leaf_shown, lift, lift_shown, mark_index, picks, reads, shown_numbered, spot_of, visit, visit_shown, visits_shown}
use Rattle.ob_ring.specs.Laws.{seen_in}
use Rattle.ob_ring.specs.News.{AreNew, Seen, with_all, with_shown}
use Rattle.ob_ring.proofs.Lows.{AreLow, IsLow, eviction_within, low_batch, passes_within}
use Rattle.ob_ring.proofs.NewLaws.{final_new}
use Rattle.ob_schedule.specs.Paths.{eviction_path, is_one_of}
use Rattle.ob_tables.specs.Kept.{entry_at}
use Rattle.ob_tables.specs.declared.entry.Entry.{Entry}
use Rattle.ob_recover.specs.Known.{picks_of_records}
use Rattle.ob_recover.proofs.Fills.{RecordsLead, content_leads}

-- ---- buckets below a number

abbrev pub AreShownBelow : ℕ → List Shown → Type 0
AreShownBelow n [] = Unit {0}
AreShownBelow n (s ∷ ss) = (s.bucket < n) × AreShownBelow n ss

abbrev pub AreBelow : ℕ → List ℕ → Type 0
AreBelow n [] = Unit {0}
AreBelow n (u ∷ us) = (u < n) × AreBelow n us

both_below : (n : ℕ) (xs ys : List Shown) → AreShownBelow n xs → AreShownBelow n ys → AreShownBelow n (xs ++ ys)
both_below n [] ys a b = b
both_below n (x ∷ xs) ys a b = (a.0, both_below n xs ys a.1 b)

either_below : (n : ℕ) (b : Bool) (xs ys : List Shown) → AreShownBelow n xs → AreShownBelow n ys → AreShownBelow n (cond b xs ys)
either_below n true xs ys a b = a
either_below n false xs ys a b = b

numbered_below : (n u m : ℕ) (js : List ℕ) → u < n → AreShownBelow n (shown_numbered u m js)
numbered_below n u m [] low = tt
numbered_below n u m (j ∷ js) low = (low, numbered_below n u (m + 1) js low)

visit_below : (n : ℕ) (p : Params) (t : FlatTable) (own : Spot) (u : ℕ) → u < n → AreShownBelow n (visit_shown p t own u)
visit_below n p t own u low =
    let j : ℕ = index_shown p t own u in
    let lifted : List Shown = lift_shown p (mark_index t u j) u in
    either_below n (t.lifted u) [] (record { bucket = u; number = reads p t u; index = j } ∷ cond (reads p t u + 1 == p.dummies) lifted []) tt
    (low, either_below n (reads p t u + 1 == p.dummies) lifted [] (numbered_below n u _ _ low) tt)

visits_below : (n : ℕ) (p : Params) (t : FlatTable) (own : Spot) (us : List ℕ) → AreBelow n us → AreShownBelow n (visits_shown p t own us)
visits_below n p t own [] low = tt
visits_below n p t own (u ∷ us) low = both_below n (visit_shown p t own u) (visits_shown p (visit p t own u) own us) (visit_below n p t own u low.0) (visits_below n p (visit p t own u) own us low.1)

pub final_below : (n : ℕ) (p : Params) (t : FlatTable) (us : List ℕ) → AreBelow n us → AreShownBelow n (final_shown p t us)
final_below n p t [] low = tt
final_below n p t (u ∷ us) low =
    let next : FlatTable = cond (t.lifted u) t (lift t u) in
    both_below n (cond (t.lifted u) [] (lift_shown p t u)) (final_shown p next us) (either_below n (t.lifted u) [] (lift_shown p t u) tt (numbered_below n u _ _ low.0)) (final_below n p next us low.1)

pub all_below : (n : ℕ) (us : List ℕ) → ((u : ℕ) → is_one_of us u ≡ true → u < n) → AreBelow n us
all_below n [] each = tt
all_below n (v ∷ us) each = (each v (or_left (v == v) (is_one_of us v) (eq-eqb v v refl)), all_below n us (λ u one. each u (or_right (v == u) (is_one_of us u) one)))

-- ---- the tree

abbrev pub many : Params → ℕ
many p = 2 ^ (p.levels + 1) - 1

low_default : (r : Option Row) (x m : ℕ) → x < m → leaf_of r 0 < m → leaf_of r x < m
low_default None x m h k = h
low_default (Some r) x m h k = k

low_shown : (p : Params) (t : FlatTable) (ask : Option ℕ) (leaf : ℕ) → leaf < 2 ^ p.levels → IsLow p t → leaf_shown t ask leaf < 2 ^ p.levels
low_shown p t None leaf h l = h
low_shown p t (Some k) leaf h l = low_default (t.rows k) leaf (2 ^ p.levels) h (l k)

pub batch_below : (p : Params) (t : FlatTable) (asked : List (Option ℕ × ℕ)) → AreLow p asked → IsLow p t → AreShownBelow (many p) (batch_shown p t asked)
batch_below p t [] low l = tt
batch_below p t (a ∷ asked) low l =
    let leaf : ℕ = leaf_shown t a.0 a.1 in
    let t1 : FlatTable = after_place p t a.0 a.1 in
    both_below (many p) (visits_shown p (fetch t a.0 a.1) (spot_of (asked_row t a.0)) (path p leaf)) (batch_shown p t1 asked)
    (visits_below (many p) p (fetch t a.0 a.1) (spot_of (asked_row t a.0)) (path p leaf) (all_below (many p) (path p leaf) (λ u one. passes_within p u leaf (low_shown p t a.0 a.1 low.0 l) one)))
    (batch_below p t1 asked low.1 (low_batch p t (a ∷ []) (low.0, tt) l))

records_below : (p : Params) (t : FlatTable) (rs : List BatchRecord) → IsLow p t → AreShownBelow (many p) (picks_of_records p t rs)
records_below p t [] l = tt
records_below p t (r ∷ rs) l =
    let asked : List (Option ℕ × ℕ) = asked_of_record p r in
    let t1 : FlatTable = after p t (Batch asked) in
    both_below (many p) (picks p t (Batch asked)) (picks_of_records p t1 rs) (batch_below p t asked (asked_low p r) l) (records_below p t1 rs (low_batch p t asked (asked_low p r) l))

pub bucket_at : (n : ℕ) (ss : List Shown) (s : Shown) → AreShownBelow n ss → Has ss s → s.bucket < n
bucket_at n [] s low has = absurd has
bucket_at n (x ∷ ss) s low (inl is) = subst (λ (y : Shown). y.bucket < n) is low.0
bucket_at n (x ∷ ss) s low (inr has) = bucket_at n ss s low.1 has

index_at : (p : Params) (seen : Seen) (ss : List Shown) (s : Shown) → AreNew p seen ss → Has ss s → s.index < width p
index_at p seen [] s new has = absurd has
index_at p seen (x ∷ ss) s new (inl is) = subst (λ (y : Shown). y.index < width p) is new.0
index_at p seen (x ∷ ss) s new (inr has) = index_at p (with_shown seen x) ss s new.3 has

pub in_tree : (p : Params) (u : ℕ) → u < many p → u < buckets p
unfolding buckets
in_tree p u low = low

row_low : (p : Params) (e : Option Entry) (spot : Spot) → ((x : Entry) → e ≡ Some x → x.leaf < 2 ^ p.levels) → leaf_of (row_for e spot) 0 < 2 ^ p.levels
row_low p None spot fits = pow_pos p.levels
row_low p (Some x) spot fits = fits x refl

content_low : (p : Params) (c : Content) → Obeys p c → IsLow p (flat_of p c)
content_low p c obeys k = row_low p (entry_at c.book k) (lying_place p c.versions k) (λ x is. (obeys.book.entries k x is).leaf)

-- ---- of a content and its records

module _ (p : Params) (c : Content) (rs : List BatchRecord) (obeys : Obeys p c) where
  lead : RecordsLead p (flat_of p c) (public_of c 0 (λ cell. false)) (seen_in p (flat_of p c)) rs
  lead = content_leads p c 0 (λ cell. false) rs obeys

  pub records_in_tree : (s : Shown) → Has (picks_of_records p (flat_of p c) rs) s → (s.bucket < buckets p) × (s.index < width p)
  records_in_tree s has = (
    in_tree p s.bucket (bucket_at (many p) (picks_of_records p (flat_of p c) rs) s (records_below p (flat_of p c) rs (content_low p c obeys)) has),
    index_at p (seen_in p (flat_of p c)) (picks_of_records p (flat_of p c) rs) s lead.new has,
  )

  pub lifts_in_tree : (s : Shown) → Has (picks p (table_after_records p (flat_of p c) rs) FinalLifts) s → (s.bucket < buckets p) × (s.index < width p)
  lifts_in_tree s has =
      let t : FlatTable = table_after_records p (flat_of p c) rs in
      let path : List ℕ = eviction_path p t.counter in
      let seen : Seen = with_all (seen_in p (flat_of p c)) (picks_of_records p (flat_of p c) rs) in (
        in_tree p s.bucket (bucket_at (many p) (final_shown p t path) s (final_below (many p) p t path (all_below (many p) path (λ u one. eviction_within p t.counter u one))) has),
        index_at p seen (final_shown p t path) s (final_new p t path seen lead.sound lead.marks).new has,
      )
