-- The fills of the batches of records, and where the batches lead.
use Rattle.std.specs.Prelude.{◌≡◌, ℕ, zero, suc, ◌+◌, ◌<◌, Bool, false, List, [], ◌∷◌, ◌++◌, map, length, Option, slice_index, slice_index_or}
use Rattle.std.specs.List.{range_with_len, flat_map}
use Rattle.std.proofs.Common.{arith, refl, sym, ap, subst, ◌∙◌, append_assoc, add-one}
use Rattle.std.proofs.lemmas.List.{append-nil}
use Rattle.ob_base.specs.declared.params.Params.{Params}
use Rattle.ob_base.specs.Tree.{below}
use Rattle.ob_base.specs.Repeats.{Has}
use Rattle.ob_base.proofs.Repeats.{has_left, has_right}
use Rattle.ob_tables.specs.Content.{Content, Obeys}
use Rattle.ob_stand.specs.Counts.{public_of}
use Rattle.ob_stand.specs.Table.{flat_of}
use Rattle.ob_stand.proofs.Counts.{opening_counts}
use Rattle.ob_stand.proofs.Reading.{tables_are_read}
use Rattle.ob_recover.specs.Bridge.{slot_read_off}
use Rattle.ob_recover.specs.LifeLaws.{BatchFacts}
use Rattle.ob_recover.proofs.NotesLaws.{picks_scheduled, read_off}
use Rattle.ob_log.specs.Logs.{BatchRecord}
use Rattle.ob_recover.specs.Repeats.{asked_of_record, table_after_records}
use Rattle.ob_ring.specs.FlatTable.{Batch, FinalLifts, FlatTable, Shown, after, leaves_shown, picks}
use Rattle.ob_ring.specs.Laws.{seen_in}
use Rattle.ob_ring.specs.News.{AreNew, Marks, Seen, with_all}
use Rattle.ob_ring.specs.Sound.{IsSound, IsCounted}
use Rattle.ob_ring.proofs.NewLaws.{new-append, with_all-append, final_new}
use Rattle.ob_schedule.specs.Paths.{eviction_path}
use Rattle.ob_schedule.specs.Schedule.{Public, after_phase, counts_now}
use Rattle.ob_recover.specs.Known.{AreFillsOf, AreSlotsOf, FillsGoOn, fills_of, fills_with_lifts, label_among, leaves_of_records, picks_of_records, slot_kept}

-- ---- lists

abbrev pub flat : List (List ℕ) → List ℕ
flat ls = flat_map (λ leaves. leaves) ls

-- with so many leaves shown behind the others
abbrev pub with_leaves : Public → List ℕ → Public
with_leaves q leaves = record q { leaves = q.leaves ++ leaves }

shift_map : (f : ℕ → ℕ) (a n : ℕ) → map f (range_with_len (a + 1) n) ≡ map (λ i. f (i + 1)) (range_with_len a n)
shift_map f a zero = refl
shift_map f a (suc n) = ap (λ (xs : List ℕ). f (a + 1) ∷ xs) (shift_map f (a + 1) n)

-- a list is its items
pub items_of : (xs : List ℕ) → map (λ i. slice_index xs i) (below (length xs)) ≡ xs
items_of [] = refl
items_of (x ∷ xs) =
    let next : (λ (i : ℕ). slice_index (x ∷ xs) (i + 1)) ≡ (λ i. slice_index xs i) = λ j i. (let e : slice_index (x ∷ xs) (i + 1) ≡ slice_index xs i = rw add-one refl in e j) in
    ap (λ (ys : List ℕ). x ∷ ys) (shift_map (λ i. slice_index (x ∷ xs) i) 0 (length xs) ∙ ap (λ (g : ℕ → ℕ). map g (below (length xs))) next ∙ items_of xs)

-- ---- where the batches of records lead

pub record RecordsLead (p : Params) (t : FlatTable) (q : Public) (seen : Seen) (rs : List BatchRecord) : Type 0 where
  pub new : AreNew p seen (picks_of_records p t rs)
  pub sound : IsSound p (table_after_records p t rs)
  pub counted : IsCounted p (table_after_records p t rs) (counts_now p (with_leaves q (flat (leaves_of_records p t rs))))
  pub marks : Marks p (table_after_records p t rs) (with_all seen (picks_of_records p t rs))

pub none_more : (q : Public) → with_leaves q [] ≡ q
none_more q = ap (λ (leaves : List ℕ). record q { leaves = leaves }) (append-nil q.leaves)

pub leaves_join : (q : Public) (xs ys : List ℕ) → with_leaves (with_leaves q xs) ys ≡ with_leaves q (xs ++ ys)
leaves_join q xs ys = ap (λ (leaves : List ℕ). record q { leaves = leaves }) (append_assoc q.leaves xs ys)

pub records_lead : (p : Params) (t : FlatTable) (q : Public) (seen : Seen) (rs : List BatchRecord) → IsSound p t → IsCounted p t (counts_now p q) → Marks p t seen → RecordsLead p t q seen rs
records_lead p t q seen [] sound counted marks = record {
  new = tt;
  sound = sound;
  counted = subst (λ (x : Public). IsCounted p t (counts_now p x)) (sym (none_more q)) counted;
  marks = marks;
}
records_lead p t q seen (r ∷ rs) sound counted marks =
    let asked : List (Option ℕ × ℕ) = asked_of_record p r in
    let one : BatchFacts p q (λ b i. 0) (λ u j. 0) t asked seen = picks_scheduled p q (λ b i. 0) (λ u j. 0) t asked seen sound counted marks in
    let t1 : FlatTable = after p t (Batch asked) in
    let q1 : Public = after_phase p q (leaves_shown p t asked) in
    let seen1 : Seen = with_all seen (picks p t (Batch asked)) in
    let rest : RecordsLead p t1 q1 seen1 rs = records_lead p t1 q1 seen1 rs one.sound one.counted one.marks in
    record {
      new = new-append p seen (picks p t (Batch asked)) (picks_of_records p t1 rs) one.new rest.new;
      sound = rest.sound;
      counted = subst (λ (x : Public). IsCounted p (table_after_records p t1 rs) (counts_now p x)) (leaves_join q (leaves_shown p t asked) (flat (leaves_of_records p t1 rs))) rest.counted;
      marks = subst (λ (k : Seen). Marks p (table_after_records p t1 rs) k) (sym (with_all-append seen (picks p t (Batch asked)) (picks_of_records p t1 rs))) rest.marks;
    }

-- from a content on
pub content_leads : (p : Params) (c : Content) (epoch : ℕ) (gates : ℕ → Bool) (rs : List BatchRecord) → Obeys p c → RecordsLead p (flat_of p c) (public_of c epoch gates) (seen_in p (flat_of p c)) rs
content_leads p c epoch gates rs obeys = records_lead p (flat_of p c) (public_of c epoch gates) (seen_in p (flat_of p c)) rs (tables_are_read p c obeys).orderly.sound (opening_counts p c epoch gates obeys) (record { shown_is = λ u j standing. refl; next_is = λ u standing. refl })

-- ---- records in front of others

pub table_both : (p : Params) (t : FlatTable) (rs more : List BatchRecord) → table_after_records p t (rs ++ more) ≡ table_after_records p (table_after_records p t rs) more
table_both p t [] more = refl
table_both p t (r ∷ rs) more = table_both p (after p t (Batch (asked_of_record p r))) rs more

pub leaves_both : (p : Params) (t : FlatTable) (rs more : List BatchRecord) → leaves_of_records p t (rs ++ more) ≡ leaves_of_records p t rs ++ leaves_of_records p (table_after_records p t rs) more
leaves_both p t [] more = refl
leaves_both p t (r ∷ rs) more = ap (λ (ls : List (List ℕ)). leaves_shown p t (asked_of_record p r) ∷ ls) (leaves_both p (after p t (Batch (asked_of_record p r))) rs more)

pub picks_both : (p : Params) (t : FlatTable) (rs more : List BatchRecord) → picks_of_records p t (rs ++ more) ≡ picks_of_records p t rs ++ picks_of_records p (table_after_records p t rs) more
picks_both p t [] more = refl
picks_both p t (r ∷ rs) more =
    ap (λ (ss : List Shown). picks p t (Batch (asked_of_record p r)) ++ ss) (picks_both p (after p t (Batch (asked_of_record p r))) rs more)
    ∙ sym (append_assoc (picks p t (Batch (asked_of_record p r))) (picks_of_records p (after p t (Batch (asked_of_record p r))) rs) (picks_of_records p (table_after_records p (after p t (Batch (asked_of_record p r))) rs) more))

pub leaves_many : (p : Params) (t : FlatTable) (rs : List BatchRecord) → length (leaves_of_records p t rs) ≡ length rs
leaves_many p t [] = refl
leaves_many p t (r ∷ rs) = ap suc (leaves_many p (after p t (Batch (asked_of_record p r))) rs)

-- the labels of the first ones stay
first_lists : (xs ys : List (List ℕ)) (b : ℕ) → b < length xs → slice_index_or (xs ++ ys) b [] ≡ slice_index_or xs b []
first_lists [] ys b lt = absurd (omega arith)
first_lists (x ∷ xs) ys zero lt = refl
first_lists (x ∷ xs) ys (suc b) lt = first_lists xs ys b (omega arith)

labels_stay : (p : Params) (c : Content) (rs more : List BatchRecord) (b i : ℕ) → b < length rs → label_among (leaves_of_records p (flat_of p c) (rs ++ more)) b i ≡ label_among (leaves_of_records p (flat_of p c) rs) b i
labels_stay p c rs more b i lt =
    let t : FlatTable = flat_of p c in
    let low : b < length (leaves_of_records p t rs) = omega (arith, leaves_many p t rs) in
    ap (λ (ls : List (List ℕ)). label_among ls b i) (leaves_both p t rs more) ∙ ap (λ (l : List ℕ). slice_index l i) (first_lists (leaves_of_records p t rs) (leaves_of_records p (table_after_records p t rs) more) b low)

-- ---- what is read off

slots_off : (p : Params) (c : Content) (seen : Seen) (shown all : List Shown) (label : ℕ → ℕ → ℕ) → AreNew p seen all → ((s : Shown) → Has shown s → Has all s) → AreSlotsOf c shown (record { label = label; slot = slot_read_off (slot_kept c) all })
slots_off p c seen shown all label new within s has = ap (slot_kept c s.bucket) (read_off p seen all s new (within s has))

module _ (p : Params) (c : Content) (rs more : List BatchRecord) (obeys : Obeys p c) where
  abbrev t0 : FlatTable
  t0 = flat_of p c

  abbrev seen0 : Seen
  seen0 = seen_in p t0

  abbrev first : List Shown
  first = picks_of_records p t0 rs

  abbrev all : List Shown
  all = picks_of_records p t0 (rs ++ more)

  abbrev lifts : List Shown
  lifts = picks p (table_after_records p t0 (rs ++ more)) FinalLifts

  lead : RecordsLead p t0 (public_of c 0 (λ cell. false)) seen0 (rs ++ more)
  lead = content_leads p c 0 (λ cell. false) (rs ++ more) obeys

  within : (s : Shown) → Has first s → Has all s
  within s has = subst (λ (ss : List Shown). Has ss s) (sym (picks_both p t0 rs more)) (has_left first (picks_of_records p (table_after_records p t0 rs) more) s has)

  pub fills_more : AreFillsOf p c rs (fills_of p c (rs ++ more))
  fills_more = record {
    labels = λ b i lt. labels_stay p c rs more b i lt;
    slots = slots_off p c seen0 first all (label_among (leaves_of_records p t0 (rs ++ more))) lead.new within;
  }

  pub lifts_new : AreNew p seen0 (all ++ lifts)
  lifts_new = new-append p seen0 all lifts lead.new (final_new p (table_after_records p t0 (rs ++ more)) (eviction_path p (table_after_records p t0 (rs ++ more)).counter) (with_all seen0 all) lead.sound lead.marks).new

  pub fills_lifts : AreFillsOf p c rs (fills_with_lifts p c (rs ++ more))
  fills_lifts = record {
    labels = λ b i lt. labels_stay p c rs more b i lt;
    slots = slots_off p c seen0 first (all ++ lifts) (label_among (leaves_of_records p t0 (rs ++ more))) lifts_new (λ s has. has_left all lifts s (within s has));
  }

  -- and the final lifts' own
  pub own_lifts : AreSlotsOf c lifts (fills_with_lifts p c (rs ++ more))
  own_lifts = slots_off p c seen0 lifts (all ++ lifts) (label_among (leaves_of_records p t0 (rs ++ more))) lifts_new (λ s has. has_right all lifts s has)

pub fills_go_on : FillsGoOn
fills_go_on = record { more = λ p c rs more obeys. fills_more p c rs more obeys; lifts = λ p c rs more obeys. fills_lifts p c rs more obeys }

-- of all the records themselves
pub fills_own : (p : Params) (c : Content) (rs : List BatchRecord) → Obeys p c → AreFillsOf p c rs (fills_of p c rs)
fills_own p c rs obeys = subst (λ (all : List BatchRecord). AreFillsOf p c rs (fills_of p c all)) (append-nil rs) (fills_more p c rs [] obeys)

pub lifts_own : (p : Params) (c : Content) (rs : List BatchRecord) → Obeys p c → AreSlotsOf c (picks p (table_after_records p (flat_of p c) rs) FinalLifts) (fills_with_lifts p c rs)
lifts_own p c rs obeys = subst (λ (all : List BatchRecord). AreSlotsOf c (picks p (table_after_records p (flat_of p c) all) FinalLifts) (fills_with_lifts p c all)) (append-nil rs) (own_lifts p c rs [] obeys)
