-- The reads of the planner's picks are the public schedule, its fills read off.
use Rattle.std.specs.Prelude.{◌≡◌, ℕ, ◌+◌, ◌-◌, ◌<◌, ◌≤◌, ◌==◌, ◌^◌, nat_le, Bool, false, cond, ◌&&◌, ◌||◌, List, [], ◌∷◌, ◌++◌, map, length, Option, slice_index}
use Rattle.std.specs.List.{range_with_len, count_by, flat_map}
use Rattle.std.proofs.Common.{arith, refl, sym, ap, subst, ◌∙◌, inl, inr}
use Rattle.std.proofs.lemmas.Bool.{eq-eqb, ne_eqb, cases_eq, and_right, and_left, and_from}
use Rattle.std.proofs.lemmas.List.Sums.{sum_by-append}
use Rattle.ob_base.specs.declared.params.Params.{Params}
use Rattle.ob_base.specs.Tree.{below, passes}
use Rattle.ob_schedule.specs.Paths.{is_one_of, eviction_path}
use Rattle.ob_ring.specs.FlatTable.{FlatTable, Shown, leaf_shown, place_shown, after_place, batch_shown, after_batch, leaves_shown, final_shown, after_final}
use Rattle.ob_schedule.specs.Holes.{place_holes, passes_before, final_holes}
use Rattle.ob_ring.specs.News.{Seen, with_shown, AreNew, Marks}
use Rattle.ob_recover.specs.LifeLaws.{PicksAreScheduled, LiftsAreScheduled}
use Rattle.ob_store.specs.declared.watch.Note.{Note}
use Rattle.ob_store.specs.declared.watch.Note.TheVariants.{Label, Read}
use Rattle.ob_base.specs.Layout.{slot_cell}
use Rattle.ob_schedule.specs.Schedule.{Public, Fills, counts_now, hole_reads, phase_notes, after_phase, after_end, is_lifted_by_end}
use Rattle.ob_recover.specs.Bridge.{index_at, picked_reads, picked_notes, slot_read_off}
use Rattle.ob_base.proofs.Repeats.{has_left, has_right}
use Rattle.ob_base.specs.Repeats.{Has}
use Rattle.ob_ring.specs.Sound.{IsSound}
use Rattle.ob_ring.specs.Sound.{hole_of, IsCounted}
use Rattle.ob_ring.proofs.Batches.{PlaceLaw, place_law, passed, shift_range, count_more, at_next, BatchLaw, batch_law, final_holes_law, FinalLaw, final_law}
use Rattle.ob_ring.proofs.Lows.{IsLow, ArePutsLow}
use Rattle.ob_recover.proofs.EndLaws.{EndLaw, end_law, ended_table, up_of}
use Rattle.ob_ring.proofs.NewLaws.{NewLaw, batch_new, final_new}

-- ---- the holes of a list of new indexes differ, so its fills can be read off

number_from : (p : Params) (k : Seen) (ss : List Shown) (s : Shown) → AreNew p k ss → Has ss s → k.next s.bucket ≤ s.number
number_from p k [] s n h = absurd h
number_from p k (x ∷ ss) s n (inl e) = (let a : x.number ≡ k.next x.bucket = n.2 in let b : k.next x.bucket ≡ k.next s.bucket = ap (λ (y : Shown). k.next y.bucket) e in let c : x.number ≡ s.number = ap (λ (y : Shown). y.number) e in omega arith)
number_from p k (x ∷ ss) s n (inr h) = omega (arith, number_from p (with_shown k x) ss s n.3 h)

later_number : (p : Params) (k : Seen) (x : Shown) (ss : List Shown) (s : Shown) → AreNew p k (x ∷ ss) → Has ss s → x.bucket ≡ s.bucket → x.number < s.number
later_number p k x ss s n h b =
    let a : x.number ≡ k.next x.bucket = n.2 in
    let c : k.next s.bucket + cond (s.bucket == x.bucket) 1 0 ≤ s.number = number_from p (with_shown k x) ss s n.3 h in
    let one : k.next s.bucket + cond (s.bucket == x.bucket) 1 0 ≡ k.next s.bucket + 1 = ap (λ (y : Bool). k.next s.bucket + cond y 1 0) (eq-eqb s.bucket x.bucket (sym b)) in
    let d : k.next x.bucket ≡ k.next s.bucket = ap k.next b in
    omega arith

abbrev is_hole : Shown → Shown → Bool
is_hole x s = (x.bucket == s.bucket) && (x.number == s.number)

other_hole : (x s : Shown) → (x.bucket ≡ s.bucket → x.number < s.number) → is_hole x s ≡ false
other_hole x s h = elim (cases_eq x.bucket s.bucket) [
  | inl b ↦ and_right (x.bucket == s.bucket) (x.number == s.number) (ne_eqb x.number s.number (λ e. (let l : x.number < s.number = h b in omega arith)))
  | inr b ↦ and_left (x.bucket == s.bucket) (x.number == s.number) (ne_eqb x.bucket s.bucket b)
]

pub read_off : (p : Params) (k : Seen) (ss : List Shown) (s : Shown) → AreNew p k ss → Has ss s → index_at ss (hole_of s) ≡ s.index
read_off p k [] s n h = absurd h
read_off p k (x ∷ ss) s n (inl e) =
    ap (λ (b : Bool). cond b x.index (index_at ss (hole_of s))) (and_from (x.bucket == s.bucket) (x.number == s.number) (eq-eqb x.bucket s.bucket (ap (λ (y : Shown). y.bucket) e)) (eq-eqb x.number s.number (ap (λ (y : Shown). y.number) e)))
    ∙ ap (λ (y : Shown). y.index) e
read_off p k (x ∷ ss) s n (inr h) =
    ap (λ (b : Bool). cond b x.index (index_at ss (hole_of s))) (other_hole x s (later_number p k x ss s n h))
    ∙ read_off p (with_shown k x) ss s n.3 h

-- ---- a batch

reads_agree : (p : Params) (q : Public) (f : Fills) (slot : ℕ → ℕ → ℕ) (ss : List Shown) → ((s : Shown) → Has ss s → f.slot (hole_of s) ≡ slot s.bucket s.index) → picked_reads p q.homes slot ss ≡ hole_reads p q f (map hole_of ss)
reads_agree p q f slot [] h = refl
reads_agree p q f slot (s ∷ ss) h = λ i. Read (slot_cell p (q.homes s.bucket) s.bucket (sym (h s (inl refl)) i)) ∷ reads_agree p q f slot ss (λ x k. h x (inr k)) i

abbrev notes_by_places : Params → Public → Fills → (ℕ → ℕ) → List ℕ → List Note
notes_by_places p q f count [] = []
notes_by_places p q f count (x ∷ xs) = (Label x ∷ hole_reads p q f (place_holes p count x)) ++ notes_by_places p q f (passed p x count) xs

abbrev counted_notes : Params → Public → Fills → (ℕ → ℕ) → List ℕ → List Note
counted_notes p q f count leaves = flat_map (λ i. Label (slice_index leaves i) ∷ hole_reads p q f (place_holes p (λ u. count u + passes_before p leaves i u) (slice_index leaves i))) (below (length leaves))

notes_as_counts : (p : Params) (q : Public) (f : Fills) (count : ℕ → ℕ) (xs : List ℕ) → notes_by_places p q f count xs ≡ counted_notes p q f count xs
notes_as_counts p q f count [] = refl
notes_as_counts p q f count (x ∷ xs) =
    let F : ℕ → List Note = λ i. Label (slice_index (x ∷ xs) i) ∷ hole_reads p q f (place_holes p (λ u. count u + passes_before p (x ∷ xs) i u) (slice_index (x ∷ xs) i)) in
    let G : ℕ → List Note = λ i. Label (slice_index xs i) ∷ hole_reads p q f (place_holes p (λ u. passed p x count u + passes_before p xs i u) (slice_index xs i)) in
    let next : (λ i. F (i + 1)) ≡ G = λ j i. Label (at_next x xs i j) ∷ hole_reads p q f (place_holes p (λ u. count_more p count x xs i u j) (at_next x xs i j)) in
    let rest : flat_map F (range_with_len (0 + 1) (length xs)) ≡ flat_map G (range_with_len 0 (length xs)) =
    shift_range F 0 (length xs) ∙ ap (λ (g : ℕ → List Note). flat_map g (range_with_len 0 (length xs))) next in
    let first : (Label x ∷ hole_reads p q f (place_holes p count x)) ≡ F 0 = λ i. Label x ∷ hole_reads p q f (place_holes p (λ u. (let z : count u ≡ count u + 0 = omega arith in z i)) x) in
    (λ i. first i ++ (notes_as_counts p q f (passed p x count) xs ∙ sym rest) i)

picked_by_places : (p : Params) (q : Public) (f : Fills) (slot : ℕ → ℕ → ℕ) (t : FlatTable) (places : List (Option ℕ × ℕ)) (count : ℕ → ℕ) → IsSound p t → IsCounted p t count →
    ((s : Shown) → Has (batch_shown p t places) s → f.slot (hole_of s) ≡ slot s.bucket s.index) → picked_notes p q.homes slot t places ≡ notes_by_places p q f count (leaves_shown p t places)
picked_by_places p q f slot t [] count s c h = refl
picked_by_places p q f slot t (a ∷ rest) count s c h =
    let one : PlaceLaw p t a.0 a.1 count = place_law p t a.0 a.1 count s c in
    let t1 : FlatTable = after_place p t a.0 a.1 in
    let here : picked_reads p q.homes slot (place_shown p t a.0 a.1) ≡ hole_reads p q f (place_holes p count (leaf_shown t a.0 a.1)) =
    reads_agree p q f slot (place_shown p t a.0 a.1) (λ x k. h x (has_left (place_shown p t a.0 a.1) (batch_shown p t1 rest) x k)) ∙ ap (hole_reads p q f) one.holes in
    (λ i. (Label (leaf_shown t a.0 a.1) ∷ here i) ++ picked_by_places p q f slot t1 rest (passed p (leaf_shown t a.0 a.1) count) one.sound one.counted (λ x k. h x (has_right (place_shown p t a.0 a.1) (batch_shown p t1 rest) x k)) i)

-- whatever the permutations are, what a batch reads is its schedule, with the leaves shown and the slots read off as fills
pub picks_are_scheduled : (p : Params) (q : Public) (label : ℕ → ℕ → ℕ) (slot : ℕ → ℕ → ℕ) (t : FlatTable) (places : List (Option ℕ × ℕ)) (seen : Seen) → IsSound p t → IsCounted p t (counts_now p q) → Marks p t seen →
    picked_notes p q.homes slot t places ≡ phase_notes p q (record { label = label; slot = slot_read_off slot (batch_shown p t places) }) (leaves_shown p t places)
picks_are_scheduled p q label slot t places seen s c m =
    let f : Fills = record { label = label; slot = slot_read_off slot (batch_shown p t places) } in
    let new : NewLaw p (after_batch p t places) seen (batch_shown p t places) = batch_new p t places (counts_now p q) seen s c m in
    picked_by_places p q f slot t places (counts_now p q) s c (λ x h. ap (slot x.bucket) (read_off p seen (batch_shown p t places) x new.new h))
    ∙ notes_as_counts p q f (counts_now p q) (leaves_shown p t places)

-- and so are the final lifts
pub lifts_are_scheduled : (p : Params) (q : Public) (label : ℕ → ℕ → ℕ) (slot : ℕ → ℕ → ℕ) (t : FlatTable) (seen : Seen) → IsSound p t → IsCounted p t (counts_now p q) → Marks p t seen → t.counter ≡ q.counter →
    picked_reads p q.homes slot (final_shown p t (eviction_path p t.counter)) ≡ hole_reads p q (record { label = label; slot = slot_read_off slot (final_shown p t (eviction_path p t.counter)) }) (final_holes p (counts_now p q) q.counter)
lifts_are_scheduled p q label slot t seen s c m same =
    let ss : List Shown = final_shown p t (eviction_path p t.counter) in
    let f : Fills = record { label = label; slot = slot_read_off slot ss } in
    let new = final_new p t (eviction_path p t.counter) seen s m in
    reads_agree p q f slot ss (λ x h. ap (slot x.bucket) (read_off p seen ss x new.new h))
    ∙ ap (hole_reads p q f) (final_holes_law p t (counts_now p q) s c ∙ ap (final_holes p (counts_now p q)) same)

-- the public counts follow a batch
pub counts_follow : (p : Params) (q : Public) (t : FlatTable) (places : List (Option ℕ × ℕ)) → IsSound p t → IsCounted p t (counts_now p q) → IsCounted p (after_batch p t places) (counts_now p (after_phase p q (leaves_shown p t places)))
counts_follow p q t places s c =
    let law : BatchLaw p t places (counts_now p q) = batch_law p t places (counts_now p q) s c in
    subst (λ (count : ℕ → ℕ). IsCounted p (after_batch p t places) count)
    (λ i u. (let e : counts_now p q u + count_by (passes p u) (leaves_shown p t places) ≡ counts_now p (after_phase p q (leaves_shown p t places)) u = omega (arith, sum_by-append (λ x. cond (passes p u x) 1 0) q.leaves (leaves_shown p t places)) in e i))
    law.counted

-- the public counts follow an end
pub end_follows : (p : Params) (q : Public) (t : FlatTable) (ws : List (ℕ × Option ℕ)) (seen : Seen) → 0 < p.dummies → IsSound p t → IsCounted p t (counts_now p q) → IsLow p t → ArePutsLow p ws →
    ((u : ℕ) → 2 ^ (p.levels + 1) - 1 ≤ u → counts_now p q u < p.dummies) → Marks p (after_final p t (eviction_path p t.counter)) seen → t.counter ≡ q.counter →
    IsCounted p (ended_table p t ws) (counts_now p (after_end p q))
end_follows p q t ws seen some s c l puts bound m same =
    let law : EndLaw p t (counts_now p q) seen ws = end_law p some t (counts_now p q) seen ws s c l puts bound m in
    let fin : FinalLaw p t (counts_now p q) (λ u. false) (eviction_path p t.counter) = final_law p t (counts_now p q) (λ u. false) (eviction_path p t.counter) s (record { lifted_is = c.lifted_is; reads_is = c.reads_is }) in
    let up : (u : ℕ) → up_of p t u ≡ is_lifted_by_end p q u = λ u. fin.lifted_is u ∙ (λ i. is_one_of (eviction_path p (same i)) u || nat_le p.dummies (counts_now p q u)) in
    subst (λ (count : ℕ → ℕ). IsCounted p (ended_table p t ws) count)
    (λ i u. (let z : cond (is_lifted_by_end p q u) 0 (counts_now p q u) ≡ counts_now p (after_end p q) u = omega arith in ap (λ (b : Bool). cond b 0 (counts_now p q u)) (up u) ∙ z) i)
    law.counted

pub picks_scheduled : PicksAreScheduled
picks_scheduled p q label slot t places seen s c m =
    let new : NewLaw p (after_batch p t places) seen (batch_shown p t places) = batch_new p t places (counts_now p q) seen s c m in
    record {
      scheduled = picks_are_scheduled p q label slot t places seen s c m;
      new = new.new;
      sound = (batch_law p t places (counts_now p q) s c).sound;
      counted = counts_follow p q t places s c;
      marks = new.marks;
    }

pub lifts_scheduled : LiftsAreScheduled
lifts_scheduled p q label slot t seen s c m same =
    (lifts_are_scheduled p q label slot t seen s c m same, (final_new p t (eviction_path p t.counter) seen s m).new)
