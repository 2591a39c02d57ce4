-- The small store, computed from the definitions.
use Rattle.std.specs.Prelude.{◌≡◌, ◌<◌, ◌≤◌, ℕ, zero, suc, ◌+◌, ◌-◌, ◌*◌, ◌/◌, ◌^◌, false, [], ◌∷◌, map, replicate, slice_index}
use Rattle.std.specs.declared.option.Option.TheVariants.{None}
use Rattle.std.specs.FinMap as finite
use Rattle.std.proofs.Common.{arith, refl, sym, ap, ◌∙◌, inl, inr, ⊎_elim, subst}
use Rattle.std.proofs.lemmas.Bool.{cases_lt}
use Rattle.ob_base.specs.declared.params.Params.{Params}
use Rattle.ob_base.specs.Tree.{buckets, width, below}
use Rattle.ob_base.specs.Layout.{LogArea, CheckArea, Lies, record_cells, checkpoint_len, checkpoint_cells, log_cells, home_cells, slot_cell}
use Rattle.ob_tables.specs.Buckets.{version_at}
use Rattle.ob_tables.proofs.VersionLaws.{ranks_are}
use Rattle.ob_tables.specs.Content.{Content}
use Rattle.ob_ring.proofs.Rows.{p0}
use Rattle.ob_stand.specs.ValueSamples.{numbers_of}
use Rattle.ob_stand.specs.Idle.{idle_order, idle_run}
use Rattle.ob_stand.specs.EpochEnds.{IsNext}
use Rattle.ob_stand.specs.ContentSamples.{ended, formatted}
use Rattle.ob_stand.specs.Valued.{content_with}
use Rattle.ob_stand.proofs.Idling.{idled}
use Rattle.ob_stand.specs.Fresh.{fresh_content}
use Rattle.ob_stand.specs.Samples.{IdleEnd, IsAmong, ImagesSampled, ranks_in_order, sample_numbers}
use Rattle.ob_stand.specs.Spare.{IsOtherHome, IsSpare}

-- a store without keys, by its numbers
abbrev fresh_by : (keys many wide real : ℕ) → Content
fresh_by keys many wide real = record {
  counter = 0;
  book = replicate keys None;
  versions = map (λ u. record { home = 0; generation = 1; base = u * wide; keys = replicate real None; ranks = ranks_in_order u; used = replicate wide false }) (below many);
  rows = finite.empty;
}

same_fresh : (k l m n w x r q : ℕ) → k ≡ l → m ≡ n → w ≡ x → r ≡ q → fresh_by k m w r ≡ fresh_by l n x q
same_fresh k l m n w x r q a b c d = rw (a, b, c, d) refl

seven_by : (p : Params) → p.levels ≡ 2 → buckets p ≡ 7
unfolding buckets
seven_by p l = ap (λ n. 2 ^ (n + 1) - 1) l

fresh_of : (p : Params) → numbers_of p ≡ sample_numbers → fresh_content p ranks_in_order ≡ formatted
fresh_of p e =
    let real : p.real ≡ 2 = ap (λ xs. slice_index xs 2) e in
    let dummies : p.dummies ≡ 3 = ap (λ xs. slice_index xs 3) e in
    same_fresh p.keys 8 (buckets p) 7 (width p) 5 p.real 2 (ap (λ xs. slice_index xs 0) e) (seven_by p (ap (λ xs. slice_index xs 1) e)) (omega arith) real

-- ---- regions in numbers

log_range : (a c : ℕ) → Lies p0 (LogArea a) c → (9 + a * 4 ≤ c) × (c ≤ 12 + a * 4)
unfolding log_cells record_cells
log_range a c lies = let from = lies.from in let to = lies.to in (omega arith, omega arith)

in_log : (a c : ℕ) → 9 + a * 4 ≤ c → c ≤ 12 + a * 4 → Lies p0 (LogArea a) c
unfolding log_cells record_cells
in_log a c from to = record { from = omega arith; to = omega arith }

check_range : (a c : ℕ) → Lies p0 (CheckArea a) c → (17 + a * 11 ≤ c) × (c ≤ 27 + a * 11)
unfolding log_cells record_cells checkpoint_cells checkpoint_len buckets
check_range a c lies = let from = lies.from in let to = lies.to in (omega arith, omega arith)

in_check : (a c : ℕ) → 17 + a * 11 ≤ c → c ≤ 27 + a * 11 → Lies p0 (CheckArea a) c
unfolding log_cells record_cells checkpoint_cells checkpoint_len buckets
in_check a c from to = record { from = omega arith; to = omega arith }

slot_is : (h u s : ℕ) → slot_cell p0 h u s ≡ 39 + h * 35 + (u * 5 + s)
unfolding log_cells record_cells checkpoint_cells checkpoint_len buckets home_cells
slot_is h u s = omega arith

seven : buckets p0 ≡ 7
unfolding buckets
seven = refl

-- a cell of a bucket's other home
other_range : (content : Content) (h c : ℕ) (other : IsOtherHome p0 content c) → (version_at content.versions other.bucket).home ≡ h
    → (other.bucket < 7) × (39 + (1 - h) * 35 + other.bucket * 5 ≤ c) × (c ≤ 43 + (1 - h) * 35 + other.bucket * 5)
other_range content h c other home =
    let low : other.bucket < 7 = omega (arith, other.bucket_low, seven) in
    let at : c ≡ 39 + (1 - h) * 35 + (other.bucket * 5 + other.slot) = other.is ∙ ap (λ x. slot_cell p0 (1 - x) other.bucket other.slot) home ∙ slot_is (1 - h) other.bucket other.slot in
    let few = other.slot_low in
    (low, omega arith, omega arith)

in_other : (content : Content) (h u c : ℕ) → u < 7 → (version_at content.versions u).home ≡ h → 39 + (1 - h) * 35 + u * 5 ≤ c → c ≤ 43 + (1 - h) * 35 + u * 5 → IsOtherHome p0 content c
in_other content h u c lt home from to = record {
  bucket = u;
  slot = c - (39 + (1 - h) * 35 + u * 5);
  bucket_low = omega (arith, seven);
  slot_low = omega arith;
  is = (let there : c ≡ 39 + (1 - h) * 35 + (u * 5 + (c - (39 + (1 - h) * 35 + u * 5))) = omega arith in
      there ∙ sym (slot_is (1 - h) u (c - (39 + (1 - h) * 35 + u * 5))) ∙ ap (λ x. slot_cell p0 (1 - x) u (c - (39 + (1 - h) * 35 + u * 5))) (sym home));
}

-- ---- after the format

first_homes : (u : ℕ) → (version_at formatted.versions u).home ≡ 0
first_homes zero = refl
first_homes (suc zero) = refl
first_homes (suc (suc zero)) = refl
first_homes (suc (suc (suc zero))) = refl
first_homes (suc (suc (suc (suc zero)))) = refl
first_homes (suc (suc (suc (suc (suc zero))))) = refl
first_homes (suc (suc (suc (suc (suc (suc zero)))))) = refl
first_homes (suc (suc (suc (suc (suc (suc (suc u))))))) = refl

first_among : (c : ℕ) → IsSpare p0 0 formatted c → IsAmong ((9, 12) ∷ (28, 38) ∷ (74, 108) ∷ []) c
first_among c (inl log) = inl (log_range 0 c log)
first_among c (inr (inl check)) = inr (inl (check_range 1 c check))
first_among c (inr (inr other)) = (let r = other_range formatted 0 c other (first_homes other.bucket) in let low = r.0 in let from = r.1 in let to = r.2 in inr (inr (inl (omega arith, omega arith))))

first_spare : (c : ℕ) → IsAmong ((9, 12) ∷ (28, 38) ∷ (74, 108) ∷ []) c → IsSpare p0 0 formatted c
first_spare c (inl log) = inl (in_log 0 c log.0 log.1)
first_spare c (inr (inl check)) = inr (inl (in_check 1 c check.0 check.1))
first_spare c (inr (inr (inl other))) = (let from = other.0 in let to = other.1 in inr (inr (in_other formatted 0 ((c - 74) / 5) c (omega arith) (first_homes ((c - 74) / 5)) (omega arith) (omega arith))))
first_spare c (inr (inr (inr none))) = absurd none

-- ---- after the first end

abbrev Then : ℕ → Type 0
Then = IsAmong ((13, 16) ∷ (17, 27) ∷ (39, 58) ∷ (64, 68) ∷ (94, 98) ∷ (104, 108) ∷ [])

among_by : (u h c : ℕ) (other : IsOtherHome p0 ended c) → other.bucket ≡ u → (version_at ended.versions u).home ≡ h → (39 + (1 - h) * 35 + u * 5 ≤ c) × (c ≤ 43 + (1 - h) * 35 + u * 5)
among_by u h c other is home =
    let r = other_range ended h c other (ap (λ x. (version_at ended.versions x).home) is ∙ home) in
    let from = r.1 in let to = r.2 in (omega arith, omega arith)

other_among : (u c : ℕ) (other : IsOtherHome p0 ended c) → other.bucket ≡ u → Then c
other_among zero c other is = (let r = among_by 0 1 c other is refl in let from = r.0 in let to = r.1 in inr (inr (inl (omega arith, omega arith))))
other_among (suc zero) c other is = (let r = among_by 1 1 c other is refl in let from = r.0 in let to = r.1 in inr (inr (inl (omega arith, omega arith))))
other_among (suc (suc zero)) c other is = (let r = among_by 2 1 c other is refl in let from = r.0 in let to = r.1 in inr (inr (inl (omega arith, omega arith))))
other_among (suc (suc (suc zero))) c other is = (let r = among_by 3 1 c other is refl in let from = r.0 in let to = r.1 in inr (inr (inl (omega arith, omega arith))))
other_among (suc (suc (suc (suc zero)))) c other is = (let r = among_by 4 0 c other is refl in let from = r.0 in let to = r.1 in inr (inr (inr (inr (inl (omega arith, omega arith))))))
other_among (suc (suc (suc (suc (suc zero))))) c other is = (let r = among_by 5 1 c other is refl in let from = r.0 in let to = r.1 in inr (inr (inr (inl (omega arith, omega arith)))))
other_among (suc (suc (suc (suc (suc (suc zero)))))) c other is = (let r = among_by 6 0 c other is refl in let from = r.0 in let to = r.1 in inr (inr (inr (inr (inr (inl (omega arith, omega arith)))))))
other_among (suc (suc (suc (suc (suc (suc (suc u))))))) c other is = absurd (let low : other.bucket < 7 = omega (arith, other.bucket_low, seven) in omega arith)

then_among : (c : ℕ) → IsSpare p0 1 ended c → Then c
then_among c (inl log) = inl (log_range 1 c log)
then_among c (inr (inl check)) = inr (inl (check_range 0 c check))
then_among c (inr (inr other)) = other_among other.bucket c other refl

first_four : (c : ℕ) → 39 ≤ c → c ≤ 58 → IsOtherHome p0 ended c
first_four c from to = ⊎_elim
    (λ (a : c < 44). in_other ended 1 0 c (omega arith) refl (omega arith) (omega arith))
    (λ (a : 44 ≤ c). ⊎_elim
    (λ (b : c < 49). in_other ended 1 1 c (omega arith) refl (omega arith) (omega arith))
    (λ (b : 49 ≤ c). ⊎_elim
    (λ (d : c < 54). in_other ended 1 2 c (omega arith) refl (omega arith) (omega arith))
    (λ (d : 54 ≤ c). in_other ended 1 3 c (omega arith) refl (omega arith) (omega arith))
    (cases_lt c 54))
    (cases_lt c 49))
    (cases_lt c 44)

then_spare : (c : ℕ) → Then c → IsSpare p0 1 ended c
then_spare c (inl log) = inl (in_log 1 c log.0 log.1)
then_spare c (inr (inl check)) = inr (inl (in_check 0 c check.0 check.1))
then_spare c (inr (inr (inl four))) = inr (inr (first_four c four.0 four.1))
then_spare c (inr (inr (inr (inl five)))) = inr (inr (in_other ended 1 5 c (omega arith) refl five.0 five.1))
then_spare c (inr (inr (inr (inr (inl left))))) = inr (inr (in_other ended 0 4 c (omega arith) refl left.0 left.1))
then_spare c (inr (inr (inr (inr (inr (inl last)))))) = inr (inr (in_other ended 0 6 c (omega arith) refl last.0 last.1))
then_spare c (inr (inr (inr (inr (inr (inr none)))))) = absurd none

-- ---- the end that changes nothing

idle : IdleEnd
idle = record {
  p = idled.p;
  numbers = idled.numbers;
  content = content_with idle_run.filled formatted.book idled.rows_then 2;
  slots = idled.slots_then;
  follows = subst (λ c. IsNext idled.p c (content_with idle_run.filled formatted.book idled.rows_then 2) idled.slots_then (λ k. None) (λ k. None) 2 idle_order) (sym (fresh_of idled.p idled.numbers)) idled.next;
}

pub sampled : ImagesSampled
sampled = record {
  p = p0;
  numbers = refl;
  ranked = record { many = λ u lt. refl; each = λ u lt. ranks_are (0 ∷ 0 ∷ 0 ∷ 0 ∷ 0 ∷ []) };
  fresh_is = fresh_of p0 refl;
  spare_at_first = λ c. (first_among c, first_spare c);
  spare_then = λ c. (then_among c, then_spare c);
  idle = idle;
}
