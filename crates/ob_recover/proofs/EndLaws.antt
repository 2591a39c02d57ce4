-- An end leaves a table from which the next epoch can start.
use Rattle.std.specs.Prelude.{◌≡◌, ℕ, ◌+◌, ◌-◌, ◌^◌, ◌<◌, ◌≤◌, nat_le, Bool, true, false, cond, not, ◌&&◌, ◌||◌, List, Option}
use Rattle.std.specs.List.{count_by}
use Rattle.std.proofs.Common.{arith, refl, sym, ap, ◌∙◌, inl, inr}
use Rattle.std.proofs.lemmas.Bool.{true≢false, cases_Bool, cases_lt, or_cases, or_parts, lt-leb, leb-true, leb-false}
use Rattle.ob_base.specs.declared.params.Params.{Params}
use Rattle.ob_schedule.specs.Paths.{is_one_of, by_falling_level, eviction_path}
use Rattle.ob_ring.specs.FlatTable.{FlatTable, FinalLifts, Writes, Refill, after, after_final, after_writes, refill_order, reads, indexes}
use Rattle.ob_ring.specs.News.{Seen, Marks}
use Rattle.ob_ring.proofs.Members.{off_unless, one_of-filter, one_of-filter_from}
pub use Rattle.ob_ring.proofs.TableLaws.{used_final, none_counted}
use Rattle.ob_ring.proofs.Ranges.{count_by-range_agree}
use Rattle.ob_ring.specs.Sound.{IsSound}
use Rattle.ob_ring.specs.Sound.{IsCounted}
use Rattle.ob_ring.proofs.Batches.{FinalLaw, final_law}
use Rattle.ob_ring.proofs.Refills.{FillsLaw, refill_law, sound_writes, writes_keep, in_levels}
use Rattle.ob_ring.proofs.Lows.{IsLow, ArePutsLow, low_final, low_writes, low_fills, eviction_within}
use Rattle.ob_recover.proofs.SlotLaws.{seen_ended}

abbrev pub ended_table : Params → FlatTable → List (ℕ × Option ℕ) → FlatTable
ended_table p t ws = after p (after p (after p t FinalLifts) (Writes ws)) Refill

abbrev pub up_of : Params → FlatTable → ℕ → Bool
up_of p t u = (after p t FinalLifts).lifted u

abbrev pub count_ended : Params → FlatTable → (ℕ → ℕ) → ℕ → ℕ
count_ended p t count u = cond (up_of p t u) 0 (count u)

pub record EndLaw (p : Params) (t : FlatTable) (count : ℕ → ℕ) (seen : Seen) (ws : List (ℕ × Option ℕ)) : Type 0 where
  pub sound : IsSound p (ended_table p t ws)
  pub counted : IsCounted p (ended_table p t ws) (count_ended p t count)
  pub low : IsLow p (ended_table p t ws)
  pub few : (u : ℕ) → count_ended p t count u < p.dummies
  pub marks : Marks p (ended_table p t ws) (seen_ended (up_of p t) seen)

neither : (b : Bool) → (not b && b) ≡ false
neither true = refl
neither false = refl

down_count : (b : Bool) (n m : ℕ) → 0 < m → (b ≡ false → n < m) → cond b 0 n < m
down_count true n m h f = h
down_count false n m h f = f refl

module _ (p : Params) (some : 0 < p.dummies) (t : FlatTable) (count : ℕ → ℕ) (seen : Seen) (ws : List (ℕ × Option ℕ)) (s : IsSound p t) (c : IsCounted p t count) (l : IsLow p t) (puts : ArePutsLow p ws)
    (bound : (u : ℕ) → 2 ^ (p.levels + 1) - 1 ≤ u → count u < p.dummies) (m : Marks p (after_final p t (eviction_path p t.counter)) seen) where
  abbrev us : List ℕ
  us = eviction_path p t.counter

  abbrev tf : FlatTable
  tf = after p t FinalLifts

  abbrev t3 : FlatTable
  t3 = after_writes tf ws

  abbrev t4 : FlatTable
  t4 = ended_table p t ws

  fin : FinalLaw p t count (λ u. false) us
  fin = final_law p t count (λ u. false) us s (record { lifted_is = c.lifted_is; reads_is = c.reads_is })

  sound_tf : IsSound p tf
  sound_tf = record { placed = λ k u j e. (let at = fin.sound.placed k u j e in record { real = at.real; on_path = at.on_path; unread = at.unread; standing = at.standing }); alone = fin.sound.alone }

  refilled : FillsLaw p t3 (refill_order p t3)
  refilled = refill_law p t3 (sound_writes p tf ws sound_tf)

  up_within : (u : ℕ) → up_of p t u ≡ true → u < 2 ^ (p.levels + 1) - 1
  up_within u e = elim (or_cases (is_one_of us u) (false || nat_le p.dummies (count u)) (sym (fin.lifted_is u) ∙ e)) [
    | inl path ↦ eviction_within p t.counter u path
    | inr full ↦ (let h : p.dummies ≤ count u = leb-true p.dummies (count u) full in elim (cases_lt u (2 ^ (p.levels + 1) - 1)) [ inl in' ↦ in' | inr out ↦ absurd (let g : count u < p.dummies = bound u out in omega arith) ])
  ]

  lifted_3 : (u : ℕ) → t3.lifted u ≡ up_of p t u
  lifted_3 u = ap (λ (f : ℕ → Bool). f u) (writes_keep tf ws).1

  used_3 : (u j : ℕ) → t3.used u j ≡ t.used u j
  used_3 u j = ap (λ (f : ℕ → ℕ → Bool). f u j) ((writes_keep tf ws).0 ∙ used_final p t us)

  in_order : (u : ℕ) → is_one_of (refill_order p t3) u ≡ up_of p t u
  in_order u = elim (cases_Bool (up_of p t u)) [
    | inl up ↦ one_of-filter_from t3.lifted (by_falling_level (p.levels + 1)) u (lifted_3 u ∙ up) (in_levels (p.levels + 1) u (up_within u up)) ∙ sym up
    | inr down ↦ off_unless (is_one_of (refill_order p t3) u) (λ e. true≢false (sym (one_of-filter t3.lifted (by_falling_level (p.levels + 1)) u e).0 ∙ lifted_3 u ∙ down)) ∙ sym down
  ]

  lifted_4 : (u : ℕ) → t4.lifted u ≡ false
  lifted_4 u = refilled.lifted_is u ∙ (λ i. not (in_order u i) && lifted_3 u i) ∙ neither (up_of p t u)

  used_4 : (u j : ℕ) → t4.used u j ≡ (not (up_of p t u) && t.used u j)
  used_4 u j = refilled.used_is u j ∙ (λ i. not (in_order u i) && used_3 u j i)

  reads_up : (u : ℕ) → up_of p t u ≡ true → reads p t4 u ≡ 0
  reads_up u up = count_by-range_agree (t4.used u) (λ j. false) (p.real + p.dummies) (λ j h. used_4 u j ∙ ap (λ (b : Bool). not b && t.used u j) up) ∙ none_counted (p.real + p.dummies)

  reads_down : (u : ℕ) → up_of p t u ≡ false → reads p t4 u ≡ reads p t u
  reads_down u down = count_by-range_agree (t4.used u) (t.used u) (p.real + p.dummies) (λ j h. used_4 u j ∙ ap (λ (b : Bool). not b && t.used u j) down)

  down_few : (u : ℕ) → up_of p t u ≡ false → count u < p.dummies
  down_few u down = leb-false p.dummies (count u) (or_parts (is_one_of us u) (nat_le p.dummies (count u)) (sym (fin.lifted_is u) ∙ down)).1

  few_all : (u : ℕ) → count_ended p t count u < p.dummies
  few_all u = down_count (up_of p t u) (count u) p.dummies some (down_few u)

  pub end_law : EndLaw p t count seen ws
  end_law = record {
    sound = refilled.sound;
    counted = record {
      lifted_is = λ u. lifted_4 u ∙ sym (lt-leb p.dummies (count_ended p t count u) (few_all u));
      reads_is = λ u h. elim (cases_Bool (up_of p t u)) [
        | inl up ↦ reads_up u up ∙ ap (λ (b : Bool). cond b 0 (count u)) (sym up)
        | inr down ↦ reads_down u down ∙ c.reads_is u (down_few u down) ∙ ap (λ (b : Bool). cond b 0 (count u)) (sym down)
      ];
    };
    low = low_fills p t3 (refill_order p t3) (low_writes p tf ws puts (low_final p t us l));
    few = few_all;
    marks = record {
      shown_is = λ u j standing. elim (cases_Bool (up_of p t u)) [
        | inl up ↦ ap (λ (b : Bool). not b && seen.shown u j) up ∙ sym (used_4 u j ∙ ap (λ (b : Bool). not b && t.used u j) up)
        | inr down ↦ ap (λ (b : Bool). not b && seen.shown u j) down ∙ m.shown_is u j down ∙ ap (λ (f : ℕ → ℕ → Bool). f u j) (used_final p t us) ∙ sym (used_4 u j ∙ ap (λ (b : Bool). not b && t.used u j) down)
      ];
      next_is = λ u standing. elim (cases_Bool (up_of p t u)) [
        | inl up ↦ ap (λ (b : Bool). cond b 0 (seen.next u)) up ∙ sym (reads_up u up)
        | inr down ↦ ap (λ (b : Bool). cond b 0 (seen.next u)) down ∙ m.next_is u down ∙ ap (λ (f : ℕ → ℕ → Bool). count_by (f u) (indexes p)) (used_final p t us) ∙ sym (reads_down u down)
      ];
    };
  }
