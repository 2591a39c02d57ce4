-- The public counts of a content, at an opening and at an end.
use Rattle.std.specs.Prelude.{◌≡◌, nat_le, ℕ, ◌+◌, ◌-◌, ◌%◌, ◌^◌, ◌<◌, ◌≤◌, Bool, true, false, cond, not, ◌&&◌, ◌||◌, List, [], ◌∷◌, take, length, Option}
use Rattle.std.specs.List.{count_by}
use Rattle.std.proofs.Common.{arith, refl, sym, ap, ◌∙◌, subst, inl, inr}
use Rattle.std.proofs.lemmas.Bool.{true≢false, cases_lt, leb-false, or_parts}
use Rattle.ob_base.specs.declared.params.Params.{Params}
use Rattle.ob_base.specs.Tree.{buckets}
use Rattle.ob_tables.specs.Version.{Version, rank_at, used_at}
use Rattle.ob_tables.specs.Buckets.{Buckets, version_at}
use Rattle.ob_tables.proofs.Counting.{onto_of_apart}
use Rattle.ob_tables.specs.Content.{Content}
use Rattle.ob_schedule.specs.Paths.{is_one_of, eviction_path, by_falling_level}
use Rattle.ob_schedule.specs.Schedule.{Public, after_end, counts_now, is_lifted_by_end}
use Rattle.ob_ring.specs.FlatTable.{FlatTable, FinalLifts, Writes, after, after_writes, fill, fills, indexes, refill_order, write}
use Rattle.ob_ring.specs.Laws.{IsOrderly}
use Rattle.ob_ring.specs.Sound.{IsCounted}
use Rattle.ob_ring.proofs.Batches.{FinalLaw, final_law}
use Rattle.ob_ring.proofs.Members.{off_unless, one_of-filter, one_of-filter_from, one_of-take}
use Rattle.ob_ring.proofs.Refills.{FillsLaw, of_levels, refill_law, writes_keep}
use Rattle.ob_ring.proofs.TableLaws.{counted_in, none_counted, steps_keep_order, used_final}
use Rattle.ob_stand.proofs.Planned.{past_none}
use Rattle.ob_stand.specs.Counts.{EndCounts, IsEndPublic, OpeningCounts, SlotsRank, lifted_and_written, marks_of, public_of}
use Rattle.ob_stand.specs.Table.{flat_of}
use Rattle.ob_stand.proofs.Plans.{bucket_listed, refill_plans}
use Rattle.ob_stand.proofs.Reading.{reads_are_marks, tables_are_read}

pub opening_counts : OpeningCounts
opening_counts p c epoch gates o =
    let at = counted_in p (flat_of p c) (tables_are_read p c o).orderly in
    let none : (u : ℕ) → marks_of c u ≡ counts_now p (public_of c epoch gates) u = λ u. omega arith in
    subst (λ (count : ℕ → ℕ). IsCounted p (flat_of p c) count) (λ i u. none u i) (record {
      lifted_is = λ u. at.lifted_is u ∙ ap (nat_le p.dummies) (reads_are_marks p c u o);
      reads_is = λ u low. reads_are_marks p c u o;
    })

-- ---- an end

pub fills_counter : (p : Params) (t : FlatTable) (us : List ℕ) → (fills p t us).counter ≡ t.counter
fills_counter p t [] = refl
fills_counter p t (u ∷ us) = fills_counter p (fill p t u) us

pub writes_counter : (t : FlatTable) (ws : List (ℕ × Option ℕ)) → (after_writes t ws).counter ≡ t.counter
writes_counter t [] = refl
writes_counter t (w ∷ ws) = writes_counter (write t w.0 w.1) ws

-- no bucket past the tree's is on a level
outside : (p : Params) (v : ℕ) → buckets p ≤ v → is_one_of (by_falling_level (p.levels + 1)) v ≡ true → ⊥
unfolding buckets
outside p v high on = let low : v < 2 ^ (p.levels + 1) - 1 = of_levels (p.levels + 1) v on in omega arith

cleared_by : (a b : Bool) → (not a && b) ≡ false → a ≡ false → b ≡ false
cleared_by true b e off = absurd (true≢false off)
cleared_by false b e off = e

module _ (p : Params) (q : Public) (t : FlatTable) (ws : List (ℕ × Option ℕ)) (old new : Buckets) (words : List ℕ) (first : ℕ × ℕ) (c : Content) (e : IsEndPublic p q t ws old new words first c) where
  abbrev t3 : FlatTable
  t3 = lifted_and_written p t ws

  orderly_then : IsOrderly p t3
  orderly_then = steps_keep_order p (after p t FinalLifts) (Writes ws) (steps_keep_order p t FinalLifts e.orderly)

  lifted_then : (u : ℕ) → t3.lifted u ≡ is_lifted_by_end p q u
  lifted_then u =
      let fin : FinalLaw p t (counts_now p q) (λ u. false) (eviction_path p t.counter) = final_law p t (counts_now p q) (λ u. false) (eviction_path p t.counter) (e.orderly).sound (record { lifted_is = (e.counted).lifted_is; reads_is = (e.counted).reads_is }) in
      ap (λ (f : ℕ → Bool). f u) (writes_keep (after p t FinalLifts) ws).1
      ∙ fin.lifted_is u
      ∙ (λ i. is_one_of (eviction_path p (e.counter i)) u || nat_le p.dummies (counts_now p q u))

  -- the list has just the lifted buckets
  listed_is : (u : ℕ) → is_one_of (refill_order p t3) u ≡ t3.lifted u
  listed_is u = elim (cases_lt u (buckets p)) [
    | inl low ↦ by_case low (t3.lifted u) refl
    | inr high ↦ (let off : is_one_of (refill_order p t3) u ≡ false = off_unless (is_one_of (refill_order p t3) u) (λ on. outside p u high (one_of-filter t3.lifted (by_falling_level (p.levels + 1)) u on).1) in
        let law : FillsLaw p t3 (refill_order p t3) = refill_law p t3 orderly_then.sound in
        off ∙ sym (cleared_by (is_one_of (refill_order p t3) u) (t3.lifted u) (sym (law.lifted_is u) ∙ (e.table).lifted_is u ∙ past_none new.lifted false u (omega (arith, (e.whole).marks))) off))
  ]
    where
      by_case : u < buckets p → (b : Bool) → t3.lifted u ≡ b → is_one_of (refill_order p t3) u ≡ t3.lifted u
      by_case low true is = one_of-filter_from t3.lifted (by_falling_level (p.levels + 1)) u is (bucket_listed p u low) ∙ sym is
      by_case low false is = off_unless (is_one_of (refill_order p t3) u) (λ on. true≢false (sym (one_of-filter t3.lifted (by_falling_level (p.levels + 1)) u on).0 ∙ is)) ∙ sym is

  order_is : (u : ℕ) → is_one_of old.order u ≡ is_lifted_by_end p q u
  order_is u = ap (λ (us : List ℕ). is_one_of us u) e.listed ∙ listed_is u ∙ lifted_then u

  home_then : (u : ℕ) (b : Bool) → is_lifted_by_end p q u ≡ b → cond b (1 - q.homes u) (q.homes u) ≡ (version_at c.versions u).home
  home_then u true is = ap (λ (n : ℕ). 1 - n) (e.homes u) ∙ sym (refill_plans.homes p old new words first u e.anew (order_is u ∙ is)) ∙ ap (λ (vs : List Version). (version_at vs u).home) (sym e.versions)
  home_then u false is =
      let off : is_one_of (take (length old.order) old.order) u ≡ false = off_unless (is_one_of (take (length old.order) old.order) u) (λ on. true≢false (sym (one_of-take (length old.order) old.order u on) ∙ order_is u ∙ is)) in
      e.homes u ∙ sym (ap (λ (v : Version). v.home) ((e.anew).others u off)) ∙ ap (λ (vs : List Version). (version_at vs u).home) (sym e.versions)

  used_then : (u j : ℕ) → (flat_of p c).used u j ≡ (not (is_lifted_by_end p q u) && t.used u j)
  used_then u j =
      ap (λ (vs : List Version). used_at (version_at vs u) j) e.versions
      ∙ sym ((e.table).used_is u j)
      ∙ (refill_law p t3 orderly_then.sound).used_is u j
      ∙ (λ i. not ((listed_is u ∙ lifted_then u) i) && t3.used u j)
      ∙ ap (λ (f : ℕ → ℕ → Bool). not (is_lifted_by_end p q u) && f u j) ((writes_keep (after p t FinalLifts) ws).0 ∙ used_final p t (eviction_path p t.counter))

  count_then : (u : ℕ) (b : Bool) → is_lifted_by_end p q u ≡ b → cond b 0 (counts_now p q u) ≡ marks_of c u
  count_then u true is =
      sym (none_counted (p.real + p.dummies))
      ∙ sym (λ i. count_by (λ j. (used_then u j ∙ ap (λ (b : Bool). not b && t.used u j) is) i) (indexes p))
      ∙ reads_are_marks p c u e.obeys
  count_then u false is =
      let parts : (is_one_of (eviction_path p q.counter) u ≡ false) × (nat_le p.dummies (counts_now p q u) ≡ false) = or_parts (is_one_of (eviction_path p q.counter) u) (nat_le p.dummies (counts_now p q u)) is in
      let low : counts_now p q u < p.dummies = leb-false p.dummies (counts_now p q u) parts.1 in
      sym ((e.counted).reads_is u low)
      ∙ sym (λ i. count_by (λ j. (used_then u j ∙ ap (λ (b : Bool). not b && t.used u j) is) i) (indexes p))
      ∙ reads_are_marks p c u e.obeys

  counter_then : (q.counter + p.evictions) % 2 ^ p.levels ≡ c.counter
  counter_then =
      ap (λ (n : ℕ). (n + p.evictions) % 2 ^ p.levels) (sym e.counter)
      ∙ sym (fills_counter p t3 (refill_order p t3) ∙ writes_counter (after p t FinalLifts) ws)
      ∙ (e.table).counter_is

pub end_counts : EndCounts
end_counts p q t ws old new words first c e i = record {
  epoch = q.epoch + 1;
  homes = λ u. home_then p q t ws old new words first c e u (is_lifted_by_end p q u) refl i;
  counts = λ u. count_then p q t ws old new words first c e u (is_lifted_by_end p q u) refl i;
  counter = counter_then p q t ws old new words first c e i;
  gates = (after_end p q).gates;
  leaves = [];
}

pub slots_rank : SlotsRank
slots_rank v r = record { within = r.low; apart = r.apart; onto = onto_of_apart (length v.ranks) (λ j. rank_at v j) r.low r.apart }
