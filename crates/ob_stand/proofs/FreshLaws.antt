-- A formatted image stands for epoch 0, with no key.
use Rattle.std.specs.Prelude.{◌≡◌, ◌<◌, ◌≤◌, ℕ, zero, suc, ◌+◌, ◌*◌, ◌^◌, Bool, false, cond, List, [], replicate, slice_index, slice_index_or, Option}
use Rattle.std.specs.declared.option.Option.TheVariants.{None, Some}
use Rattle.std.specs.List.{fold, count_by}
use Rattle.std.specs.Ordering.{nat_cmp}
use Rattle.std.specs.FinMap as finite
use Rattle.std.specs.FinMap.{get-empty}
use Rattle.std.proofs.Common.{arith, refl, sym, ap, ◌∙◌, ⊎_elim, subst}
use Rattle.std.proofs.lemmas.Bool.{cases_lt}
use Rattle.std.proofs.lemmas.List.{length-replicate}
use Rattle.std.proofs.lemmas.List.FromFn.{get_or-map-range_with_len, length-map-range_with_len}
use Rattle.std.proofs.lemmas.Nat.{pow_pos}
use Rattle.std.proofs.Math.Nat.{mul-le-mul_right}
use Rattle.ob_base.specs.declared.params.Params.{Params}
use Rattle.ob_base.specs.Tree.{buckets, width}
use Rattle.ob_base.specs.Layout.{slot_cell}
use Rattle.ob_base.proofs.Bounds.{buckets_le}
use Rattle.ob_store.specs.Disk.{Image}
use Rattle.ob_seal.specs.declared.keys.Keys.{Keys}
use Rattle.ob_seal.specs.Pieces.{onward}
use Rattle.ob_seal.specs.Seals.{sealed}
use Rattle.ob_tables.specs.Version as bucket
use Rattle.ob_tables.specs.Version.{Version, key_at, rank_at, EMPTY}
use Rattle.ob_tables.specs.Buckets.{version_at, no_version}
use Rattle.ob_tables.specs.Content.{FitsSeals, Obeys}
use Rattle.ob_tables.specs.Spelling.{slot_bytes}
use Rattle.ob_tables.specs.declared.entry.Entry.{Entry}
use Rattle.ob_stand.proofs.Planned.{past_none}
use Rattle.ob_stand.proofs.ContentSampling.{none_some, no_entry}
use Rattle.ob_stand.specs.Stands.{SpellsSlot, Stands}
use Rattle.ob_stand.specs.Fresh.{Ranks, fresh_version, fresh_content, fresh_standing, AreRanked, IsFormatOf, FormattedStands}
use Rattle.ob_ring.proofs.FillLaws.{none_used}

no_key_in : (n j : ℕ) → ◌≡◌ {A = Option ℕ} (slice_index_or (replicate n None) j None) None
no_key_in zero j = refl
no_key_in (suc n) zero = refl
no_key_in (suc n) (suc j) = no_key_in n j

none_marked : (n m : ℕ) → fold (λ m b. m + cond b 1 0) m (replicate n false) ≡ m
none_marked zero m = refl
none_marked (suc n) m = let e : m + 0 ≡ m = omega arith in none_marked n (m + 0) ∙ e

no_row : (k : ℕ) (value : List ℕ) → finite.get {R = nat_cmp} finite.empty k ≡ Some value → ⊥
no_row k value e = none_some (finite.get {R = nat_cmp} finite.empty k) value (get-empty nat_cmp k) e

module _ (p : Params) (ranks : Ranks) (ranked : AreRanked p ranks) where
  version_is : (u : ℕ) → u < buckets p → version_at (fresh_content p ranks).versions u ≡ fresh_version p ranks u
  version_is u lt = get_or-map-range_with_len (fresh_version p ranks) 0 (buckets p) u u no_version lt (omega arith)

  past : (u : ℕ) → buckets p ≤ u → version_at (fresh_content p ranks).versions u ≡ no_version
  past u le = past_none (fresh_content p ranks).versions no_version u (omega (arith, length-map-range_with_len (fresh_version p ranks) 0 (buckets p)))

  no_key : (u j : ℕ) → key_at (version_at (fresh_content p ranks).versions u) j ≡ None
  no_key u j = ⊎_elim
      (λ (lt : u < buckets p). ap (λ (v : Version). key_at v j) (version_is u lt) ∙ no_key_in p.real j)
      (λ (le : buckets p ≤ u). ap (λ (v : Version). key_at v j) (past u le))
      (cases_lt u (buckets p))

  not_there : (u j k : ℕ) → key_at (version_at (fresh_content p ranks).versions u) j ≡ Some k → ⊥
  not_there u j k at = none_some (key_at (version_at (fresh_content p ranks).versions u) j) k (no_key u j) at

  not_kept : (k : ℕ) (e : Entry) → slice_index_or (replicate p.keys None) k None ≡ Some e → ⊥
  not_kept k e at = none_some (slice_index_or (replicate p.keys None) k None) e (no_entry p.keys k) at

  numbers_low : (u : ℕ) → u < buckets p → u * width p + width p < 2 ^ 64
  numbers_low u lt =
      let rows : (u + 1) * width p ≤ buckets p * width p = mul-le-mul_right (width p) (omega arith) in
      let wide : width p ≤ 48 = (let r = p.in_range.few_real in let d = p.in_range.few_dummies in omega arith) in
      let few = buckets_le p in
      let most : buckets p * width p ≤ 131072 * width p = mul-le-mul_right (width p) (omega arith) in
      omega (arith, rows)

  version_obeys : (u : ℕ) → u < buckets p → bucket.VersionObeys p (fresh_version p ranks u)
  version_obeys u lt = record {
    slots = record { keys = length-replicate {A = Option ℕ} p.real None; ranks = ranked.many u lt; used = length-replicate {A = Bool} (width p) false };
    home = omega arith;
    ranks = ranked.each u lt;
    marks = record { unshown = λ j k at. none_used (width p) j; few = (let some = p.in_range.some_dummies in let none : count_by (λ b. b) (replicate (width p) false) ≡ 0 = none_marked (width p) 0 in omega arith) };
  }

  fits : (u : ℕ) → u < buckets p → FitsSeals (fresh_version p ranks u)
  fits u lt = record { generation = omega arith; base = (let low = numbers_low u lt in omega arith) }

  pub fresh_obeys : Obeys p (fresh_content p ranks)
  fresh_obeys = record {
    counter = pow_pos p.levels;
    book = record { many = length-replicate {A = Option Entry} p.keys None; entries = λ k e at. absurd (not_kept k e at) };
    many = length-map-range_with_len (fresh_version p ranks) 0 (buckets p);
    versions = λ u lt. subst (bucket.VersionObeys p) (sym (version_is u lt)) (version_obeys u lt);
    seals = λ u lt. subst FitsSeals (sym (version_is u lt)) (fits u lt);
    keys = λ u j k at. absurd (not_there u j k at);
    once = λ k u v i j at at'. absurd (not_there u i k at);
    stash = λ k. ((λ some. absurd (some (get-empty nat_cmp k))), (λ kept. absurd (kept.0 (no_entry p.keys k))));
    short = λ k value at. absurd (no_row k value at);
    few = (let none : finite.len {R = nat_cmp} finite.empty ≡ 0 = finite.len-empty nat_cmp (List ℕ) in omega arith);
  }

  generation_low : (u : ℕ) → (version_at (fresh_content p ranks).versions u).generation ≤ 1
  generation_low u = ⊎_elim
      (λ (lt : u < buckets p). (let e : (version_at (fresh_content p ranks).versions u).generation ≡ 1 = ap (λ (v : Version). v.generation) (version_is u lt) in omega arith))
      (λ (le : buckets p ≤ u). (let e : (version_at (fresh_content p ranks).versions u).generation ≡ 0 = ap (λ (v : Version). v.generation) (past u le) in omega arith))
      (cases_lt u (buckets p))

  spelled : (keys : Keys) (image : Image) → IsFormatOf keys p ranks image → (u j : ℕ) → u < buckets p → j < width p → SpellsSlot keys p u (fresh_version p ranks u) j (slot_bytes EMPTY []) image
  spelled keys image formatted u j lu lj =
      let low : slice_index (ranks u) j < width p = (let r = (ranked.each u lu).low j (omega (arith, ranked.many u lu)) in omega (arith, ranked.many u lu)) in
      let most = numbers_low u lu in
      let number : u * width p + slice_index (ranks u) j ≡ onward (u * width p) (slice_index (ranks u) j) = omega arith in
      record {
        long = refl;
        spelled = formatted.slots u (slice_index (ranks u) j) lu low ∙ ap (λ n. sealed keys (slot_cell p 0 u (slice_index (ranks u) j)) 1 n (slot_bytes EMPTY [])) number;
      }

  pub stands : (keys : Keys) (image : Image) → IsFormatOf keys p ranks image → Stands keys p (fresh_standing p ranks) image
  stands keys image formatted = record {
    generation = formatted.generation;
    epoch = formatted.epoch;
    holds = record {
      head = formatted.head;
      checkpoint = formatted.checkpoint;
      obeys = fresh_obeys;
      slots = record {
        slots = λ u j. slot_bytes EMPTY [];
        spelled = λ u j lu lj free. subst (λ v. SpellsSlot keys p u v j (slot_bytes EMPTY []) image) (sym (version_is u lu)) (spelled keys image formatted u j lu lj);
        valued = record { absent = λ k none. refl; rows = λ k value at. absurd (no_row k value at); slots_are = λ u j k at. absurd (not_there u j k at) };
      };
      log = record {
        few = omega arith;
        opened = λ b lt. absurd (omega arith);
        shut = λ b le lt. formatted.shut b lt;
        bodies = λ b lt. absurd (omega arith);
        obey = λ b lt. absurd (omega arith);
      };
      known = record { entries = λ k e at. absurd (not_kept k e at); seals = generation_low };
      records_known = λ b lt. absurd (omega arith);
    };
  }

pub formatted_stands : FormattedStands
formatted_stands keys p ranks image ranked formatted = stands p ranks ranked keys image formatted
