-- Where each bucket lies behind an end: in its other place where it was lifted.
use Rattle.std.specs.Prelude.{◌≡◌, ℕ, ◌+◌, ◌-◌, ◌<◌, ◌==◌, Bool, true, false, cond, List, length, slice_index}
use Rattle.std.specs.List.{position_or_len}
use Rattle.std.proofs.Common.{refl, sym, ap, subst, ◌∙◌}
use Rattle.std.proofs.lemmas.Bool.{true≢false, eqb-true}
use Rattle.std.proofs.lemmas.List.Sums.{passes_at_first}
use Rattle.ob_base.specs.declared.params.Params.{Params}
use Rattle.ob_end.specs.EndRuns.{TakeBucketWords}
use Rattle.ob_ring.proofs.Members.{off_unless, one_of-filter, one_of-filter_from, position_within}
use Rattle.ob_ring.specs.FlatTable.{FinalLifts, FlatTable, after, refill_order}
use Rattle.ob_ring.specs.Ring.{Kept}
use Rattle.ob_schedule.specs.Paths.{by_falling_level, is_one_of}
use Rattle.ob_stand.proofs.Plans.{bucket_listed}
use Rattle.ob_tables.specs.Buckets.{version_at}
use Rattle.ob_tables.specs.Content.{Content}

module _ (p : Params) (t : FlatTable) (words : List ℕ) (generation next : ℕ) (old new : Kept) (c : Content) (filled : TakeBucketWords p t words generation next old new)
    (was : (u : ℕ) → (version_at (old.metas).versions u).home ≡ (version_at c.versions u).home) where
  abbrev lifted : ℕ → Bool
  lifted = (after p t FinalLifts).lifted

  abbrev order : List ℕ
  order = refill_order p (after p t FinalLifts)

  by_lift : (u : ℕ) (up : Bool) → lifted u ≡ up → (version_at (new.metas).versions u).home ≡ cond up (1 - (version_at c.versions u).home) (version_at c.versions u).home
  by_lift u true is =
      let on : is_one_of order u ≡ true = one_of-filter_from lifted (by_falling_level (p.levels + 1)) u is (bucket_listed p u (filled.within u is)) in
      let low : position_or_len (λ v. v == u) order < length order = position_within order u on in
      let at : slice_index order (position_or_len (λ v. v == u) order) ≡ u = eqb-true _ u (passes_at_first (λ v. v == u) order 0 low) in
      subst (λ (v : ℕ). (version_at (new.metas).versions v).home ≡ 1 - (version_at (old.metas).versions v).home) at ((filled.filled).anew (position_or_len (λ v. v == u) order) low).home
      ∙ ap (λ (n : ℕ). 1 - n) (was u)
  by_lift u false is =
      let off : is_one_of order u ≡ false = off_unless (is_one_of order u) (λ on. true≢false (sym (one_of-filter lifted (by_falling_level (p.levels + 1)) u on).0 ∙ is)) in
      (filled.filled).homes u off ∙ was u

  pub homes_ended : (u : ℕ) → (version_at (new.metas).versions u).home ≡ cond (lifted u) (1 - (version_at c.versions u).home) (version_at c.versions u).home
  homes_ended u = by_lift u (lifted u) refl
