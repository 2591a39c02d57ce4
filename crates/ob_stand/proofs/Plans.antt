-- The buckets of a refill.
use Rattle.std.specs.Prelude.{◌≡◌, ℕ, ◌+◌, ◌-◌, ◌<◌, ◌==◌, Bool, true, false, not, ◌&&◌, List, [], ◌∷◌, take, length, slice_index}
use Rattle.std.proofs.Common.{suc, arith, refl, sym, ◌∙◌, subst, inl, inr}
use Rattle.std.proofs.lemmas.Bool.{true≢false, cases_lt, or_cases, eqb-true}
use Rattle.ob_base.specs.declared.params.Params.{Params}
use Rattle.ob_base.specs.Tree.{buckets}
use Rattle.ob_tables.specs.Rank.{ranks_of}
use Rattle.ob_tables.specs.Version.{IsWhole, AreRanks}
use Rattle.ob_tables.specs.Buckets.{Buckets, version_at}
use Rattle.ob_tables.proofs.VersionLaws.{ranks_are}
use Rattle.ob_schedule.specs.Paths.{is_one_of, by_falling_level}
use Rattle.ob_ring.specs.Arrays.{AreWhole}
use Rattle.ob_ring.specs.Filling.{AreSealedAnew, words_of}
use Rattle.ob_ring.specs.FlatTable.{refill_order}
use Rattle.ob_ring.proofs.Members.{one_of-filter_from, one_of-take}
use Rattle.ob_ring.proofs.Refills.{refill_law, in_levels}
use Rattle.ob_stand.proofs.Planned.{past_none}
use Rattle.ob_stand.specs.Plans.{RefillPlans}

lifted_case : (b up : Bool) → (up ≡ true → b ≡ true) → (not b && up) ≡ false
lifted_case true up h = refl
lifted_case false true h = absurd (true≢false (sym (h refl)))
lifted_case false false h = refl

pub bucket_listed : (p : Params) (u : ℕ) → u < buckets p → is_one_of (by_falling_level (p.levels + 1)) u ≡ true
unfolding buckets
bucket_listed p u low = in_levels (p.levels + 1) u low

pub listed_at : (us : List ℕ) (u : ℕ) → is_one_of us u ≡ true → (i : ℕ) × (i < length us) × (slice_index us i ≡ u)
listed_at [] u e = absurd (true≢false (sym e))
listed_at (x ∷ xs) u e = elim (or_cases (x == u) (is_one_of xs u) e) [
  | inl here ↦ (0, (omega arith), eqb-true x u here)
  | inr more ↦ (let at : (i : ℕ) × (i < length xs) × (slice_index xs i ≡ u) = listed_at xs u more in (suc at.0, (let low : at.0 < length xs = at.1 in omega arith), at.2))
]

whole_by : (p : Params) (s : Buckets) (u : ℕ) → AreWhole p s → u < buckets p → (version_at s.versions u).home < 2 → AreRanks (version_at s.versions u).ranks → IsWhole (version_at s.versions u)
whole_by p s u w low home ranks =
    let keys : length (version_at s.versions u).keys ≡ p.real = (w.slots u low).keys in
    let many : length (version_at s.versions u).ranks ≡ p.real + p.dummies = (w.slots u low).ranks in
    let used : length (version_at s.versions u).used ≡ p.real + p.dummies = (w.slots u low).used in
    record { home = home; keys = omega arith; used = used ∙ sym many; ranks = ranks }

sealed_case : (p : Params) (old new : Buckets) (words : List ℕ) (first : ℕ × ℕ) (u : ℕ) (b : Bool) → is_one_of (take (length old.order) old.order) u ≡ b → AreWhole p new → AreSealedAnew p old new words first (length old.order) → u < buckets p → IsWhole
    (version_at old.versions u) → IsWhole (version_at new.versions u)
sealed_case p old new words first u false is w sealed low was = subst IsWhole (sym (sealed.others u is)) was
sealed_case p old new words first u true is w sealed low was =
    let at : (i : ℕ) × (i < length old.order) × (slice_index old.order i ≡ u) = listed_at old.order u (one_of-take (length old.order) old.order u is) in
    let home : (version_at new.versions u).home ≡ 1 - (version_at old.versions u).home = subst (λ (v : ℕ). (version_at new.versions v).home ≡ 1 - (version_at old.versions v).home) at.2 (sealed.anew at.0 at.1).home in
    let ranks : (version_at new.versions u).ranks ≡ ranks_of (words_of p words at.0) = subst (λ (v : ℕ). (version_at new.versions v).ranks ≡ ranks_of (words_of p words at.0)) at.2 (sealed.anew at.0 at.1).ranks in
    whole_by p new u w low (omega arith) (subst AreRanks (sym ranks) (ranks_are (words_of p words at.0)))

pub refill_plans : RefillPlans
refill_plans = record {
  none_lifted = λ p old rest t u o whole is. (refill_law p t o.sound).lifted_is u ∙ lifted_case (is_one_of (refill_order p t) u) (t.lifted u) (λ up. elim (cases_lt u (buckets p)) [
    | inl low ↦ one_of-filter_from t.lifted (by_falling_level (p.levels + 1)) u up (bucket_listed p u low)
    | inr high ↦ absurd (true≢false (sym up ∙ is.lifted_is u ∙ past_none old.lifted false u (omega (arith, whole.marks))))
  ]);
  homes = λ p old new words first u sealed on. (let at : (i : ℕ) × (i < length old.order) × (slice_index old.order i ≡ u) = listed_at old.order u on in
      subst (λ (v : ℕ). (version_at new.versions v).home ≡ 1 - (version_at old.versions v).home) at.2 (sealed.anew at.0 at.1).home);
  whole_same = λ p old new w seals was u low. whole_by p new u w low (subst (λ (h : ℕ). h < 2) (sym (seals.homes u)) (was u low).home) (subst AreRanks (sym (seals.ranks u)) (was u low).ranks);
  whole_anew = λ p old new words first w sealed was u low. sealed_case p old new words first u (is_one_of (take (length old.order) old.order) u) refl w sealed low (was u low);
}
