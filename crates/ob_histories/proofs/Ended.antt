-- What is known stands for what is public once an epoch has ended.
use Rattle.std.specs.Prelude.{◌≡◌, ◌<◌, ◌≤◌, ◌⊎◌, ℕ, ◌+◌, ◌-◌, ◌%◌, ◌^◌, nat_lt, nat_le, Bool, true, false, not, ◌&&◌, ◌||◌, cond, List, Some}
use Rattle.std.specs.List.{count_by}
use Rattle.std.proofs.Common.{suc, refl, sym, ap, ◌∙◌, subst, inl, inr, arith, true≢false}
use Rattle.std.proofs.lemmas.Bool.{lt-ltb, le-ltb, cases_lt}
use Rattle.ob_base.specs.declared.params.Params.{Params}
use Rattle.ob_base.specs.Tree.{buckets, passes}
use Rattle.ob_schedule.specs.Paths.{is_one_of, eviction_path}
use Rattle.ob_schedule.specs.Schedule.{counts_now, is_lifted_by_end}
use Rattle.ob_schedule.specs.declared.want.Side.{Side}
use Rattle.ob_schedule.specs.declared.want.Side.TheVariants.{Even, Odd}
use Rattle.ob_schedule.specs.Sides.{other, side_number}
use Rattle.ob_schedule.specs.Standing.{StandingKnown, public_known, is_lifted, standing_ended, home_after, count_after, used_after}
use Rattle.ob_histories.specs.Fills.{AllFills, AreAllFills, public_at, public_in_epoch, version_filled, leaves_of_batches}
use Rattle.ob_histories.proofs.Standing.{Holds, WasShown, GoesBelow, outside}

pub other_side : (side : Side) (n : ℕ) → side_number side ≡ n % 2 → side_number (other side) ≡ suc n % 2
other_side Even n is = omega (arith, is)
other_side Odd n is = omega (arith, is)

turned_home : (l : Bool) (side : Side) (home : ℕ) → side_number side ≡ home → side_number (cond l (other side) side) ≡ cond l (1 - home) home
turned_home true Even home is = omega (arith, is)
turned_home true Odd home is = omega (arith, is)
turned_home false side home is = is

used_parts : (b l w : Bool) → cond b (not l && w) false ≡ true → (l ≡ false) × (w ≡ true)
used_parts true true w h = cc
used_parts true false w h = (refl, h)
used_parts false l w h = cc

module _ (p : Params) (f : AllFills) (s : StandingKnown) (epoch : ℕ) (all : AreAllFills p f) (holds : Holds p f s epoch) (leaves : List ℕ) (shown : leaves ≡ leaves_of_batches p f (suc epoch) p.batches) where
  pub same_lifted : (u : ℕ) → is_lifted p s leaves u ≡ is_lifted_by_end p (public_in_epoch p f epoch p.batches) u
  same_lifted u = λ i. is_one_of (eviction_path p (holds.counter i)) u || nat_le p.dummies (holds.counts u i + count_by (passes p u) (shown i))

  pub same_counts : (u : ℕ) → counts_now p (public_known p s leaves) u ≡ counts_now p (public_in_epoch p f epoch p.batches) u
  same_counts u = λ i. holds.counts u i + count_by (passes p u) (shown i)

  ended_home : (u : ℕ) → side_number (home_after p s leaves u) ≡ (public_at p f (suc epoch)).homes u
  ended_home u = go (cases_lt u (buckets p))
    where
      go : (u < buckets p) ⊎ (buckets p ≤ u) → side_number (home_after p s leaves u) ≡ (public_at p f (suc epoch)).homes u
      go (inl lt) =
          ap (λ (b : Bool). side_number (cond b (cond (is_lifted p s leaves u) (other (s.homes u)) (s.homes u)) Even)) (lt-ltb u (buckets p) lt)
          ∙ turned_home (is_lifted p s leaves u) (s.homes u) ((public_at p f epoch).homes u) (holds.homes u)
          ∙ ap (λ (l : Bool). cond l (1 - (public_at p f epoch).homes u) ((public_at p f epoch).homes u)) (same_lifted u)
      go (inr ge) =
          (let out = outside p f (suc epoch) u all ge in
          ap (λ (b : Bool). side_number (cond b (cond (is_lifted p s leaves u) (other (s.homes u)) (s.homes u)) Even)) (le-ltb u (buckets p) ge) ∙ sym out.homes)

  ended_count : (u : ℕ) → count_after p s leaves u ≡ (public_at p f (suc epoch)).counts u
  ended_count u = go (cases_lt u (buckets p))
    where
      go : (u < buckets p) ⊎ (buckets p ≤ u) → count_after p s leaves u ≡ (public_at p f (suc epoch)).counts u
      go (inl lt) =
          ap (λ (b : Bool). cond b (cond (is_lifted p s leaves u) 0 (counts_now p (public_known p s leaves) u)) 0) (lt-ltb u (buckets p) lt)
          ∙ (λ i. cond (same_lifted u i) 0 (same_counts u i))
      go (inr ge) =
          (let out = outside p f (suc epoch) u all ge in
          ap (λ (b : Bool). cond b (cond (is_lifted p s leaves u) 0 (counts_now p (public_known p s leaves) u)) 0) (le-ltb u (buckets p) ge) ∙ sym out.counts)

  ended_used : (u x : ℕ) → used_after p s leaves u x ≡ true → WasShown p f (standing_ended p s leaves) (suc epoch) u x
  ended_used u x used =
      let parts = used_parts (nat_lt u (buckets p)) (is_lifted p s leaves u) (s.used u x) used in
      let was = holds.used u x parts.1 in
      let stays : is_lifted_by_end p (public_in_epoch p f epoch p.batches) u ≡ false = sym (same_lifted u) ∙ parts.0 in
      let count : count_after p s leaves u ≡ counts_now p (public_in_epoch p f epoch p.batches) u =
      ended_count u ∙ ap (λ (l : Bool). cond l 0 (counts_now p (public_in_epoch p f epoch p.batches) u)) stays in
      record {
        number = was.number;
        small = was.small;
        is = was.is ∙ ap (λ (l : Bool). f.slot u (cond l (suc epoch) (version_filled p f epoch u)) was.number) (sym stays);
        when = inl (subst (λ (n : ℕ). was.number < n) (sym count) (counted was.number stays was.when));
      }
    where
      counted : (number : ℕ) → is_lifted_by_end p (public_in_epoch p f epoch p.batches) u ≡ false → ((number < s.counts u) ⊎ (s.slots (record { bucket = u; number = number }) ≡ Some x))
          → number < counts_now p (public_in_epoch p f epoch p.batches) u
      counted number stays (inl before) = omega (arith, before, holds.counts u)
      counted number stays (inr now) = go (holds.below (record { bucket = u; number = number }) x now)
        where
          go : GoesBelow p f epoch (record { bucket = u; number = number }) → number < counts_now p (public_in_epoch p f epoch p.batches) u
          go (inl lifted) = absurd (true≢false (sym lifted ∙ stays))
          go (inr low) = low

  pub ended_holds : Holds p f (standing_ended p s leaves) (suc epoch)
  ended_holds = record {
    side = other_side s.epoch epoch holds.side;
    homes = ended_home;
    counts = ended_count;
    counter = ap (λ (c : ℕ). (c + p.evictions) % 2 ^ p.levels) holds.counter;
    labels = λ batch place. tt;
    slots = λ h. tt;
    used = ended_used;
    below = λ h x is. absurd (cc);
  }
