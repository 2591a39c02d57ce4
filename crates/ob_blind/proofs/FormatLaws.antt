-- The table of a new store says nothing of its slots.
use Rattle.std.specs.Prelude.{◌≡◌, ℕ, zero, suc, false, List, [], ◌∷◌, map, Option, None, Some, replicate}
use Rattle.std.specs.FinMap as finite
use Rattle.std.specs.List.{find}
use Rattle.std.proofs.Common.{refl, sym, ap, subst, ◌∙◌}
use mathlib.Core.Path.{fun_ext}
use Rattle.ob_base.specs.declared.params.Params.{Params}
use Rattle.ob_base.specs.Tree.{below, buckets}
use Rattle.ob_tables.specs.Buckets.{version_at}
use Rattle.ob_tables.specs.Kept.{entry_at}
use Rattle.ob_tables.specs.Version.{Version, live_index, used_at}
use Rattle.ob_ring.proofs.FillLaws.{none_used}
use Rattle.ob_ring.specs.FlatTable.{InStash, Spot}
use Rattle.ob_ring.specs.Ring.{StandsFor}
use Rattle.ob_stand.proofs.FreshLaws.{fresh_obeys}
use Rattle.ob_stand.proofs.Reading.{rings_stand}
use Rattle.ob_stand.specs.Fresh.{AreRanked, Ranks, fresh_content, fresh_version}
use Rattle.ob_stand.specs.Table.{buckets_of, flat_of, lying_place, row_for, spot_among, spot_in}
use Rattle.ob_stand.specs.Takes.{is_present}
use Rattle.ob_blind.specs.Formats.{FormatsAreAlike, ring_first}

-- where a key lies, by the index that each bucket has of it
abbrev spot_by : (ℕ → Option ℕ) → Option ℕ → Spot
spot_by live None = InStash
spot_by live (Some u) = spot_in u (live u)

abbrev place_by : Params → (ℕ → Option ℕ) → Spot
place_by p live = spot_by live (find (λ u. is_present (live u)) (below (buckets p)))

by_live : (versions : List Version) (k : ℕ) (found : Option ℕ) → spot_among versions k found ≡ spot_by (λ u. live_index (version_at versions u) k) found
by_live versions k None = refl
by_live versions k (Some u) = refl

module _ (p : Params) (ranks others : Ranks) where
  same_live : (us : List ℕ) (u k : ℕ) → live_index (version_at (map (fresh_version p ranks) us) u) k ≡ live_index (version_at (map (fresh_version p others) us) u) k
  same_live [] u k = refl
  same_live (v ∷ us) zero k = refl
  same_live (v ∷ us) (suc u) k = same_live us u k

  same_used : (us : List ℕ) (u j : ℕ) → used_at (version_at (map (fresh_version p ranks) us) u) j ≡ used_at (version_at (map (fresh_version p others) us) u) j
  same_used [] u j = refl
  same_used (v ∷ us) zero j = refl
  same_used (v ∷ us) (suc u) j = same_used us u j

  same_place : (k : ℕ) → lying_place p (fresh_content p ranks).versions k ≡ lying_place p (fresh_content p others).versions k
  same_place k =
      by_live (fresh_content p ranks).versions k (find (λ u. is_present (live_index (version_at (fresh_content p ranks).versions u) k)) (below (buckets p)))
      ∙ ap (place_by p) (fun_ext (λ u. same_live (below (buckets p)) u k))
      ∙ sym (by_live (fresh_content p others).versions k (find (λ u. is_present (live_index (version_at (fresh_content p others).versions u) k)) (below (buckets p))))

  pub same_table : flat_of p (fresh_content p ranks) ≡ flat_of p (fresh_content p others)
  same_table i = record {
    rows = λ k. row_for (entry_at (replicate p.keys None) k) (same_place k i);
    used = λ u j. same_used (below (buckets p)) u j i;
    lifted = λ u. false;
    counter = 0;
  }

first_stands : (p : Params) (ranks : Ranks) → AreRanked p ranks → StandsFor (ring_first p ranks) (flat_of p (fresh_content p ranks))
first_stands p ranks ranked = rings_stand p (record { book = (fresh_content p ranks).book; metas = buckets_of p (fresh_content p ranks); stash = record { rows = finite.empty; room = p.keys }; counter = 0 }) (fresh_obeys p ranks ranked) (none_used (buckets p))

pub formats_are_alike : FormatsAreAlike
formats_are_alike = record {
  rings = λ p ranks others ranked same. record { params = refl; one_stands = first_stands p ranks ranked; other_stands = subst (StandsFor (ring_first p others)) (sym (same_table p ranks others)) (first_stands p others same) };
  hidden = λ p ranks others generation. record { epoch = refl; table = same_table p ranks others; entries = λ k. refl; records = refl; generation = refl; drawn = refl };
}
