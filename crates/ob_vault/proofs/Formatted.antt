-- A format begins a life of its store.
use Rattle.std.specs.Prelude.{◌≡◌, ◌⊎◌, ℕ, ◌<◌, ◌≤◌, List, length, slice_index}
use Rattle.std.proofs.Common.{arith, refl, sym, ap, subst, inl, inr}
use Rattle.std.proofs.lemmas.Bool.{cases_lt}
use Rattle.std.proofs.lemmas.List.FromFn.{get_or-map-range_with_len}
use Rattle.ob_base.specs.Tree.{buckets, width}
use Rattle.ob_base.specs.declared.params.Params.{Params}
use Rattle.ob_tables.specs.Buckets.{no_version, version_at}
use Rattle.ob_tables.specs.Rank.{IsRanking}
use Rattle.ob_tables.specs.Version.{Version, rank_at}
use Rattle.ob_stand.proofs.Counts.{slots_rank}
use Rattle.ob_recover.specs.Life.{WordId, formatted_life}
use Rattle.ob_seal.specs.declared.keys.Keys.{Keys}
use Rattle.ob_stand.specs.Fresh.{AreRanked, fresh_content, fresh_version}
use Rattle.ob_store.specs.Disk.{Disk, Image}
use Rattle.ob_opening.proofs.FirstLaws.{are_ranked}
use Rattle.ob_opening.specs.Formats.{drawn_ranks, format_words}
use Rattle.ob_opening.specs.OpeningActs.{AreSlotsIn, StandsInLife}
use Rattle.ob_vault.specs.Lives.{RingFormatted}

module _ (p : Params) (drawn : List ℕ) (many : length drawn ≡ format_words p) where
  ranked : AreRanked p (drawn_ranks p drawn)
  ranked = are_ranked p drawn many

  -- a bucket's order, and any order past the last bucket
  abbrev order_by : (u : ℕ) → (u < buckets p) ⊎ (buckets p ≤ u) → ℕ → ℕ
  order_by u (inl low) j = slice_index (drawn_ranks p drawn u) j
  order_by u (inr high) j = j

  is_ranking : (u : ℕ) (which : (u < buckets p) ⊎ (buckets p ≤ u)) → IsRanking (width p) (order_by u which)
  is_ranking u (inl low) = subst (λ n. IsRanking n (λ j. slice_index (drawn_ranks p drawn u) j)) (ranked.many u low) (slots_rank (fresh_version p (drawn_ranks p drawn) u) (ranked.each u low))
  is_ranking u (inr high) = record { within = λ j lt. lt; apart = λ i j a b same. same; onto = λ s lt. (s, lt, refl) }

  order_is : (u j : ℕ) (which : (u < buckets p) ⊎ (buckets p ≤ u)) → u < buckets p → order_by u which j ≡ rank_at (version_at (fresh_content p (drawn_ranks p drawn)).versions u) j
  order_is u j (inl is_low) low = ap (λ (v : Version). rank_at v j) (sym (get_or-map-range_with_len (fresh_version p (drawn_ranks p drawn)) 0 (buckets p) u u no_version low (omega arith)))
  order_is u j (inr high) low = absurd (omega (arith, high, low))

  pub formats : (keys : Keys) (new : Disk)
      → ((word_of : WordId → ℕ) (slot : ℕ → ℕ → ℕ) (c : Image) → AreSlotsIn p (fresh_content p (drawn_ranks p drawn)) slot → new.may_leave c → StandsInLife keys p word_of (formatted_life slot) c) → RingFormatted keys p drawn new
  formats keys new life = record {
    many = many;
    slot = λ u. order_by u (cases_lt u (buckets p));
    ranked = λ u. is_ranking u (cases_lt u (buckets p));
    of_words = λ u j low few. order_is u j (cases_lt u (buckets p)) low;
    small = λ b none. absurd none;
    stands = λ word_of c left. life word_of (λ u. order_by u (cases_lt u (buckets p))) c (λ u j low few. order_is u j (cases_lt u (buckets p)) low) left;
  }
