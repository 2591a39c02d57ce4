-- A new store stands for the life that begins.
use Rattle.std.specs.Prelude.{◌≡◌, ℕ, zero, suc, ◌+◌, false, List, [], map, replicate, slice_index_or, None}
use Rattle.std.specs.List.{range_with_len}
use Rattle.std.proofs.Common.{refl, sym, ap}
use Rattle.ob_base.specs.declared.params.Params.{Params}
use Rattle.ob_base.specs.Tree.{buckets, width}
use Rattle.ob_tables.specs.Buckets.{no_version, version_at}
use Rattle.ob_tables.specs.Version.{Version, used_at}
use Rattle.ob_stand.proofs.ContentSampling.{no_entry, none_some}
use Rattle.ob_stand.specs.Table.{lying_place, row_for}
use Rattle.ob_recover.specs.Life.{WordId, formatted_life}
use Rattle.ob_recover.specs.Lives.{IsLifeAt, word_kept}
use Rattle.ob_seal.specs.declared.keys.Keys.{Keys}
use Rattle.ob_stand.specs.Fresh.{Ranks, fresh_content, fresh_version}
use Rattle.ob_stand.specs.Stands.{Stands}
use Rattle.ob_store.specs.Disk.{Image}
use Rattle.ob_opening.specs.Formats.{drawn_ranks, formatted_standing}
use Rattle.ob_opening.specs.OpeningActs.{AreSlotsIn, StandsInLife}

unmarked : (n j : ℕ) → slice_index_or (replicate n false) j false ≡ false
unmarked zero j = refl
unmarked (suc n) zero = refl
unmarked (suc n) (suc j) = unmarked n j

-- past the last bucket there is no version
item_or : (f : ℕ → Version) (P : Version → Type 0) → ((u : ℕ) → P (f u)) → P no_version → (a n u : ℕ) → P (slice_index_or (map f (range_with_len a n)) u no_version)
item_or f P each none a zero u = none
item_or f P each none a (suc n) zero = each a
item_or f P each none a (suc n) (suc u) = item_or f P each none (a + 1) n u

module _ (p : Params) (ranks : Ranks) where
  none_shown : (u j : ℕ) → used_at (version_at (fresh_content p ranks).versions u) j ≡ false
  none_shown u j = item_or (fresh_version p ranks) (λ v. used_at v j ≡ false) (λ u. unmarked (width p) j) refl 0 (buckets p) u

  -- and each lies in its first place
  lies_first : (u : ℕ) → (version_at (fresh_content p ranks).versions u).home ≡ 0
  lies_first u = item_or (fresh_version p ranks) (λ v. v.home ≡ 0) (λ u. refl) refl 0 (buckets p) u

  pub fresh_life : (word_of : WordId → ℕ) (slot : ℕ → ℕ → ℕ) → AreSlotsIn p (fresh_content p ranks) slot → IsLifeAt p word_of (fresh_content p ranks) [] (formatted_life slot)
  fresh_life word_of slot are =
      let versions = (fresh_content p ranks).versions in
      record {
        table = λ i. record {
          rows = λ k. sym (ap (λ e. row_for e (lying_place p versions k)) (no_entry p.keys k)) i;
          used = λ u j. sym (none_shown u j) i;
          lifted = λ u. false;
          counter = 0;
        };
        slots = are;
        homes = λ u. sym (lies_first u);
        book = λ k. sym (ap word_kept (no_entry p.keys k));
        kept = λ k e at. absurd (none_some (slice_index_or (replicate p.keys None) k None) e (no_entry p.keys k) at);
        log = refl;
        words = λ r has. absurd has;
      }

pub first_stands : (keys : Keys) (p : Params) (word_of : WordId → ℕ) (slot : ℕ → ℕ → ℕ) (drawn : List ℕ) (c : Image) → AreSlotsIn p (fresh_content p (drawn_ranks p drawn)) slot → Stands keys p (formatted_standing p drawn) c
    → StandsInLife keys p word_of (formatted_life slot) c
first_stands keys p word_of slot drawn c are stands = record {
  standing = formatted_standing p drawn;
  stands = stands;
  epoch = refl;
  generation = refl;
  life = fresh_life p (drawn_ranks p drawn) word_of slot are;
}
