-- The stash's rows alone: keys that lie in buckets can be left out of a pass.
use Rattle.std.specs.Prelude.{◌≡◌, ◌≢◌, ℕ, ◌+◌, ◌<◌, ◌==◌, Bool, true, false, cond, List, [], ◌∷◌, filter, Option}
use Rattle.std.specs.declared.option.Option.TheVariants.{None, Some}
use Rattle.std.specs.List.{find}
use Rattle.std.specs.FinMap as finite
use Rattle.std.proofs.Common.{refl, sym, ap, ◌∙◌}
use Rattle.std.proofs.lemmas.Bool.{eqb-true}
use Rattle.ob_base.specs.declared.params.Params.{Params}
use Rattle.ob_base.specs.Tree.{below}
use Rattle.ob_ring.specs.FlatTable.{FlatTable, Row, in_stash}
use Rattle.ob_ring.specs.Filling.{HasStashRows}
use Rattle.ob_ring.specs.Settling.{Rows}
use Rattle.ob_ring.proofs.StashWalks.{walked}
use Rattle.ob_ring.specs.Passing.{has_room, upwards, goes_to, one_more, next_place, place_among, place_in_pass, none_taken, row_keys}

stays_out : (p : Params) (lifted : ℕ → Bool) (taken : ℕ → ℕ) (o : Option Row) → in_stash o ≡ false → goes_to p lifted taken o ≡ None
stays_out p lifted taken None e = refl
stays_out p lifted taken (Some r) e = ap (λ (b : Bool). cond b (find (has_room p lifted taken) (upwards p r.leaf (p.levels + 1))) None) e

none_out : (p : Params) (t : FlatTable) (taken : ℕ → ℕ) (ks : List ℕ) (j : ℕ) → in_stash (t.rows j) ≡ false → place_among p t taken ks j ≡ None
none_out p t taken [] j off = refl
none_out p t taken (k ∷ ks) j off = by (k == j) refl (none_out p t (one_more (goes_to p t.lifted taken (t.rows k)) taken) ks j off)
  where
    o : Option ℕ
    o = goes_to p t.lifted taken (t.rows k)

    by : (b : Bool) → (k == j) ≡ b → place_among p t (one_more o taken) ks j ≡ None → cond b (next_place o taken) (place_among p t (one_more o taken) ks j) ≡ None
    by true e rest = ap (λ (x : Option ℕ). next_place x taken) (stays_out p t.lifted taken (t.rows k) (ap (λ (x : ℕ). in_stash (t.rows x)) (eqb-true k j e) ∙ off))
    by false e rest = rest

-- keys that lie in buckets can be left out
out_alone : (p : Params) (t : FlatTable) (taken : ℕ → ℕ) (ks : List ℕ) (j : ℕ) → place_among p t taken (filter (λ k. in_stash (t.rows k)) ks) j ≡ place_among p t taken ks j
out_alone p t taken [] j = refl
out_alone p t taken (k ∷ ks) j = by (in_stash (t.rows k)) refl (λ c. out_alone p t c ks j)
  where
    f : ℕ → Bool
    f x = in_stash (t.rows x)

    o : Option ℕ
    o = goes_to p t.lifted taken (t.rows k)

    by : (b : Bool) → in_stash (t.rows k) ≡ b → ((c : ℕ → ℕ) → place_among p t c (filter f ks) j ≡ place_among p t c ks j) → place_among p t taken (cond b (k ∷ filter f ks) (filter f ks)) j ≡ place_among p t taken (k ∷ ks) j
    by true e rest = ap (cond (k == j) (next_place o taken)) (rest (one_more o taken))
    by false e rest =
        let stays : o ≡ None = stays_out p t.lifted taken (t.rows k) e in
        head (k == j) refl (rest taken) ∙ (λ i. cond (k == j) (next_place (sym stays i) taken) (place_among p t (one_more (sym stays i) taken) ks j))
      where
        head : (b : Bool) → (k == j) ≡ b → place_among p t taken (filter f ks) j ≡ place_among p t taken ks j → place_among p t taken (filter f ks) j ≡ cond b None (place_among p t taken ks j)
        head true at h = none_out p t taken (filter f ks) j (ap f (sym (eqb-true k j at)) ∙ e)
        head false at h = h

-- A pass over the stash's rows gives each key its place.
pub rows_place : (p : Params) (t : FlatTable) (rows : Rows) → HasStashRows t rows → ((k : ℕ) → finite.get rows k ≢ None → k < p.keys) → (k : ℕ) → place_among p t none_taken (row_keys rows) k ≡ place_in_pass p t k
rows_place p t rows has low k =
    sym (out_alone p t none_taken (row_keys rows) k)
    ∙ ap (λ (ks : List ℕ). place_among p t none_taken ks k) (walked (λ j. in_stash (t.rows j)) rows p.keys low has)
    ∙ out_alone p t none_taken (below p.keys) k
