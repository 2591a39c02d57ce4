-- The keys that a refill puts into buckets.
use Rattle.std.specs.Prelude.{◌≡◌, ℕ, ◌+◌, ◌==◌, Bool, true, false, List, [], ◌∷◌, Option}
use Rattle.std.specs.declared.option.Option.TheVariants.{None, Some}
use Rattle.std.specs.List.{position_or_len}
use Rattle.std.proofs.Common.{refl, ◌∙◌, inl, inr, ◌⊎◌}
use Rattle.std.proofs.lemmas.Bool.{eq-eqb, or_left, or_right}
use Rattle.ob_base.specs.declared.params.Params.{Params}
use Rattle.ob_schedule.specs.Paths.{is_one_of, by_falling_level}
use Rattle.ob_ring.specs.FlatTable.{FlatTable, Row, InStash, In, Refill, spot_of, chosen, placed, fill, fills, refill_order, after}
use Rattle.ob_ring.proofs.Fills.{placed-In, chosen_goes}
use Rattle.ob_ring.proofs.Members.{one_of-filter}
use Rattle.ob_ring.proofs.FillLaws.{stash_spot, go_stash}
use Rattle.ob_stand.specs.Takes.{is_present, KeepsKeys}
use Rattle.ob_stand.specs.Goes.{RefillsMove}

placed_stash : (u i : ℕ) (goes : Bool) (r : Option Row) → spot_of (placed u goes i r) ≡ InStash → spot_of r ≡ InStash
placed_stash u i goes None e = refl
placed_stash u i true (Some r) e = absurd (cc)
placed_stash u i false (Some r) e = e

placed_present : (u i : ℕ) (goes : Bool) (r : Option Row) → is_present (placed u goes i r) ≡ is_present r
placed_present u i goes None = refl
placed_present u i goes (Some r) = refl

pub fills_present : (p : Params) (t : FlatTable) (us : List ℕ) → KeepsKeys t (fills p t us)
fills_present p t [] k = refl
fills_present p t (u ∷ us) k = fills_present p (fill p t u) us k ∙ placed_present u (position_or_len (λ c. c == k) (chosen p t u)) (is_one_of (chosen p t u) k) (t.rows k)

pub fills_stash : (p : Params) (t : FlatTable) (us : List ℕ) (k : ℕ) → spot_of ((fills p t us).rows k) ≡ InStash → spot_of (t.rows k) ≡ InStash
fills_stash p t [] k e = e
fills_stash p t (u ∷ us) k e = placed_stash u (position_or_len (λ c. c == k) (chosen p t u)) (is_one_of (chosen p t u) k) (t.rows k) (fills_stash p (fill p t u) us k e)

-- a key that lies in a bucket afterwards came from the stash into a bucket of the list, or lay there before
pub fills_move : (p : Params) (t : FlatTable) (us : List ℕ) (k v j : ℕ) → spot_of ((fills p t us).rows k) ≡ In v j → ((is_one_of us v ≡ true) × (spot_of (t.rows k) ≡ InStash)) ⊎ (spot_of (t.rows k) ≡ In v j)
fills_move p t [] k v j e = inr e
fills_move p t (u ∷ us) k v j e = elim (fills_move p (fill p t u) us k v j e) [
  | inl later ↦ inl (or_right (u == v) (is_one_of us v) later.0, placed_stash u (position_or_len (λ c. c == k) (chosen p t u)) (is_one_of (chosen p t u) k) (t.rows k) later.1)
  | inr here ↦ elim (placed-In u (position_or_len (λ c. c == k) (chosen p t u)) (is_one_of (chosen p t u) k) (t.rows k) v j here) [
    | inl now ↦ inl (or_left (u == v) (is_one_of us v) (eq-eqb u v now.1), go_stash p u (t.rows k) (chosen_goes p t u k now.0))
    | inr was ↦ inr was.1
  ]
]

pub refill_move : (p : Params) (t : FlatTable) (k v j : ℕ) → spot_of ((after p t Refill).rows k) ≡ In v j → ((t.lifted v ≡ true) × (spot_of (t.rows k) ≡ InStash)) ⊎ (spot_of (t.rows k) ≡ In v j)
refill_move p t k v j e = elim (fills_move p t (refill_order p t) k v j e) [
  | inl now ↦ inl ((one_of-filter t.lifted (by_falling_level (p.levels + 1)) v now.0).0, now.1)
  | inr was ↦ inr was
]

pub refills_move : RefillsMove
refills_move p t = record {
  keys = fills_present p t (refill_order p t);
  stash = fills_stash p t (refill_order p t);
  from = refill_move p t;
}
