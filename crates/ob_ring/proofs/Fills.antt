-- A refilled bucket keeps the table sound.
use Rattle.std.specs.Prelude.{◌≡◌, ℕ, ◌==◌, Bool, true, false, not, filter, Option}
use Rattle.std.specs.declared.option.Option.TheVariants.{None, Some}
use Rattle.std.specs.List.{position_or_len}
use Rattle.std.proofs.Common.{arith, refl, sym, ap, ◌∙◌, inl, inr, ◌⊎◌}
use Rattle.std.proofs.lemmas.Bool.{true≢false, false≢true, and_parts, eq-eqb, and_right}
use Rattle.ob_base.specs.declared.params.Params.{Params}
use Rattle.ob_base.specs.Tree.{below, passes}
use Rattle.ob_schedule.specs.Paths.{is_one_of}
use Rattle.ob_ring.specs.FlatTable.{FlatTable, Row, In, spot_of, leaf_of, is_stash, can_go, chosen, placed, fill}
use Rattle.ob_ring.proofs.Members.{one_of-take, one_of-filter, length_take, position_within, position_apart}
use Rattle.ob_ring.specs.Sound.{Placed, IsSound}

pub leaf-placed : (u i : ℕ) (goes : Bool) (r : Option Row) (x : ℕ) → leaf_of (placed u goes i r) x ≡ leaf_of r x
leaf-placed u i goes None x = refl
leaf-placed u i goes (Some r) x = refl

-- a key in a bucket was put there now, or lay there before
pub placed-In : (u i : ℕ) (goes : Bool) (r : Option Row) (v j : ℕ) → spot_of (placed u goes i r) ≡ In v j → ((goes ≡ true) × (u ≡ v) × (i ≡ j)) ⊎ ((goes ≡ false) × (spot_of r ≡ In v j))
placed-In u i goes None v j e = absurd (cc)
placed-In u i true (Some r) v j e = inl (refl, (cc), (cc))
placed-In u i false (Some r) v j e = inr (refl, e)

can_go-passes : (p : Params) (u : ℕ) (r : Option Row) → can_go p u r ≡ true → passes p u (leaf_of r 0) ≡ true
can_go-passes p u None e = absurd (false≢true e)
can_go-passes p u (Some r) e = (and_parts (is_stash r.spot) (passes p u r.leaf) e).1

pub chosen_goes : (p : Params) (t : FlatTable) (u k : ℕ) → is_one_of (chosen p t u) k ≡ true → can_go p u (t.rows k) ≡ true
chosen_goes p t u k e = (one_of-filter (λ k. can_go p u (t.rows k)) (below p.keys) k (one_of-take p.real (filter (λ k. can_go p u (t.rows k)) (below p.keys)) k e)).0

pub sound_fill : (p : Params) (t : FlatTable) (u : ℕ) → t.lifted u ≡ true → IsSound p t → IsSound p (fill p t u)
sound_fill p t u up s = record {
  placed = λ k v j e. elim (placed-In u (position_or_len (λ c. c == k) (chosen p t u)) (is_one_of (chosen p t u) k) (t.rows k) v j e) [
    | inl now ↦ record {
      real = omega (arith, now.2, position_within (chosen p t u) k now.0, length_take p.real (filter (λ k. can_go p u (t.rows k)) (below p.keys)));
      on_path = rw (leaf-placed u (position_or_len (λ c. c == k) (chosen p t u)) (is_one_of (chosen p t u) k) (t.rows k) 0, ← now.1) (can_go-passes p u (t.rows k) (chosen_goes p t u k now.0));
      unread = rw (eq-eqb v u (sym now.1)) refl;
      standing = rw (eq-eqb v u (sym now.1)) refl;
    }
    | inr was ↦ (let at : Placed p t k v j = s.placed k v j was.1 in record {
      real = at.real;
      on_path = rw (leaf-placed u (position_or_len (λ c. c == k) (chosen p t u)) (is_one_of (chosen p t u) k) (t.rows k) 0) at.on_path;
      unread = and_right (not (v == u)) (t.used v j) at.unread;
      standing = and_right (not (v == u)) (t.lifted v) at.standing;
    })
  ];
  alone = λ k k' v j e e'. elim (placed-In u (position_or_len (λ c. c == k) (chosen p t u)) (is_one_of (chosen p t u) k) (t.rows k) v j e) [
    | inl now ↦ elim (placed-In u (position_or_len (λ c. c == k') (chosen p t u)) (is_one_of (chosen p t u) k') (t.rows k') v j e') [
      | inl now' ↦ position_apart (chosen p t u) k k' now.0 now'.0 (now.2 ∙ sym now'.2)
      | inr was ↦ absurd (true≢false (sym up ∙ ap t.lifted now.1 ∙ (s.placed k' v j was.1).standing))
    ]
    | inr was ↦ elim (placed-In u (position_or_len (λ c. c == k') (chosen p t u)) (is_one_of (chosen p t u) k') (t.rows k') v j e') [
      | inl now' ↦ absurd (true≢false (sym up ∙ ap t.lifted now'.1 ∙ (s.placed k v j was.1).standing))
      | inr was' ↦ s.alone k k' v j was.1 was'.1
    ]
  ];
}
