-- A planner stands for one table.
use Rattle.std.specs.Prelude.{◌≡◌, ℕ, Option}
use Rattle.std.specs.declared.option.Option.TheVariants.{None, Some}
use Rattle.std.proofs.Common.{refl, sym, ◌∙◌}
use Rattle.ob_base.specs.declared.params.Params.{Params}
use Rattle.ob_ring.specs.Arrays.{Arrays, IsTableOf, leaf_in}
use Rattle.ob_ring.specs.FlatTable.{FlatTable, In, InStash, Row, Spot, spot_of}
use Rattle.ob_ring.specs.Ring.{Kept, StandsFor}

leaf_once : (a b : ℕ) → Some a ≡ Some b → a ≡ b
leaf_once a b e = cc

row_once : (x y : Option Row) → leaf_in x ≡ leaf_in y → spot_of x ≡ spot_of y → x ≡ y
row_once None None leaf spot = refl
row_once None (Some r) leaf spot = absurd (cc)
row_once (Some r) None leaf spot = absurd (cc)
row_once (Some r) (Some s) leaf spot = λ i. Some (record { leaf = leaf_once r.leaf s.leaf leaf i; spot = spot i })

module _ (p : Params) (a : Arrays) (t u : FlatTable) (first : IsTableOf p a t) (second : IsTableOf p a u) where
  by_spot : (k : ℕ) (x y : Spot) → spot_of (t.rows k) ≡ x → spot_of (u.rows k) ≡ y → x ≡ y
  by_spot k x (In v j) is at = sym is ∙ (first.spots_are k v j).1 ((second.spots_are k v j).0 at)
  by_spot k (In v j) InStash is at = sym (sym at ∙ (second.spots_are k v j).1 ((first.spots_are k v j).0 is))
  by_spot k InStash InStash is at = refl

  tables_same : t ≡ u
  tables_same = λ i. record {
    rows = λ k. row_once (t.rows k) (u.rows k) (first.leaves_are k ∙ sym (second.leaves_are k)) (by_spot k (spot_of (t.rows k)) (spot_of (u.rows k)) refl refl) i;
    used = λ v j. (first.used_is v j ∙ sym (second.used_is v j)) i;
    lifted = λ v. (first.lifted_is v ∙ sym (second.lifted_is v)) i;
    counter = (first.counter_is ∙ sym second.counter_is) i;
  }

pub table_once : (r : Kept) (t u : FlatTable) → StandsFor r t → StandsFor r u → t ≡ u
table_once r t u first second = tables_same r.p _ t u first.arrays second.arrays
