-- What the code computes on its arrays is what the flat table says.
use Rattle.std.specs.Prelude.{◌≡◌, ℕ, ◌+◌, ◌-◌, ◌<◌, ◌≤◌, ◌==◌, Bool, true, false, cond, not, ◌&&◌, ◌||◌, ◌++◌, take, filter, length, Option, unwrap_or}
use Rattle.std.specs.declared.option.Option.TheVariants.{None, Some}
use Rattle.std.specs.List.{range_with_len, list_any, find, count_by}
use Rattle.std.proofs.Common.{zero, suc, arith, refl, sym, ap, ◌∙◌, inl, inr}
use Rattle.std.proofs.lemmas.Bool.{true≢false, cases_Bool, cases_eq, eq-eqb, and_from, or_left, or_right}
use Rattle.ob_base.specs.declared.params.Params.{Params}
use Rattle.ob_base.specs.Tree.{below}
use Rattle.ob_tables.specs.Version.{Version, HasSlots, key_at, used_at}
use Rattle.ob_ring.specs.FlatTable.{FlatTable, Row, Spot, InStash, In, spot_of, is_at, live, reads, lift_order, mark_index, lift, leave, out_of}
use Rattle.ob_ring.specs.Order.{is_key, is_live, order_of}
use Rattle.ob_ring.specs.Arrays.{Arrays, IsTableOf, leaf_in}
use Rattle.ob_ring.specs.Picked.{holder, shown_index, shown_of}
use Rattle.ob_ring.proofs.Members.{off_unless}
use Rattle.ob_ring.proofs.Sounds.{out_of-In, spot-leave}
use Rattle.ob_ring.proofs.LiftOrder.{is_at-is}
use Rattle.ob_ring.proofs.Ranges.{list_any_at}

-- arrays that agree stand for the same table
pub table_like : (p : Params) (a b : Arrays) (t : FlatTable) → IsTableOf p a t → ((u j : ℕ) → a.key_at u j ≡ b.key_at u j) → ((u j : ℕ) → a.used_at u j ≡ b.used_at u j) → ((u : ℕ) → a.lifted_at u ≡ b.lifted_at u) → ((k : ℕ) → a.leaf_at k ≡ b.leaf_at k) → a.counter ≡ b.counter → IsTableOf p b t
table_like p a b t is keys used lifted leaves counter = record {
  keys_low = λ k x e. is.keys_low k x (leaves k ∙ e);
  leaves_are = λ k. is.leaves_are k ∙ leaves k;
  spots_are = λ k u j. ((λ e. sym (keys u j) ∙ (is.spots_are k u j).0 e), (λ e. (is.spots_are k u j).1 (keys u j ∙ e)));
  used_is = λ u j. is.used_is u j ∙ used u j;
  lifted_is = λ u. is.lifted_is u ∙ lifted u;
  counter_is = is.counter_is ∙ counter;
}

-- ---- an index

-- one of a row passes
pub any_from : (q : ℕ → Bool) (a n k : ℕ) → a ≤ k → k < a + n → q k ≡ true → list_any q (range_with_len a n) ≡ true
any_from q a zero k h g on = absurd (omega arith)
any_from q a (suc n) k h g on = elim (cases_eq a k) [
  | inl at ↦ or_left (q a) (list_any q (range_with_len (a + 1) n)) (ap q at ∙ on)
  | inr ne ↦ or_right (q a) (list_any q (range_with_len (a + 1) n)) (any_from q (a + 1) n k (omega arith) (omega arith) on)
]

pub at_is : (u j : ℕ) (s : Spot) → s ≡ In u j → is_at u j s ≡ true
at_is u j s e = ap (is_at u j) e ∙ and_from (u == u) (j == j) (eq-eqb u u refl) (eq-eqb j j refl)

pub found_first : (q : ℕ → Bool) (a n i : ℕ) → a ≤ i → i < a + n → q i ≡ true → ((j : ℕ) → a ≤ j → j < a + n → q j ≡ true → j ≡ i) → find q (range_with_len a n) ≡ Some i
found_first q a zero i h g on only = absurd (omega arith)
found_first q a (suc n) i h g on only = elim (cases_Bool (q a)) [
  | inl here ↦ rw here (ap (λ (x : ℕ). Some x) (only a (omega arith) (omega arith) here))
  | inr off ↦ rw off (found_first q (a + 1) n i (elim (cases_eq a i) [ inl at ↦ absurd (true≢false (sym on ∙ ap q (sym at) ∙ off)) | inr ne ↦ omega arith ]) (omega arith) on (λ j x y. only j (omega arith) (omega arith)))
]

pub found_none : (q : ℕ → Bool) (a n : ℕ) → ((j : ℕ) → a ≤ j → j < a + n → q j ≡ true → ⊥) → find q (range_with_len a n) ≡ None
found_none q a zero none = refl
found_none q a (suc n) none = rw (off_unless (q a) (none a (omega arith) (omega arith))) (found_none q (a + 1) n (λ j x y. none j (omega arith) (omega arith)))

-- a key that lies in a bucket is present
some_leaf : (r : Option Row) (o : Option ℕ) (u j : ℕ) → spot_of r ≡ In u j → leaf_in r ≡ o → (x : ℕ) × (o ≡ Some x)
some_leaf None o u j e f = absurd (cc)
some_leaf (Some r) o u j e f = (r.leaf, sym f)

pub held_low : (p : Params) (a : Arrays) (t : FlatTable) (k u j : ℕ) → IsTableOf p a t → spot_of (t.rows k) ≡ In u j → k < p.keys
held_low p a t k u j is e = let l : (x : ℕ) × (a.leaf_at k ≡ Some x) = some_leaf (t.rows k) (a.leaf_at k) u j e (is.leaves_are k) in is.keys_low k l.0 l.1

none_some : (k : ℕ) (o : Option ℕ) → o ≡ None → o ≡ Some k → ⊥
none_some k o e f = absurd (cc)

same_some : (k j : ℕ) (o : Option ℕ) → o ≡ Some k → o ≡ Some j → j ≡ k
same_some k j o e f = cc

holder_case : (p : Params) (a : Arrays) (t : FlatTable) (u j : ℕ) (o : Option ℕ) → IsTableOf p a t → a.key_at u j ≡ o → (holder p t u j ≡ o) × (live p t u j ≡ is_key o)
holder_case p a t u j None is e =
    let none : (k : ℕ) → is_at u j (spot_of (t.rows k)) ≡ true → ⊥ = λ k on. none_some k (a.key_at u j) e ((is.spots_are k u j).0 (is_at-is u j (spot_of (t.rows k)) on)) in (
      found_none (λ k. is_at u j (spot_of (t.rows k))) 0 p.keys (λ k x y on. none k on),
      off_unless (live p t u j) (λ on. (let at : (k : ℕ) × (is_at u j (spot_of (t.rows k)) ≡ true) = list_any_at (λ k. is_at u j (spot_of (t.rows k))) (below p.keys) on in none at.0 at.1)),
    )
holder_case p a t u j (Some k) is e =
    let at : spot_of (t.rows k) ≡ In u j = (is.spots_are k u j).1 e in
    let low : k < p.keys = held_low p a t k u j is at in
    let on : is_at u j (spot_of (t.rows k)) ≡ true = at_is u j (spot_of (t.rows k)) at in (
      found_first (λ i. is_at u j (spot_of (t.rows i))) 0 p.keys k (omega arith) (omega arith) on
          (λ i x y there. same_some k i (a.key_at u j) e ((is.spots_are i u j).0 (is_at-is u j (spot_of (t.rows i)) there))),
      any_from (λ i. is_at u j (spot_of (t.rows i))) 0 p.keys k (omega arith) (omega arith) on,
    )

pub holder_is : (p : Params) (a : Arrays) (t : FlatTable) (u j : ℕ) → IsTableOf p a t → holder p t u j ≡ a.key_at u j
holder_is p a t u j is = (holder_case p a t u j (a.key_at u j) is refl).0

pub live_is : (p : Params) (a : Arrays) (t : FlatTable) (u j : ℕ) → IsTableOf p a t → live p t u j ≡ is_key (a.key_at u j)
live_is p a t u j is = (holder_case p a t u j (a.key_at u j) is refl).1

-- ---- one version of the arrays

-- the arrays have this version of a bucket
pub record HasVersion (a : Arrays) (u : ℕ) (v : Version) : Type 0 where
  pub keys : (j : ℕ) → a.key_at u j ≡ key_at v j
  pub used : (j : ℕ) → a.used_at u j ≡ used_at v j

pub reads_are : (p : Params) (a : Arrays) (t : FlatTable) (u : ℕ) (v : Version) → IsTableOf p a t → HasVersion a u v → HasSlots p v → reads p t u ≡ count_by (used_at v) (range_with_len 0 (length v.used))
reads_are p a t u v is has slots = λ i. count_by (λ j. (is.used_is u j ∙ has.used j) i) (range_with_len 0 (sym slots.used i))

pub order_is : (p : Params) (a : Arrays) (t : FlatTable) (u : ℕ) (v : Version) → IsTableOf p a t → HasVersion a u v → HasSlots p v → lift_order p t u ≡ order_of v.keys v.used
order_is p a t u v is has slots =
    let live_here : (j : ℕ) → live p t u j ≡ is_live v.keys j = λ j. live_is p a t u j is ∙ ap is_key (has.keys j) in
    λ i. take (sym slots.keys i)
    (filter (λ j. live_here j i) (range_with_len 0 (sym slots.used i)) ++ filter (λ j. not (live_here j i) && not ((is.used_is u j ∙ has.used j) i)) (range_with_len 0 (sym slots.used i)))

pub shown_is : (p : Params) (a : Arrays) (t : FlatTable) (u : ℕ) (v : Version) (own : Option ℕ) → IsTableOf p a t → HasVersion a u v → HasSlots p v → shown_index p t own u ≡ shown_of v own
shown_is p a t u v own is has slots =
    let more : p.dummies ≡ length v.used - length v.keys = omega (arith, slots.used, slots.keys) in
    λ i. unwrap_or own (unwrap_or (find (λ j. not ((is.used_is u j ∙ has.used j) i)) (range_with_len (sym slots.keys i) (more i))) 0)

-- ---- the table's steps on arrays

abbrev pub with_used : Arrays → ℕ → ℕ → Arrays
with_used a u j = record a { used_at = λ v i. ((v == u) && (i == j)) || a.used_at v i }

abbrev pub with_lifted : Arrays → ℕ → Arrays
with_lifted a u = record a { key_at = λ v i. cond (v == u) None (a.key_at v i); lifted_at = λ v. (v == u) || a.lifted_at v }

pub mark_is : (p : Params) (a : Arrays) (t : FlatTable) (u j : ℕ) → IsTableOf p a t → IsTableOf p (with_used a u j) (mark_index t u j)
mark_is p a t u j is = record {
  keys_low = is.keys_low;
  leaves_are = is.leaves_are;
  spots_are = is.spots_are;
  used_is = λ v i. ap (λ (b : Bool). ((v == u) && (i == j)) || b) (is.used_is v i);
  lifted_is = is.lifted_is;
  counter_is = is.counter_is;
}

leaf_leave : (u : ℕ) (r : Option Row) → leaf_in (leave u r) ≡ leaf_in r
leaf_leave u None = refl
leaf_leave u (Some r) = refl

emptied : (b : Bool) (o : Option ℕ) (k : ℕ) → cond b None o ≡ Some k → (b ≡ false) × (o ≡ Some k)
emptied true o k e = absurd (cc)
emptied false o k e = (refl, e)

out_stays : (u v j : ℕ) (s : Spot) → s ≡ In v j → (v == u) ≡ false → out_of u s ≡ In v j
out_stays u v j s e off = ap (out_of u) e ∙ ap (λ (b : Bool). cond b InStash (In v j)) off

pub lift_is : (p : Params) (a : Arrays) (t : FlatTable) (u : ℕ) → IsTableOf p a t → IsTableOf p (with_lifted a u) (lift t u)
lift_is p a t u is = record {
  keys_low = is.keys_low;
  leaves_are = λ k. leaf_leave u (t.rows k) ∙ is.leaves_are k;
  spots_are = λ k v j. (
    (λ e. (let was : (spot_of (t.rows k) ≡ In v j) × ((v == u) ≡ false) = out_of-In u (spot_of (t.rows k)) v j (sym (spot-leave u (t.rows k)) ∙ e) in
        ap (λ (b : Bool). cond b None (a.key_at v j)) was.1 ∙ (is.spots_are k v j).0 was.0)),
    (λ e. (let was : ((v == u) ≡ false) × (a.key_at v j ≡ Some k) = emptied (v == u) (a.key_at v j) k e in
        spot-leave u (t.rows k) ∙ out_stays u v j (spot_of (t.rows k)) ((is.spots_are k v j).1 was.1) was.0)),
  );
  used_is = is.used_is;
  lifted_is = λ v. ap (λ (b : Bool). (v == u) || b) (is.lifted_is v);
  counter_is = is.counter_is;
}
