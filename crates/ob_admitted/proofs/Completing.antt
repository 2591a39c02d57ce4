-- Fills of all epochs that have these labels and slots.
use Rattle.std.specs.Prelude.{◌≡◌, ◌<◌, ◌≤◌, ◌⊎◌, ℕ, ◌^◌, ◌==◌, ◌&&◌, nat_lt, Bool, true, false, cond, List, [], ◌∷◌}
use Rattle.std.proofs.Common.{refl, sym, ap, ◌∙◌, subst, inl, inr, arith}
use Rattle.std.proofs.lemmas.Bool.{eqb-true, eqb-false, eq-eqb, ltb-true, ltb-false, lt-ltb}
use Rattle.std.proofs.lemmas.Nat.{pow_pos}
use Rattle.ob_base.specs.Repeats.{Has}
use Rattle.ob_base.specs.Tree.{width}
use Rattle.ob_base.specs.declared.params.Params.{Params}
use Rattle.ob_recover.specs.Life.{WordId, LabelFill, SlotFill, leaf_of_word}
use Rattle.ob_recover.proofs.LifeSlots.{leaf_low}
use Rattle.ob_histories.proofs.Labels.{Leaves, InRange}
use Rattle.ob_histories.proofs.Slots.{Slots, AreSlots, first_slots, first_are, swapped, swap_first, swap_other, swap_range, swap_apart}
use Rattle.ob_histories.proofs.Standing.{both_true, same_two}

pub three_true : (a b c : Bool) → (a && (b && c)) ≡ true → (a ≡ true) × ((b ≡ true) × (c ≡ true))
three_true a b c h = (let first = both_true a (b && c) h in (first.0, both_true b c first.1))

-- ---- leaves

module _ (p : Params) (word_of : WordId → ℕ) where
  abbrev with_leaf : LabelFill → Leaves → Leaves
  with_leaf l leaf = λ e b i. cond ((l.epoch == e) && ((l.batch == b) && (l.place == i))) (leaf_of_word p word_of l.word) (leaf e b i)

  pub leaves_of : (ls : List LabelFill) → Leaves
  leaves_of [] = λ e b i. 0
  leaves_of (l ∷ ls) = with_leaf l (leaves_of ls)

  pub leaves_within : (ls : List LabelFill) → InRange p (leaves_of ls)
  unfolding leaves_of
  leaves_within [] e b i = pow_pos p.levels
  leaves_within (l ∷ ls) e b i = go ((l.epoch == e) && ((l.batch == b) && (l.place == i))) (leaves_within ls e b i)
    where
      go : (c : Bool) → leaves_of ls e b i < 2 ^ p.levels → cond c (leaf_of_word p word_of l.word) (leaves_of ls e b i) < 2 ^ p.levels
      go true low = leaf_low p word_of l.word
      go false low = low

  pub leaves_are : (ls : List LabelFill) → ((l m : LabelFill) → Has ls l → Has ls m → l.epoch ≡ m.epoch → l.batch ≡ m.batch → l.place ≡ m.place → l ≡ m)
      → (l : LabelFill) → Has ls l → leaves_of ls l.epoch l.batch l.place ≡ leaf_of_word p word_of l.word
  unfolding leaves_of
  leaves_are [] again l h = absurd h
  leaves_are (x ∷ ls) again l (inl same) =
      subst (λ (m : LabelFill). with_leaf x (leaves_of ls) m.epoch m.batch m.place ≡ leaf_of_word p word_of m.word) same
      (λ i. cond (eq-eqb x.epoch x.epoch refl i && (eq-eqb x.batch x.batch refl i && eq-eqb x.place x.place refl i)) (leaf_of_word p word_of x.word) (leaves_of ls x.epoch x.batch x.place))
  leaves_are (x ∷ ls) again l (inr h) =
      go ((x.epoch == l.epoch) && ((x.batch == l.batch) && (x.place == l.place))) refl (leaves_are ls (λ l m a b. again l m (inr a) (inr b)) l h)
    where
      go : (c : Bool) → ((x.epoch == l.epoch) && ((x.batch == l.batch) && (x.place == l.place))) ≡ c → leaves_of ls l.epoch l.batch l.place ≡ leaf_of_word p word_of l.word
          → with_leaf x (leaves_of ls) l.epoch l.batch l.place ≡ leaf_of_word p word_of l.word
      go true at rest =
          (let parts = three_true (x.epoch == l.epoch) (x.batch == l.batch) (x.place == l.place) at in
          let same : x ≡ l = again x l (inl refl) (inr h) (eqb-true x.epoch l.epoch parts.0) (eqb-true x.batch l.batch parts.1.0) (eqb-true x.place l.place parts.1.1) in
          ap (λ (c : Bool). cond c (leaf_of_word p word_of x.word) (leaves_of ls l.epoch l.batch l.place)) at ∙ ap (λ (m : LabelFill). leaf_of_word p word_of m.word) same)
      go false at rest = ap (λ (c : Bool). cond c (leaf_of_word p word_of x.word) (leaves_of ls l.epoch l.batch l.place)) at ∙ rest

-- ---- slots

module _ (p : Params) (leaf : Leaves) (within : InRange p leaf) where
  -- Within the version's width the slot changes places with the one that was there; a number beyond it gets the slot.
  abbrev changed_slot : Bool → Bool → SlotFill → ℕ → ℕ → ℕ
  changed_slot true beyond x was slot = swapped x.slot was slot
  changed_slot false true x was slot = x.slot
  changed_slot false false x was slot = slot

  abbrev of_version : SlotFill → ℕ → ℕ → Bool
  of_version x u v = (x.bucket == u) && (x.version == v)

  -- of a number in the width where the fill's is, or of the fill's own
  abbrev with_slot : SlotFill → Slots → Slots
  with_slot x slots = λ u v n. cond (of_version x u v) (changed_slot (nat_lt x.number (width p) && nat_lt n (width p)) (x.number == n) x (slots x.bucket x.version x.number) (slots u v n)) (slots u v n)

  pub record Apart (xs : List SlotFill) : Type 0 where
    pub low : (x : SlotFill) → Has xs x → x.slot < width p
    pub by_slot : (x y : SlotFill) → Has xs x → Has xs y → x.bucket ≡ y.bucket → x.version ≡ y.version → x.slot ≡ y.slot → x ≡ y
    pub by_number : (x y : SlotFill) → Has xs x → Has xs y → x.bucket ≡ y.bucket → x.version ≡ y.version → x.number ≡ y.number → x ≡ y

  rest_apart : (x : SlotFill) (xs : List SlotFill) → Apart (x ∷ xs) → Apart xs
  rest_apart x xs are = record { low = λ y h. are.low y (inr h); by_slot = λ y z h g. are.by_slot y z (inr h) (inr g); by_number = λ y z h g. are.by_number y z (inr h) (inr g) }

  pub record Completed (xs : List SlotFill) : Type 0 where
    pub slots : Slots
    pub are : AreSlots p leaf within slots
    pub filled : (x : SlotFill) → Has xs x → slots x.bucket x.version x.number ≡ x.slot

  module _ (x : SlotFill) (slots : Slots) (are : AreSlots p leaf within slots) (low : x.slot < width p) where
    abbrev was : ℕ
    was = slots x.bucket x.version x.number

    changed_range : (both own : Bool) (slot : ℕ) → slot < width p → changed_slot both own x was slot < width p
    changed_range true own slot small = swap_range x.slot was slot (width p) low (are.range x.bucket x.version x.number) small
    changed_range false true slot small = low
    changed_range false false slot small = small

    range_by : (c both own : Bool) (slot : ℕ) → slot < width p → cond c (changed_slot both own x was slot) slot < width p
    range_by true both own slot small = changed_range both own slot small
    range_by false both own slot small = small

    -- within the width of a version the slots stay, or change places
    apart_by : (c d : Bool) (u v m n : ℕ) → m < width p → n < width p → nat_lt x.number (width p) ≡ d
        → cond c (changed_slot (nat_lt x.number (width p) && nat_lt m (width p)) (x.number == m) x was (slots u v m)) (slots u v m) ≡ cond c (changed_slot (nat_lt x.number (width p) && nat_lt n (width p)) (x.number == n) x was (slots u v n)) (slots u v n)
        → slots u v m ≡ slots u v n
    apart_by false d u v m n few_m few_n is same = same
    apart_by true true u v m n few_m few_n is same =
        let there : (k : ℕ) → k < width p → changed_slot (nat_lt x.number (width p) && nat_lt k (width p)) (x.number == k) x was (slots u v k) ≡ swapped x.slot was (slots u v k) =
        (λ k few. (λ i. changed_slot (is i && lt-ltb k (width p) few i) (x.number == k) x was (slots u v k))) in
        swap_apart x.slot was (slots u v m) (slots u v n) (sym (there m few_m) ∙ same ∙ there n few_n)
    apart_by true false u v m n few_m few_n is same =
        let there : (k : ℕ) → k < width p → changed_slot (nat_lt x.number (width p) && nat_lt k (width p)) (x.number == k) x was (slots u v k) ≡ slots u v k =
        (λ k few. (λ i. changed_slot (is i && nat_lt k (width p)) (x.number == k) x was (slots u v k)) ∙ own_stays k (x.number == k) refl few) in
        sym (there m few_m) ∙ same ∙ there n few_n
      where
        own_stays : (k : ℕ) (o : Bool) → (x.number == k) ≡ o → k < width p → changed_slot false (x.number == k) x was (slots u v k) ≡ slots u v k
        own_stays k true at few = absurd (let own : x.number ≡ k = eqb-true x.number k at in let many : width p ≤ x.number = ltb-false x.number (width p) is in omega (arith, own, many, few))
        own_stays k false at few = ap (λ (o : Bool). changed_slot false o x was (slots u v k)) at

    with_are : AreSlots p leaf within (with_slot x slots)
    with_are = record {
      range = λ u v n. range_by (of_version x u v) (nat_lt x.number (width p) && nat_lt n (width p)) (x.number == n) (slots u v n) (are.range u v n);
      apart = λ u v m n few_m few_n same. are.apart u v m n few_m few_n (apart_by (of_version x u v) (nat_lt x.number (width p)) u v m n few_m few_n refl same);
    }

    -- the fill's own
    own_slot : with_slot x slots x.bucket x.version x.number ≡ x.slot
    own_slot =
        (λ i. cond (eq-eqb x.bucket x.bucket refl i && eq-eqb x.version x.version refl i) (changed_slot (nat_lt x.number (width p) && nat_lt x.number (width p)) (x.number == x.number) x was was) was)
        ∙ go (nat_lt x.number (width p))
      where
        go : (d : Bool) → changed_slot (d && d) (x.number == x.number) x was was ≡ x.slot
        go true = swap_first x.slot was
        go false = ap (λ (o : Bool). changed_slot false o x was was) (eq-eqb x.number x.number refl)

    -- another one's stays
    other_slot : (y : SlotFill) → slots y.bucket y.version y.number ≡ y.slot → (x.bucket ≡ y.bucket → x.version ≡ y.version → x.slot ≡ y.slot → x ≡ y) → (x.bucket ≡ y.bucket → x.version ≡ y.version → x.number ≡ y.number → x ≡ y)
        → with_slot x slots y.bucket y.version y.number ≡ y.slot
    other_slot y is by_slot by_number = go (of_version x y.bucket y.version) refl
      where
        stays : (d e o : Bool) → (x.bucket ≡ y.bucket) → (x.version ≡ y.version) → (x.number ≡ y.number → ⊥) → nat_lt x.number (width p) ≡ d → nat_lt y.number (width p) ≡ e → (x.number == y.number) ≡ o
            → changed_slot (d && e) o x was (slots y.bucket y.version y.number) ≡ y.slot
        stays true true o b v apart few_x few_y own =
            swap_other x.slot was (slots y.bucket y.version y.number)
            (λ same. apart (are.apart y.bucket y.version x.number y.number (ltb-true x.number (width p) few_x) (ltb-true y.number (width p) few_y) ((λ i. slots (sym b i) (sym v i) x.number) ∙ sym same)))
            (λ same. apart (ap (λ (z : SlotFill). z.number) (by_slot b v (sym same ∙ is)))) ∙ is
        stays true false true b v apart few_x few_y own = absurd (apart (eqb-true x.number y.number own))
        stays true false false b v apart few_x few_y own = is
        stays false e true b v apart few_x few_y own = absurd (apart (eqb-true x.number y.number own))
        stays false e false b v apart few_x few_y own = is

        numbers : (o : Bool) → (x.number == y.number) ≡ o → (x.bucket ≡ y.bucket) → (x.version ≡ y.version) → with_slot x slots y.bucket y.version y.number ≡ y.slot
        numbers true own b v = subst (λ (z : SlotFill). with_slot x slots z.bucket z.version z.number ≡ z.slot) (by_number b v (eqb-true x.number y.number own)) own_slot
        numbers false own b v =
            (λ i. cond (eq-eqb x.bucket y.bucket b i && eq-eqb x.version y.version v i) (changed_slot (nat_lt x.number (width p) && nat_lt y.number (width p)) (x.number == y.number) x was (slots y.bucket y.version y.number)) (slots y.bucket y.version y.number))
            ∙ stays (nat_lt x.number (width p)) (nat_lt y.number (width p)) (x.number == y.number) b v (λ same. eqb-false x.number y.number own same) refl refl refl

        go : (c : Bool) → of_version x y.bucket y.version ≡ c → with_slot x slots y.bucket y.version y.number ≡ y.slot
        go true at = (let both = same_two x.bucket x.version y.bucket y.version at in numbers (x.number == y.number) refl both.0 both.1)
        go false at = ap (λ (c : Bool). cond c (changed_slot (nat_lt x.number (width p) && nat_lt y.number (width p)) (x.number == y.number) x was (slots y.bucket y.version y.number)) (slots y.bucket y.version y.number)) at ∙ is

  pub complete : (xs : List SlotFill) → Apart xs → Completed xs
  complete [] apart = record { slots = first_slots p leaf within; are = first_are p leaf within; filled = λ x h. absurd h }
  complete (x ∷ xs) apart =
      let rest = complete xs (rest_apart x xs apart) in
      record { slots = with_slot x rest.slots; are = with_are x rest.slots rest.are (apart.low x (inl refl)); filled = λ y h. filled rest y h }
    where
      filled : (rest : Completed xs) (y : SlotFill) → (x ≡ y) ⊎ Has xs y → with_slot x rest.slots y.bucket y.version y.number ≡ y.slot
      filled rest y (inl same) = subst (λ (z : SlotFill). with_slot x rest.slots z.bucket z.version z.number ≡ z.slot) same (own_slot x rest.slots rest.are (apart.low x (inl refl)))
      filled rest y (inr h) = other_slot x rest.slots rest.are (apart.low x (inl refl)) y (rest.filled y h) (apart.by_slot x y (inl refl) (inr h)) (apart.by_number x y (inl refl) (inr h))
