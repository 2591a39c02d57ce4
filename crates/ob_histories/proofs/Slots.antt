-- Of lines whose labels are some leaves each slot is its version's, by some fills with these leaves.
use Rattle.std.specs.Prelude.{◌≡◌, ◌<◌, ◌≤◌, ◌⊎◌, ℕ, ◌==◌, ◌&&◌, nat_lt, Bool, true, false, cond, List, [], ◌∷◌, ◌++◌, map, Option, Some, None}
use Rattle.std.proofs.Common.{zero, suc, refl, sym, ap, ◌∙◌, subst, arith, true≢false}
use Rattle.std.proofs.lemmas.Bool.{eqb-true, eq-eqb, ne_eqb, lt-ltb, ltb-true}
use Rattle.ob_base.specs.declared.params.Params.{Params}
use Rattle.ob_base.specs.Tree.{width, below}
use Rattle.ob_schedule.specs.Holes.{Hole}
use Rattle.ob_schedule.specs.Schedule.{Public, counts_now, is_lifted_by_end, after_end}
use Rattle.ob_schedule.specs.Standing.{StandingKnown}
use Rattle.ob_histories.specs.Fills.{AllFills, AreAllFills, public_at, public_in_epoch, leaves_of_batches, version_filled}
use Rattle.ob_histories.proofs.Standing.{IsKnown, Holds, IsHole, GoesBelow, WasShown, filled_slot, slot_new, same_two}
use Rattle.ob_histories.proofs.Holes.{AreHoles}
use Rattle.ob_histories.proofs.Labels.{Leaves, InRange}

abbrev pub Slots : Type 0
Slots = (bucket version number : ℕ) → ℕ

-- in the place of each of two slots the other
abbrev pub swapped : ℕ → ℕ → ℕ → ℕ
swapped x y z = cond (z == y) x (cond (z == x) y z)

pub swap_first : (x y : ℕ) → swapped x y y ≡ x
swap_first x y = ap (λ (c : Bool). cond c x (cond (y == x) y y)) (eq-eqb y y refl)

pub swap_other : (x y z : ℕ) → (z ≡ y → ⊥) → (z ≡ x → ⊥) → swapped x y z ≡ z
swap_other x y z not_y not_x = (λ i. cond (ne_eqb z y not_y i) x (cond (ne_eqb z x not_x i) y z))

pub swap_range : (x y z n : ℕ) → x < n → y < n → z < n → swapped x y z < n
swap_range x y z n a b c = go (z == y) (z == x)
  where
    go : (s t : Bool) → cond s x (cond t y z) < n
    go true t = a
    go false true = b
    go false false = c

-- a swap undoes itself
swap_twice : (x y z : ℕ) → swapped x y (swapped x y z) ≡ z
swap_twice x y z = go (z == y) (z == x) refl refl
  where
    go : (s t : Bool) → (z == y) ≡ s → (z == x) ≡ t → swapped x y (swapped x y z) ≡ z
    go true t is other =
        (let same : z ≡ y = eqb-true z y is in
        let inner : swapped x y z ≡ x = ap (λ (c : Bool). cond c x (cond (z == x) y z)) is in
        ap (swapped x y) inner ∙ x_to_y ∙ sym same)
      where
        x_to_y : swapped x y x ≡ y
        x_to_y = back (x == y) refl
          where
            back : (c : Bool) → (x == y) ≡ c → swapped x y x ≡ y
            back true at = ap (λ (d : Bool). cond d x (cond (x == x) y x)) at ∙ eqb-true x y at
            back false at = (λ i. cond (at i) x (cond (eq-eqb x x refl i) y x))
    go false true is other =
        (let inner : swapped x y z ≡ y = (λ i. cond (is i) x (cond (other i) y z)) in
        ap (swapped x y) inner ∙ swap_first x y ∙ sym (eqb-true z x other))
    go false false is other = (let inner : swapped x y z ≡ z = (λ i. cond (is i) x (cond (other i) y z)) in ap (swapped x y) inner ∙ inner)

pub swap_apart : (x y a b : ℕ) → swapped x y a ≡ swapped x y b → a ≡ b
swap_apart x y a b same = sym (swap_twice x y a) ∙ ap (swapped x y) same ∙ swap_twice x y b

module _ (p : Params) (leaf : Leaves) (within : InRange p leaf) where
  abbrev pub filling : Slots → AllFills
  filling slots = record { leaf = leaf; slot = slots }

  -- what is public goes by the leaves alone
  pub leaves_same : (a b : Slots) (epoch batches : ℕ) → leaves_of_batches p (filling a) epoch batches ≡ leaves_of_batches p (filling b) epoch batches
  leaves_same a b epoch zero = refl
  leaves_same a b epoch (suc batches) = ap (λ (xs : List ℕ). xs ++ map (leaf epoch batches) (below p.places)) (leaves_same a b epoch batches)

  pub public_same : (a b : Slots) (epoch : ℕ) → public_at p (filling a) epoch ≡ public_at p (filling b) epoch
  public_same a b zero = refl
  public_same a b (suc epoch) = λ i. after_end p (record (public_same a b epoch i) { leaves = leaves_same a b (suc epoch) p.batches i })

  pub in_epoch_same : (a b : Slots) (epoch batches : ℕ) → public_in_epoch p (filling a) epoch batches ≡ public_in_epoch p (filling b) epoch batches
  in_epoch_same a b epoch batches = λ i. record (public_same a b epoch i) { leaves = leaves_same a b (suc epoch) batches i }

  pub version_same : (a b : Slots) (epoch u : ℕ) → version_filled p (filling a) epoch u ≡ version_filled p (filling b) epoch u
  version_same a b zero u = refl
  version_same a b (suc epoch) u = λ i. cond (is_lifted_by_end p (in_epoch_same a b epoch p.batches i) u) (suc epoch) (version_same a b epoch u i)

  pub below_same : (a b : Slots) (epoch : ℕ) (h : Hole) → GoesBelow p (filling a) epoch h → GoesBelow p (filling b) epoch h
  below_same a b epoch h is = subst (λ (q : Public). (is_lifted_by_end p q h.bucket ≡ true) ⊎ (h.number < counts_now p q h.bucket)) (in_epoch_same a b epoch p.batches) is

  pub holes_same : (a b : Slots) (epoch : ℕ) (hs : List Hole) → AreHoles p (filling a) epoch hs → AreHoles p (filling b) epoch hs
  holes_same a b epoch [] are = tt
  holes_same a b epoch (h ∷ hs) are = (
    record { small = are.0.small; new = subst (λ (q : Public). q.counts h.bucket ≤ h.number) (public_same a b epoch) are.0.new; below = below_same a b epoch h are.0.below },
    holes_same a b epoch hs are.1,
  )

  pub record AreSlots (slots : Slots) : Type 0 where
    pub range : (u v n : ℕ) → slots u v n < width p
    pub apart : (u v m n : ℕ) → m < width p → n < width p → slots u v m ≡ slots u v n → m ≡ n

  -- the slots that there are at first
  abbrev pub first_slots : Slots
  first_slots u v n = cond (nat_lt n (width p)) n 0

  pub first_are : AreSlots first_slots
  first_are = record {
    range = λ u v n. range n (nat_lt n (width p)) refl;
    apart = λ u v m n few_m few_n same. (λ i. cond (sym (lt-ltb m (width p) few_m) i) m 0) ∙ same ∙ (λ i. cond (lt-ltb n (width p) few_n i) n 0);
  }
    where
      range : (n : ℕ) (c : Bool) → nat_lt n (width p) ≡ c → cond c n 0 < width p
      range n true few = ltb-true n (width p) few
      range n false many = (let some : 1 ≤ p.real = p.in_range.some_real in omega (arith, some))

  pub fills_by : (slots : Slots) → AreSlots slots → AreAllFills p (filling slots)
  fills_by slots are = record { leaves = within; slots = are.range; apart = are.apart }

  -- other slots that are the same where they are known
  pub record AgreeSlots (a b : Slots) (epoch : ℕ) (s : StandingKnown) : Type 0 where
    pub old : (u v n : ℕ) → v ≤ epoch → (v ≡ version_filled p (filling a) epoch u → ⊥) → b u v n ≡ a u v n
    pub present : (u n : ℕ) → s.used u (a u (version_filled p (filling a) epoch u) n) ≡ true → b u (version_filled p (filling a) epoch u) n ≡ a u (version_filled p (filling a) epoch u) n

  abbrev pub AreMarked : StandingKnown → Type 0
  AreMarked s = (h : Hole) (x : ℕ) → s.slots h ≡ Some x → s.used h.bucket x ≡ true

  -- what is known stands for the others too
  pub holds_by : (a b : Slots) (epoch : ℕ) (s : StandingKnown) → AreMarked s → AgreeSlots a b epoch s → Holds p (filling a) s epoch → Holds p (filling b) s epoch
  holds_by a b epoch s marked agree holds = record {
    side = holds.side;
    homes = λ u. holds.homes u ∙ ap (λ (q : Public). q.homes u) (public_same a b epoch);
    counts = λ u. holds.counts u ∙ ap (λ (q : Public). q.counts u) (public_same a b epoch);
    counter = holds.counter ∙ ap (λ (q : Public). q.counter) (public_same a b epoch);
    labels = holds.labels;
    slots = λ h. known h (s.slots h) refl (holds.slots h);
    used = λ u x is_used. shown u x is_used (holds.used u x is_used);
    below = λ h x is. below_same a b epoch h (holds.below h x is);
  }
    where
      there : (u n x : ℕ) → s.used u x ≡ true → x ≡ a u (version_filled p (filling a) epoch u) n → x ≡ b u (version_filled p (filling b) epoch u) n
      there u n x used is =
          is ∙ sym (agree.present u n (subst (λ (z : ℕ). s.used u z ≡ true) is used)) ∙ ap (λ (v : ℕ). b u v n) (version_same a b epoch u)

      known : (h : Hole) (o : Option ℕ) → s.slots h ≡ o → IsKnown o (a h.bucket (version_filled p (filling a) epoch h.bucket) h.number) → IsKnown o (b h.bucket (version_filled p (filling b) epoch h.bucket) h.number)
      known h None is one = tt
      known h (Some x) is one = there h.bucket h.number x (marked h x is) one

      shown : (u x : ℕ) → s.used u x ≡ true → WasShown p (filling a) s epoch u x → WasShown p (filling b) s epoch u x
      shown u x used was = record { number = was.number; small = was.small; is = there u was.number x used was.is; when = was.when }

  pub agree_trans : (a b c : Slots) (epoch : ℕ) (s : StandingKnown) → AgreeSlots a b epoch s → AgreeSlots b c epoch s → AgreeSlots a c epoch s
  agree_trans a b c epoch s first second = record {
    old = λ u v n few other. second.old u v n few (λ same. other (same ∙ version_same b a epoch u)) ∙ first.old u v n few other;
    present = λ u n used. (let is = first.present u n used in next u n is (subst (λ (x : ℕ). s.used u x ≡ true) (sym is) used) ∙ is);
  }
    where
      next : (u n : ℕ) → b u (version_filled p (filling a) epoch u) n ≡ a u (version_filled p (filling a) epoch u) n → s.used u (b u (version_filled p (filling a) epoch u) n) ≡ true
          → c u (version_filled p (filling a) epoch u) n ≡ b u (version_filled p (filling a) epoch u) n
      next u n is used =
          let same : version_filled p (filling a) epoch u ≡ version_filled p (filling b) epoch u = version_same a b epoch u in
          subst (λ (v : ℕ). c u v n ≡ b u v n) (sym same) (second.present u n (subst (λ (v : ℕ). s.used u (b u v n) ≡ true) same used))

  -- where less has been used
  pub agree_used : (a b : Slots) (epoch : ℕ) (s t : StandingKnown) → ((u x : ℕ) → t.used u x ≡ true → s.used u x ≡ true) → AgreeSlots a b epoch s → AgreeSlots a b epoch t
  agree_used a b epoch s t more agree = record { old = agree.old; present = λ u n used. agree.present u n (more u (a u (version_filled p (filling a) epoch u) n) used) }

  -- ---- a slot of a hole, by a swap

  abbrev pub with_swap : Slots → ℕ → ℕ → ℕ → ℕ → Slots
  with_swap slots u v x y = λ u' v' n. cond ((u == u') && (v == v')) (swapped x y (slots u' v' n)) (slots u' v' n)

  pub swap_are : (slots : Slots) (u v x y : ℕ) → AreSlots slots → x < width p → y < width p → AreSlots (with_swap slots u v x y)
  swap_are slots u v x y are low_x low_y = record {
    range = λ u' v' n. range ((u == u') && (v == v')) u' v' n;
    apart = λ u' v' m n few_m few_n same. are.apart u' v' m n few_m few_n (apart ((u == u') && (v == v')) u' v' m n same);
  }
    where
      range : (c : Bool) (u' v' n : ℕ) → cond c (swapped x y (slots u' v' n)) (slots u' v' n) < width p
      range true u' v' n = swap_range x y (slots u' v' n) (width p) low_x low_y (are.range u' v' n)
      range false u' v' n = are.range u' v' n

      apart : (c : Bool) (u' v' m n : ℕ) → cond c (swapped x y (slots u' v' m)) (slots u' v' m) ≡ cond c (swapped x y (slots u' v' n)) (slots u' v' n) → slots u' v' m ≡ slots u' v' n
      apart true u' v' m n same = swap_apart x y (slots u' v' m) (slots u' v' n) same
      apart false u' v' m n same = same

  -- a slot that a hole's version hasn't shown becomes the hole's
  pub record Slotted (a : Slots) (epoch : ℕ) (s : StandingKnown) (h : Hole) (x : ℕ) : Type 0 where
    pub then : Slots
    pub are : AreSlots then
    pub agree : AgreeSlots a then epoch s
    pub is : x ≡ filled_slot p (filling then) epoch h

  pub one_slot : (a : Slots) (epoch : ℕ) (s : StandingKnown) (h : Hole) (x : ℕ) (o : Option ℕ) → s.slots h ≡ o → AreSlots a → Holds p (filling a) s epoch → IsHole p (filling a) epoch h
      → (o ≡ None → (x < width p) × (s.used h.bucket x ≡ false)) → ((y : ℕ) → o ≡ Some y → x ≡ y) → Slotted a epoch s h x
  one_slot a epoch s h x (Some y) shown are holds hole new same = record {
    then = a;
    are = are;
    agree = record { old = λ u v n few other. refl; present = λ u n used. refl };
    is = same y refl ∙ subst (λ (o : Option ℕ). IsKnown o (filled_slot p (filling a) epoch h)) shown (holds.slots h);
  }
  one_slot a epoch s h x None none are holds hole new same =
      let v : ℕ = version_filled p (filling a) epoch h.bucket in
      let y : ℕ = filled_slot p (filling a) epoch h in
      let b : Slots = with_swap a h.bucket v x y in
      let free_y : s.used h.bucket y ≡ false = slot_new p (filling a) s epoch h holds hole (fills_by a are) none in
      record {
        then = b;
        are = swap_are a h.bucket v x y are (new refl).0 (are.range h.bucket v h.number);
        agree = record {
          old = λ u w n few other. old u w n other ((h.bucket == u) && (v == w)) refl;
          present = λ u n used. present u n used free_y (new refl).1 ((h.bucket == u) && (v == version_filled p (filling a) epoch u)) refl;
        };
        is = sym (ap (λ (w : ℕ). b h.bucket w h.number) (version_same b a epoch h.bucket) ∙ (λ i. cond (eq-eqb h.bucket h.bucket refl i && eq-eqb v v refl i) (swapped x y y) y) ∙ swap_first x y);
      }
    where
      old : (u w n : ℕ) → (w ≡ version_filled p (filling a) epoch u → ⊥) → (c : Bool) → ((h.bucket == u) && (version_filled p (filling a) epoch h.bucket == w)) ≡ c
          → cond ((h.bucket == u) && (version_filled p (filling a) epoch h.bucket == w)) (swapped x (filled_slot p (filling a) epoch h) (a u w n)) (a u w n) ≡ a u w n
      old u w n other true at =
          (let both = same_two h.bucket (version_filled p (filling a) epoch h.bucket) u w at in absurd (other (sym both.1 ∙ ap (version_filled p (filling a) epoch) both.0)))
      old u w n other false at = ap (λ (c : Bool). cond c (swapped x (filled_slot p (filling a) epoch h) (a u w n)) (a u w n)) at

      present : (u n : ℕ) → s.used u (a u (version_filled p (filling a) epoch u) n) ≡ true → s.used h.bucket (filled_slot p (filling a) epoch h) ≡ false → s.used h.bucket x ≡ false
          → (c : Bool) → ((h.bucket == u) && (version_filled p (filling a) epoch h.bucket == version_filled p (filling a) epoch u)) ≡ c
          → cond ((h.bucket == u) && (version_filled p (filling a) epoch h.bucket == version_filled p (filling a) epoch u)) (swapped x (filled_slot p (filling a) epoch h) (a u (version_filled p (filling a) epoch u) n)) (a u (version_filled p (filling a) epoch u) n)
          ≡ a u (version_filled p (filling a) epoch u) n
      present u n used free_y free_x true at =
          (let z : ℕ = a u (version_filled p (filling a) epoch u) n in
          let both = same_two h.bucket (version_filled p (filling a) epoch h.bucket) u (version_filled p (filling a) epoch u) at in
          let here : s.used h.bucket z ≡ true = ap (λ (w : ℕ). s.used w z) both.0 ∙ used in
          ap (λ (c : Bool). cond c (swapped x (filled_slot p (filling a) epoch h) z) z) at
          ∙ swap_other x (filled_slot p (filling a) epoch h) z (λ same. true≢false (sym here ∙ ap (s.used h.bucket) same ∙ free_y)) (λ same. true≢false (sym here ∙ ap (s.used h.bucket) same ∙ free_x)))
      present u n used free_y free_x false at = ap (λ (c : Bool). cond c (swapped x (filled_slot p (filling a) epoch h) (a u (version_filled p (filling a) epoch u) n)) (a u (version_filled p (filling a) epoch u) n)) at
