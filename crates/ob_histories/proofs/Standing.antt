-- What is known of a store at a stop stands for what a history has public there.
use Rattle.std.specs.Prelude.{◌≡◌, ◌<◌, ◌≤◌, ◌⊎◌, ℕ, ◌+◌, ◌-◌, ◌%◌, ◌==◌, Bool, true, false, ◌&&◌, cond, map, Option, Some, None}
use Rattle.std.specs.List.{count_by, range_with_len}
use Rattle.std.proofs.Common.{zero, suc, refl, sym, ap, ◌∙◌, subst, inl, inr, arith}
use Rattle.std.proofs.lemmas.Bool.{eqb-true, eq-eqb, false_from_ne_true}
use Rattle.ob_base.specs.declared.params.Params.{Params}
use Rattle.ob_base.specs.Tree.{buckets, width, below, passes}
use Rattle.ob_schedule.specs.Holes.{Hole}
use Rattle.ob_schedule.specs.Schedule.{Public, counts_now, is_lifted_by_end}
use Rattle.ob_schedule.specs.Sides.{other, side_number}
use Rattle.ob_schedule.specs.Standing.{StandingKnown, with_label, with_slot}
use Rattle.ob_histories.specs.Fills.{AllFills, AreAllFills, public_at, public_in_epoch, version_filled, leaves_of_batches}
use Rattle.ob_histories.proofs.Trees.{AreLeaves, leaves_joined, lifted_never, passed_never}

abbrev pub IsKnown : Option ℕ → ℕ → Type 0
IsKnown None x = Unit {0}
IsKnown (Some y) x = y ≡ x

-- a slot that a bucket's version has shown
pub record WasShown (p : Params) (f : AllFills) (s : StandingKnown) (epoch bucket slot : ℕ) : Type 0 where
  pub number : ℕ
  pub small : number < width p
  pub is : slot ≡ f.slot bucket (version_filled p f epoch bucket) number
  pub when : (number < s.counts bucket) ⊎ (s.slots (record { bucket = bucket; number = number }) ≡ Some slot)

-- at the epoch's end its bucket is lifted, or the reads that are counted then go beyond it
abbrev pub GoesBelow : Params → AllFills → ℕ → Hole → Type 0
GoesBelow p f epoch h = (is_lifted_by_end p (public_in_epoch p f epoch p.batches) h.bucket ≡ true) ⊎ (h.number < counts_now p (public_in_epoch p f epoch p.batches) h.bucket)

-- What the epoch shows so far is the fills', and what is counted is public.
pub record Holds (p : Params) (f : AllFills) (s : StandingKnown) (epoch : ℕ) : Type 0 where
  pub side : side_number s.epoch ≡ epoch % 2
  pub homes : (u : ℕ) → side_number (s.homes u) ≡ (public_at p f epoch).homes u
  pub counts : (u : ℕ) → s.counts u ≡ (public_at p f epoch).counts u
  pub counter : s.counter ≡ (public_at p f epoch).counter
  pub labels : (batch place : ℕ) → IsKnown (s.labels batch place) (f.leaf (suc epoch) batch place)
  pub slots : (h : Hole) → IsKnown (s.slots h) (f.slot h.bucket (version_filled p f epoch h.bucket) h.number)
  pub used : (u x : ℕ) → s.used u x ≡ true → WasShown p f s epoch u x
  pub below : (h : Hole) (x : ℕ) → s.slots h ≡ Some x → GoesBelow p f epoch h

-- ---- one label more, and one slot more

abbrev labels_with : StandingKnown → ℕ → ℕ → ℕ → ℕ → ℕ → Option ℕ
labels_with s batch place leaf = λ b i. cond ((batch == b) && (place == i)) (Some leaf) (s.labels b i)

pub both_true : (a b : Bool) → (a && b) ≡ true → (a ≡ true) × (b ≡ true)
both_true true b h = (refl, h)
both_true false b h = cc

pub same_two : (a b c d : ℕ) → ((a == c) && (b == d)) ≡ true → (a ≡ c) × (b ≡ d)
same_two a b c d same = let both = both_true (a == c) (b == d) same in (eqb-true a c both.0, eqb-true b d both.1)

label_known : (p : Params) (f : AllFills) (s : StandingKnown) (epoch batch place leaf : ℕ) → Holds p f s epoch → leaf ≡ f.leaf (suc epoch) batch place → (b i : ℕ) → IsKnown (labels_with s batch place leaf b i) (f.leaf (suc epoch) b i)
label_known p f s epoch batch place leaf holds is b i = go ((batch == b) && (place == i)) refl
  where
    go : (t : Bool) → ((batch == b) && (place == i)) ≡ t → IsKnown (cond t (Some leaf) (s.labels b i)) (f.leaf (suc epoch) b i)
    go true same = (let at = same_two batch place b i same in is ∙ (λ j. f.leaf (suc epoch) (at.0 j) (at.1 j)))
    go false other = holds.labels b i

label_holds_by : (p : Params) (f : AllFills) (s : StandingKnown) (epoch batch place leaf : ℕ) (o : Option ℕ) → Holds p f s epoch → leaf ≡ f.leaf (suc epoch) batch place
    → Holds p f (elim o [ None ↦ record s { labels = labels_with s batch place leaf } | Some x ↦ s ]) epoch
label_holds_by p f s epoch batch place leaf None holds is =
    record {
      side = holds.side;
      homes = holds.homes;
      counts = holds.counts;
      counter = holds.counter;
      labels = label_known p f s epoch batch place leaf holds is;
      slots = holds.slots;
      used = λ u x is_used. (let was = holds.used u x is_used in record { number = was.number; small = was.small; is = was.is; when = was.when });
      below = holds.below;
    }
label_holds_by p f s epoch batch place leaf (Some x) holds is = holds

pub label_holds : (p : Params) (f : AllFills) (s : StandingKnown) (epoch batch place leaf : ℕ) → Holds p f s epoch → leaf ≡ f.leaf (suc epoch) batch place → Holds p f (with_label s batch place leaf) epoch
label_holds p f s epoch batch place leaf holds is = label_holds_by p f s epoch batch place leaf (s.labels batch place) holds is

-- a hole of an epoch: its number is new in it, and within the version
pub record IsHole (p : Params) (f : AllFills) (epoch : ℕ) (h : Hole) : Type 0 where
  pub small : h.number < width p
  pub new : (public_at p f epoch).counts h.bucket ≤ h.number
  pub below : GoesBelow p f epoch h

abbrev pub filled_slot : Params → AllFills → ℕ → Hole → ℕ
filled_slot p f epoch h = f.slot h.bucket (version_filled p f epoch h.bucket) h.number

abbrev slots_with : StandingKnown → Hole → ℕ → Hole → Option ℕ
slots_with s h slot = λ g. cond ((h.bucket == g.bucket) && (h.number == g.number)) (Some slot) (s.slots g)

abbrev used_with : StandingKnown → Hole → ℕ → ℕ → ℕ → Bool
used_with s h slot = λ u x. cond ((h.bucket == u) && (slot == x)) true (s.used u x)

abbrev with_both : StandingKnown → Hole → ℕ → StandingKnown
with_both s h slot = record s { used = used_with s h slot; slots = slots_with s h slot }

some_is : (x y : ℕ) → ◌≡◌ {A = Option ℕ} (Some x) (Some y) → x ≡ y
some_is x y e = cc

module _ (p : Params) (f : AllFills) (s : StandingKnown) (epoch : ℕ) (h : Hole) (holds : Holds p f s epoch) (hole : IsHole p f epoch h) where
  slot_known : (g : Hole) → IsKnown (slots_with s h (filled_slot p f epoch h) g) (filled_slot p f epoch g)
  slot_known g = go ((h.bucket == g.bucket) && (h.number == g.number)) refl
    where
      go : (t : Bool) → ((h.bucket == g.bucket) && (h.number == g.number)) ≡ t → IsKnown (cond t (Some (filled_slot p f epoch h)) (s.slots g)) (filled_slot p f epoch g)
      go true same = (let at = same_two h.bucket h.number g.bucket g.number same in λ j. f.slot (at.0 j) (version_filled p f epoch (at.0 j)) (at.1 j))
      go false apart = holds.slots g

  slot_below : (g : Hole) (x : ℕ) → slots_with s h (filled_slot p f epoch h) g ≡ Some x → GoesBelow p f epoch g
  slot_below g x shown = go ((h.bucket == g.bucket) && (h.number == g.number)) refl shown
    where
      go : (t : Bool) → ((h.bucket == g.bucket) && (h.number == g.number)) ≡ t → cond t (Some (filled_slot p f epoch h)) (s.slots g) ≡ Some x → GoesBelow p f epoch g
      go true same is = (let at = same_two h.bucket h.number g.bucket g.number same in subst (λ (k : ℕ × ℕ). GoesBelow p f epoch (record { bucket = k.0; number = k.1 })) (λ j. (at.0 j, at.1 j)) hole.below)
      go false apart is = holds.below g x is

  kept_slot : (u x number : ℕ) → x ≡ f.slot u (version_filled p f epoch u) number → s.slots (record { bucket = u; number = number }) ≡ Some x
      → slots_with s h (filled_slot p f epoch h) (record { bucket = u; number = number }) ≡ Some x
  kept_slot u x number is shown = go ((h.bucket == u) && (h.number == number)) refl
    where
      go : (t : Bool) → ((h.bucket == u) && (h.number == number)) ≡ t → cond t (Some (filled_slot p f epoch h)) (s.slots (record { bucket = u; number = number })) ≡ Some x
      go true same = (let at = same_two h.bucket h.number u number same in
          ap {A = ℕ} {B = Option ℕ} (λ (y : ℕ). Some y) ((λ j. f.slot (at.0 j) (version_filled p f epoch (at.0 j)) (at.1 j)) ∙ sym is))
      go false apart = shown

  kept_when : (u x number : ℕ) → x ≡ f.slot u (version_filled p f epoch u) number → ((number < s.counts u) ⊎ (s.slots (record { bucket = u; number = number }) ≡ Some x))
      → (number < s.counts u) ⊎ (slots_with s h (filled_slot p f epoch h) (record { bucket = u; number = number }) ≡ Some x)
  kept_when u x number is (inl counted) = inl counted
  kept_when u x number is (inr shown) = inr (kept_slot u x number is shown)

  new_slot : (u : ℕ) → h.bucket ≡ u → slots_with s h (filled_slot p f epoch h) (record { bucket = u; number = h.number }) ≡ Some (filled_slot p f epoch h)
  new_slot u same =
      let a : (h.bucket == u) ≡ true = eq-eqb h.bucket u same in
      let b : (h.number == h.number) ≡ true = eq-eqb h.number h.number refl in
      λ j. cond (a j && b j) (Some (filled_slot p f epoch h)) (s.slots (record { bucket = u; number = h.number }))

  slot_used : (u x : ℕ) → used_with s h (filled_slot p f epoch h) u x ≡ true → WasShown p f (with_both s h (filled_slot p f epoch h)) epoch u x
  slot_used u x used = go ((h.bucket == u) && (filled_slot p f epoch h == x)) refl used
    where
      go : (t : Bool) → ((h.bucket == u) && (filled_slot p f epoch h == x)) ≡ t → cond t true (s.used u x) ≡ true → WasShown p f (with_both s h (filled_slot p f epoch h)) epoch u x
      go true same is = (let at = same_two h.bucket (filled_slot p f epoch h) u x same in
          record {
            number = h.number;
            small = hole.small;
            is = sym at.1 ∙ (λ j. f.slot (at.0 j) (version_filled p f epoch (at.0 j)) h.number);
            when = inr (new_slot u at.0 ∙ ap {A = ℕ} {B = Option ℕ} (λ (y : ℕ). Some y) at.1);
          })
      go false apart is = (let was = holds.used u x is in record { number = was.number; small = was.small; is = was.is; when = kept_when u x was.number was.is was.when })

  slot_holds_by : (o : Option ℕ) → Holds p f (elim o [ None ↦ with_both s h (filled_slot p f epoch h) | Some x ↦ s ]) epoch
  slot_holds_by None =
      record {
        side = holds.side;
        homes = holds.homes;
        counts = holds.counts;
        counter = holds.counter;
        labels = holds.labels;
        slots = slot_known;
        used = slot_used;
        below = slot_below;
      }
  slot_holds_by (Some x) = holds

  pub slot_holds : Holds p f (with_slot s h (filled_slot p f epoch h)) epoch
  slot_holds = slot_holds_by (s.slots h)

  -- a slot that wasn't shown for this hole is a new one
  shown_for : (o : Option ℕ) (number : ℕ) → s.slots h ≡ o → o ≡ None → number ≡ h.number → s.slots (record { bucket = h.bucket; number = number }) ≡ Some (filled_slot p f epoch h) → ⊥
  shown_for o number is none same shown = (let e : ◌≡◌ {A = Option ℕ} None (Some (filled_slot p f epoch h)) = sym none ∙ sym is ∙ (λ j. s.slots (record { bucket = h.bucket; number = sym same j })) ∙ shown in cc)

  pub slot_new : AreAllFills p f → s.slots h ≡ None → s.used h.bucket (filled_slot p f epoch h) ≡ false
  slot_new all none = false_from_ne_true (s.used h.bucket (filled_slot p f epoch h)) (λ used. refute (holds.used h.bucket (filled_slot p f epoch h) used))
    where
      refute_when : (number : ℕ) → number ≡ h.number → ((number < s.counts h.bucket) ⊎ (s.slots (record { bucket = h.bucket; number = number }) ≡ Some (filled_slot p f epoch h))) → ⊥
      refute_when number same (inl counted) = omega (arith, same, counted, hole.new, holds.counts h.bucket)
      refute_when number same (inr shown) = shown_for (s.slots h) number refl none same shown

      refute : WasShown p f s epoch h.bucket (filled_slot p f epoch h) → ⊥
      refute was = refute_when was.number (all.apart h.bucket (version_filled p f epoch h.bucket) was.number h.number was.small hole.small (sym was.is)) was.when

-- ---- what lies outside of the tree is never counted

pub shown_are_leaves : (p : Params) (f : AllFills) (epoch batches : ℕ) → AreAllFills p f → AreLeaves p (leaves_of_batches p f epoch batches)
shown_are_leaves p f epoch zero all = tt
shown_are_leaves p f epoch (suc batches) all = leaves_joined p (leaves_of_batches p f epoch batches) (map (f.leaf epoch batches) (below p.places)) (shown_are_leaves p f epoch batches all) (these 0 p.places)
  where
    these : (a n : ℕ) → AreLeaves p (map (f.leaf epoch batches) (range_with_len a n))
    these a zero = tt
    these a (suc n) = (all.leaves epoch batches a, these (a + 1) n)

pub record IsOutside (p : Params) (f : AllFills) (epoch u : ℕ) : Type 0 where
  pub counts : (public_at p f epoch).counts u ≡ 0
  pub homes : (public_at p f epoch).homes u ≡ 0
  pub stays : is_lifted_by_end p (public_in_epoch p f epoch p.batches) u ≡ false

outside_by : (p : Params) (f : AllFills) (epoch u : ℕ) → AreAllFills p f → buckets p ≤ u → (public_at p f epoch).counts u ≡ 0 → (public_at p f epoch).homes u ≡ 0 → IsOutside p f epoch u
outside_by p f epoch u all out counts homes =
    record { counts = counts; homes = homes; stays = lifted_never p (public_in_epoch p f epoch p.batches) u out counts (shown_are_leaves p f (suc epoch) p.batches all) }

pub outside : (p : Params) (f : AllFills) (epoch u : ℕ) → AreAllFills p f → buckets p ≤ u → IsOutside p f epoch u
outside p f zero u all out = outside_by p f zero u all out refl refl
outside p f (suc epoch) u all out =
    let was = outside p f epoch u all out in
    let q : Public = public_in_epoch p f epoch p.batches in
    let passed : count_by (passes p u) q.leaves ≡ 0 = passed_never p u q.leaves out (shown_are_leaves p f (suc epoch) p.batches all) in
    let now : counts_now p q u ≡ 0 = λ i. was.counts i + passed i in
    outside_by p f (suc epoch) u all out (λ i. cond (was.stays i) 0 (now i)) (λ i. cond (was.stays i) (1 - q.homes u) (was.homes i))
