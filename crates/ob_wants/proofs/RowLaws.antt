-- Lists in rows of 48 places and rows of bits, with one value put in, and as an end leaves them.
use Rattle.std.specs.Prelude.{◌≡◌, ◌<◌, ℕ, ◌-◌, ◌+◌, ◌*◌, ◌^◌, ◌%◌, ◌==◌, nat_lt, Bool, true, false, not, ◌&&◌, cond, List, [], map, slice_index, slice_index_or, Option, Some, None}
use mir.Syntax.{w64}
use Rattle.std.specs.Int.RustNames.{bit_or}
use Rattle.std.proofs.Common.{zero, suc, refl, sym, ap, ◌∙◌, arith, inl, inr, add-one}
use Rattle.std.proofs.lemmas.Nat.Bits.{bit_at-zero, bit_at_set_same, bit_at_set_other}
use Rattle.std.proofs.lemmas.Bool.{lt-ltb, le-ltb, cases_lt, eq-eqb, ne_eqb, eqb-true, eqb-false, and_right}
use Rattle.std.proofs.lemmas.List.{get_or_past}
use Rattle.std.proofs.lemmas.List.FromFn.{get_or-map-range_with_len, length-map-range_with_len}
use Rattle.ob_base.specs.Tree.{below}
use Rattle.ob_schedule.specs.Holes.{Hole}
use Rattle.ob_schedule.specs.Standing.{StandingKnown, with_slot, with_label}
use Rattle.ob_wants.specs.Rows.{in_rows, kept_number, has_bit}

-- a place of a row is told by its index
same_index : (u i w k : ℕ) (a b : Bool) → i < 48 → k < 48 → (u == w) ≡ a → (i == k) ≡ b → (w * 48 + k == u * 48 + i) ≡ (a && b)
same_index u i w k true true few low same is = eq-eqb (w * 48 + k) (u * 48 + i) (omega (arith, eqb-true u w same, eqb-true i k is))
same_index u i w k true false few low same is = ne_eqb (w * 48 + k) (u * 48 + i) (λ e. eqb-false i k is (omega (arith, eqb-true u w same, e, few, low)))
same_index u i w k false b few low same is = ne_eqb (w * 48 + k) (u * 48 + i) (λ e. eqb-false u w same (omega (arith, e, few, low)))

put_at : {T : Type 0} (old new : List T) (none v : T) (u i w k : ℕ) → i < 48 → ((j : ℕ) → slice_index_or new j none ≡ cond (j == u * 48 + i) v (slice_index_or old j none))
    → in_rows new none w k ≡ cond ((u == w) && (i == k)) v (in_rows old none w k)
put_at {T} old new none v u i w k few put = elim (cases_lt k 48) [
  | inl low ↦ let is : nat_lt k 48 ≡ true = lt-ltb k 48 low in rw is (put (w * 48 + k) ∙ ap (λ (b : Bool). cond b v (slice_index_or old (w * 48 + k) none)) (same_index u i w k (u == w) (i == k) few low refl refl))
  | inr high ↦
      let is : nat_lt k 48 ≡ false = le-ltb k 48 high in
      let apart : ((u == w) && (i == k)) ≡ false = and_right (u == w) (i == k) (ne_eqb i k (λ e. omega (arith, e, few, high))) in
      rw is (rw apart refl)
]

pub rows_put : {T : Type 0} (old new : List T) (none v : T) (u i : ℕ) → i < 48 → ((j : ℕ) → slice_index_or new j none ≡ cond (j == u * 48 + i) v (slice_index_or old j none))
    → in_rows new none ≡ λ w k. cond ((u == w) && (i == k)) v (in_rows old none w k)
rows_put {T} old new none v u i few put = λ j w k. put_at old new none v u i w k few put j

-- a place within a row lies at its index
pub in_row : {T : Type 0} (list : List T) (none : T) (row place : ℕ) → place < 48 → slice_index_or list (row * 48 + place) none ≡ in_rows list none row place
in_row {T} list none row place few = let is : nat_lt place 48 ≡ true = lt-ltb place 48 few in rw is refl

-- a number that is kept
pub number_kept : (n : ℕ) → (n ≡ 0 → ⊥) → Some (n - 1) ≡ kept_number n
number_kept zero some = absurd (some refl)
number_kept (suc n) some = let same : suc n - 1 ≡ n = omega arith in ap (λ (k : ℕ). Some k) same

-- what is shown first is kept
first_kept : (s kept : StandingKnown) (o : Option ℕ) → o ≡ None → kept ≡ elim o [ None ↦ kept | Some x ↦ s ]
first_kept s kept None none = refl
first_kept s kept (Some x) none = absurd (cc)

pub slot_first : (s : StandingKnown) (h : Hole) (slot : ℕ) → s.slots h ≡ None
    → record s { used = λ u x. cond ((h.bucket == u) && (slot == x)) true (s.used u x); slots = λ g. cond ((h.bucket == g.bucket) && (h.number == g.number)) (Some slot) (s.slots g) } ≡ with_slot s h slot
slot_first s h slot none = first_kept s (record s { used = λ u x. cond ((h.bucket == u) && (slot == x)) true (s.used u x); slots = λ g. cond ((h.bucket == g.bucket) && (h.number == g.number)) (Some slot) (s.slots g) }) (s.slots h) none

pub label_first : (s : StandingKnown) (batch place leaf : ℕ) → s.labels batch place ≡ None → record s { labels = λ b i. cond ((batch == b) && (place == i)) (Some leaf) (s.labels b i) } ≡ with_label s batch place leaf
label_first s batch place leaf none = first_kept s (record s { labels = λ b i. cond ((batch == b) && (place == i)) (Some leaf) (s.labels b i) }) (s.labels batch place) none

-- ---- behind an end

pub no_row : {T : Type 0} (none : T) (b : Bool) → cond b none none ≡ none
no_row {T} none true = refl
no_row {T} none false = refl

pub rows_empty : {T : Type 0} (none : T) (row place : ℕ) → in_rows [] none row place ≡ none
rows_empty {T} none row place = no_row none (nat_lt place 48)

pub index_at : {X : Type 0} (f : ℕ → X) (n u : ℕ) (d : X) → slice_index_or (map f (below n)) u d ≡ cond (nat_lt u n) (f u) d
index_at {X} f n u d = elim (cases_lt u n) [
  | inl lt ↦ let is : nat_lt u n ≡ true = lt-ltb u n lt in rw is (get_or-map-range_with_len f 0 n u u d lt (omega arith))
  | inr ge ↦ let is : nat_lt u n ≡ false = le-ltb u n ge in rw is (get_or_past (map f (below n)) u d (omega (arith, ge, length-map-range_with_len f 0 n)))
]

-- what depends on a list's value is asked for only within the list
within_twice : {X Y : Type 0} (b : Bool) (g : X → Y) (x d : X) (e : Y) → cond b (g (cond b x d)) e ≡ cond b (g x) e
within_twice {X} {Y} true g x d e = refl
within_twice {X} {Y} false g x d e = refl

marked : (lifted : ℕ → Bool) (marks : List Bool) (n u : ℕ) → marks ≡ map lifted (below n) → slice_index_or marks u false ≡ cond (nat_lt u n) (lifted u) false
marked lifted marks n u is = ap (λ (ms : List Bool). slice_index_or ms u false) is ∙ index_at lifted n u false

chosen_at : {X : Type 0} (lifted : ℕ → Bool) (marks : List Bool) (n u : ℕ) (g : ℕ → Bool → X) (d : X) → marks ≡ map lifted (below n)
    → slice_index_or (map (λ v. g v (slice_index_or marks v false)) (below n)) u d ≡ cond (nat_lt u n) (g u (lifted u)) d
chosen_at {X} lifted marks n u g d is =
    index_at (λ v. g v (slice_index_or marks v false)) n u d
    ∙ ap (λ (b : Bool). cond (nat_lt u n) (g u b) d) (marked lifted marks n u is)
    ∙ within_twice (nat_lt u n) (g u) (lifted u) false d

pub chosen_after : {X : Type 0} (lifted : ℕ → Bool) (marks : List Bool) (n : ℕ) (g : ℕ → Bool → X) (d : X) → marks ≡ map lifted (below n)
    → ◌≡◌ {A = ℕ → X} (λ u. slice_index_or (map (λ v. g v (slice_index_or marks v false)) (below n)) u d) (λ u. cond (nat_lt u n) (g u (lifted u)) d)
chosen_after {X} lifted marks n g d is = λ j u. chosen_at lifted marks n u g d is j

-- the slots that are shown, as marks by bucket leave them
none_set : (x : ℕ) → has_bit 0 x ≡ false
none_set x = ap (λ (n : ℕ). n == 1) (bit_at-zero x)

left_bit : (a l : Bool) (w x : ℕ) → has_bit (cond a (cond l 0 w) 0) x ≡ cond a (not l && has_bit w x) false
left_bit true true w x = none_set x
left_bit true false w x = refl
left_bit false l w x = none_set x

pub bits_left : (lifted : ℕ → Bool) (marks : List Bool) (used : List ℕ) (n : ℕ) → marks ≡ map lifted (below n)
    → ◌≡◌ {A = ℕ → ℕ → Bool} (λ u x. has_bit (slice_index (map (λ v. cond (slice_index_or marks v false) 0 (slice_index used v)) (below n)) u) x) (λ u x. cond (nat_lt u n) (not (lifted u) && has_bit (slice_index used u) x) false)
bits_left lifted marks used n is = λ j u x.
    ((λ i. has_bit (chosen_after lifted marks n (λ v b. cond b 0 (slice_index used v)) 0 is i u) x) ∙ left_bit (nat_lt u n) (lifted u) (slice_index used u) x) j

pub kept_empty : (row place : ℕ) → kept_number (in_rows [] 0 row place) ≡ None
kept_empty row place = ap kept_number (rows_empty 0 row place)

pub kept_one : (n : ℕ) → kept_number (n + 1) ≡ Some n
kept_one n = rw add-one refl

pub kept_put : (b : Bool) (slot old : ℕ) → kept_number (cond b (slot + 1) old) ≡ cond b (Some slot) (kept_number old)
kept_put true slot old = kept_one slot
kept_put false slot old = refl

-- ---- bits of a word

pub bit_put : (word set bit : ℕ) → bit < 64 → set ≡ bit_or word (1 * 2 ^ bit % 2 ^ 64) → (x : ℕ) → has_bit set x ≡ cond (bit == x) true (has_bit word x)
bit_put word set bit few is x = elim (bit == x) as (λ b. (bit == x) ≡ b → has_bit set x ≡ cond b true (has_bit word x)) [
  | true ↦ λ same. ap (λ (w : ℕ). has_bit w x) is ∙ ap (λ (i : ℕ). has_bit (bit_or word (1 * 2 ^ bit % 2 ^ 64)) i) (sym (eqb-true bit x same)) ∙ ap (λ (n : ℕ). n == 1) (bit_at_set_same w64 word bit few)
  | false ↦ λ other. ap (λ (w : ℕ). has_bit w x) is ∙ ap (λ (n : ℕ). n == 1) (bit_at_set_other w64 word bit few x (λ e. eqb-false bit x other (sym e)))
] refl
