-- Versions go, operation by operation.
use Rattle.std.proofs.Common.{◌≡◌, ℕ, ◌+◌, ◌<◌, Bool, true, false, not, ◌==◌, ◌&&◌, nat_lt, if◌then◌else◌, List, take, get_or, length, Option, None, Some, is_some, refl, sym, ap, ap₂, ◌∙◌, ⊎_elim, arith, eq-eqb, ne_eqb}
use Rattle.std.specs.Option.{option_or}
use Rattle.std.proofs.lemmas.Bool.{cases_eq, cases_lt, false≢true, lt-ltb, le-ltb}
use Rattle.ob_order.specs.Works.{Op, Get, Put, Del, write_of, last_write}
use Rattle.ob_order.specs.Order.{count_below}
use Rattle.ob_order.proofs.Edits.{last_write_more}
use Rattle.ob_key_versions.specs.Chains.{Link}
use Rattle.ob_key_versions.specs.Tables.{key_of}
use Rattle.ob_key_versions.proofs.Counted.{count_moved, count_stays}

-- one operation more
pub unlinked_more : (os : List (Op ℕ)) (i k t u : ℕ) (o : Op ℕ) (a b c : Option Link) → i < length os → o ≡ get_or os i o
    → b ≡ (if (t == u) && is_some (last_write (take i os) k) then None else a) → c ≡ (if (t == u) && is_some (write_of o k) then None else b)
    → c ≡ (if (t == u) && is_some (last_write (take (i + 1) os) k) then None else a)
unlinked_more os i k t u o a b c l at so_far here =
    here ∙ (ap (λ x. if (t == u) && is_some (write_of o k) then None else x) so_far
    ∙ (both (t == u) (write_of o k) (last_write (take i os) k)
    ∙ sym (ap (λ w. if (t == u) && is_some w then None else a) (last_write_more os i k o l at))))
  where
    both : (p : Bool) (w v : Option (Option (List ℕ))) → (if p && is_some w then None else (if p && is_some v then None else a)) ≡ (if p && is_some (option_or w v) then None else a)
    both true None v = refl
    both true (Some x) v = refl
    both false w v = refl

abbrev choose : Bool → Option (List ℕ) → Option (Option (List ℕ))
choose b v = if b then Some v else None

abbrev bit : Bool → ℕ
bit b = if b then 1 else 0

-- an operation's write is of its key
pub write_is : (o : Op ℕ) (j k : ℕ) → key_of o ≡ Some j → is_some (write_of o k) ≡ (j == k)
write_is (Get x r s) j k e = let q : None ≡ Some j = e in absurd cc
write_is (Put x v) j k e = let same : x ≡ j = cc in ⊎_elim
    (λ here. ap (λ b. is_some (choose b (Some v))) (eq-eqb k x (sym here ∙ sym same)) ∙ sym (eq-eqb j k here))
    (λ apart. ap (λ b. is_some (choose b (Some v))) (ne_eqb k x (λ q. apart (sym same ∙ sym q))) ∙ sym (ne_eqb j k apart))
    (cases_eq j k)
write_is (Del x) j k e = let same : x ≡ j = cc in ⊎_elim
    (λ here. ap (λ b. is_some (choose b None)) (eq-eqb k x (sym here ∙ sym same)) ∙ sym (eq-eqb j k here))
    (λ apart. ap (λ b. is_some (choose b None)) (ne_eqb k x (λ q. apart (sym same ∙ sym q))) ∙ sym (ne_eqb j k apart))
    (cases_eq j k)

pub no_write : (o : Op ℕ) (k : ℕ) → key_of o ≡ None → is_some (write_of o k) ≡ false
no_write (Get x r s) k e = refl
no_write (Put x v) k e = let q : Some x ≡ None = e in absurd cc
no_write (Del x) k e = let q : Some x ≡ None = e in absurd cc

-- the place of the write that went
pub one_place : (o : Op ℕ) (j k t u : ℕ) (a b : Option Link) → key_of o ≡ Some j → b ≡ (if (j == k) && (t == u) then None else a) → b ≡ (if (t == u) && is_some (write_of o k) then None else a)
one_place o j k t u a b e is = is ∙ (turned (j == k) (t == u) ∙ sym (ap (λ x. if (t == u) && x then None else a) (write_is o j k e)))
  where
    turned : (p q : Bool) → (if p && q then None else a) ≡ (if q && p then None else a)
    turned true true = refl
    turned true false = refl
    turned false true = refl
    turned false false = refl

-- the count after one key's version went
pub count_taken : (p q : ℕ → Bool) (k n : ℕ) (last : Bool) (c : ℕ) → ((j : ℕ) → (k ≡ j → ⊥) → q j ≡ p j) → (q k ≡ true → p k ≡ true) → last ≡ (p k && not (q k))
    → c ≡ bit (last && nat_lt k n) → count_below p n ≡ count_below q n + c
count_taken p q k n last c same fewer is count = ⊎_elim
    (λ l.
    let moved = count_moved p q k n same l in
    let b = bits (p k) (q k) fewer in
    let more : c ≡ bit (p k && not (q k)) = count ∙ (ap₂ (λ (x y : Bool). bit (x && y)) is (lt-ltb k n l) ∙ and_true (p k && not (q k))) in
    omega (arith, moved, b, more))
    (λ l.
    let stays = count_stays p q k n same l in
    let none : c ≡ 0 = count ∙ (ap (λ (x : Bool). bit (last && x)) (le-ltb k n l) ∙ and_false last) in
    omega (arith, stays, none))
    (cases_lt k n)
  where
    and_true : (x : Bool) → bit (x && true) ≡ bit x
    and_true true = refl
    and_true false = refl

    and_false : (x : Bool) → bit (x && false) ≡ 0
    and_false true = refl
    and_false false = refl

    bits : (x y : Bool) → (y ≡ true → x ≡ true) → bit x ≡ bit y + bit (x && not y)
    bits true true h = refl
    bits true false h = refl
    bits false true h = absurd (false≢true (h refl))
    bits false false h = refl

-- a value is of the first or else of the second
pub either : {A : Type 0} (a b : Option A) (B : Type 0) → is_some (option_or a b) ≡ true → (is_some a ≡ true → B) → (is_some b ≡ true → B) → B
either (Some x) b B e f g = f refl
either None b B e f g = g e
