-- One transaction has versions of no more keys than it has made writes.
use Rattle.std.proofs.Common.{◌≡◌, ℕ, zero, suc, ◌+◌, ◌<◌, ◌≤◌, Bool, true, false, not, ◌&&◌, ◌==◌, if◌then◌else◌, List, [], ◌∷◌, length, Option, None, Some, option_map, option_and_then, unwrap_or, refl, sym, ap, ◌∙◌, inl, inr, ◌⊎◌, ⊎_elim, arith, eqb-true}
use Rattle.std.specs.Option.{option_or, is_some}
use Rattle.std.proofs.lemmas.Bool.{false≢true}
use Rattle.std.proofs.lemmas.Option.{none-some, same_Some}
use Rattle.ob_base.specs.declared.op.Op.{Op}
use Rattle.ob_base.specs.declared.op.Op.TheVariants.{Get, Put, Del}
use Rattle.ob_base.specs.declared.params.Params.{Params}
use Rattle.ob_order.specs.Works.{Work, is_going, at_ticket, goes_on, write_of, last_write, version_in, version, newest}
use Rattle.ob_order.specs.Order.{OrderState, count_below, is_written, is_other_written, other_keys}
use Rattle.ob_order.proofs.Newest.{by_option, newest_found}
use Rattle.ob_outcomes.specs.Lone.{writes_in}
use Rattle.ob_outcomes.proofs.Alone.{OnlyLast}

-- ---- how many numbers pass

none_below : (p : ℕ → Bool) (n : ℕ) → ((j : ℕ) → j < n → p j ≡ true → ⊥) → count_below p n ≡ 0
none_below p zero never = refl
none_below p (suc n) never = by (p n) refl (none_below p n (λ j l e. never j (omega (arith, l)) e))
  where
    by : (b : Bool) → p n ≡ b → count_below p n ≡ 0 → count_below p n + (if b then 1 else 0) ≡ 0
    by true is rest = absurd (never n (omega arith) is)
    by false is rest = omega (arith, rest)

-- where just one may pass
one_below : (p : ℕ → Bool) (k n : ℕ) → ((j : ℕ) → p j ≡ true → j ≡ k) → count_below p n ≤ 1
one_below p k zero only = omega arith
one_below p k (suc n) only = by (p n) refl (one_below p k n only)
  where
    by : (b : Bool) → p n ≡ b → count_below p n ≤ 1 → count_below p n + (if b then 1 else 0) ≤ 1
    by true is few =
        let here = only n is in
        let rest = none_below p n (λ j l e. let there = only j e in omega (arith, l, here, there)) in
        omega (arith, rest)
    by false is few = omega (arith, few)

-- no more pass than pass one of two tests
pub either_below : (r p q : ℕ → Bool) (n : ℕ) → ((j : ℕ) → r j ≡ true → (p j ≡ true) ⊎ (q j ≡ true)) → count_below r n ≤ count_below p n + count_below q n
either_below r p q zero each = omega arith
either_below r p q (suc n) each = let rest = either_below r p q n each in by (r n) (p n) (q n) (each n) rest
  where
    by : (a b c : Bool) → (a ≡ true → (b ≡ true) ⊎ (c ≡ true)) → count_below r n ≤ count_below p n + count_below q n
        → count_below r n + (if a then 1 else 0) ≤ (count_below p n + (if b then 1 else 0)) + (count_below q n + (if c then 1 else 0))
    by false b c f rest = omega (arith, rest)
    by true true c f rest = omega (arith, rest)
    by true false true f rest = omega (arith, rest)
    by true false false f rest = absurd (⊎_elim (λ e. false≢true e) (λ e. false≢true e) (f refl))

-- ---- the keys of writes

abbrev has_write : List (Op ℕ) → ℕ → Bool
has_write ops j = is_some (last_write ops j)

abbrev writes_key : Op ℕ → ℕ → Bool
writes_key op j = is_some (write_of op j)

one_of : (o : Op ℕ) (ops : List (Op ℕ)) (j : ℕ) → has_write (o ∷ ops) j ≡ true → (writes_key o j ≡ true) ⊎ (has_write ops j ≡ true)
one_of o ops j e = step (last_write ops j) (write_of o j) e
  where
    step : (a b : Option (Option (List ℕ))) → is_some (option_or a b) ≡ true → (is_some b ≡ true) ⊎ (is_some a ≡ true)
    step None b e = inl e
    step (Some x) b e = inr refl

key_of_if : (j k : ℕ) (v : Option (List ℕ)) → is_some (if j == k then Some v else None) ≡ true → j ≡ k
key_of_if j k v e = step (j == k) refl e
  where
    step : (b : Bool) → (j == k) ≡ b → is_some (if b then Some v else None) ≡ true → j ≡ k
    step true is e = eqb-true j k is
    step false is e = absurd (false≢true e)

keys_few : (ops : List (Op ℕ)) (n : ℕ) → count_below (has_write ops) n ≤ writes_in ops
keys_few [] n = let none = none_below (has_write []) n (λ j l e. false≢true e) in omega (arith, none)
keys_few (Get key reply source ∷ ops) n =
    let split = either_below (has_write (Get key reply source ∷ ops)) (writes_key (Get key reply source)) (has_write ops) n (one_of (Get key reply source) ops) in
    let none = none_below (writes_key (Get key reply source)) n (λ j l e. false≢true e) in
    let rest = keys_few ops n in
    omega (arith, split, none, rest)
keys_few (Put key value ∷ ops) n =
    let split = either_below (has_write (Put key value ∷ ops)) (writes_key (Put key value)) (has_write ops) n (one_of (Put key value) ops) in
    let one = one_below (writes_key (Put key value)) key n (λ j e. key_of_if j key (Some value) e) in
    let rest = keys_few ops n in
    omega (arith, split, one, rest)
keys_few (Del key ∷ ops) n =
    let split = either_below (has_write (Del key ∷ ops)) (writes_key (Del key)) (has_write ops) n (one_of (Del key) ops) in
    let one = one_below (writes_key (Del key)) key n (λ j e. key_of_if j key None e) in
    let rest = keys_few ops n in
    omega (arith, split, one, rest)

-- ---- where the last goes on alone

-- whose version it is
version_of : (ws : List Work) (u j : ℕ) (value : Option (List ℕ)) → version ws u j ≡ Some value → (w : Work) × (at_ticket ws u ≡ Some w) × (is_going w.fate ≡ true) × (last_write w.ops j ≡ Some value)
version_of ws u j value e = step (at_ticket ws u) refl e
  where
    going : (w : Work) (b : Bool) → is_going w.fate ≡ b → (if b then last_write w.ops j else None) ≡ Some value → (is_going w.fate ≡ true) × (last_write w.ops j ≡ Some value)
    going w true is e = (is, e)
    going w false is e = absurd (none-some value e)

    step : (o : Option Work) → at_ticket ws u ≡ o → option_and_then (λ w. version_in w j) o ≡ Some value → (w : Work) × (at_ticket ws u ≡ Some w) × (is_going w.fate ≡ true) × (last_write w.ops j ≡ Some value)
    step None is e = absurd (none-some value e)
    step (Some w) is e = let g = going w (is_going w.fate) refl e in (w, is, g.0, g.1)

last_writes_it : (ws : List Work) (t : ℕ) (w : Work) (j : ℕ) → OnlyLast ws → goes_on ws t ≡ true → at_ticket ws t ≡ Some w → is_written ws j ≡ true → has_write w.ops j ≡ true
last_writes_it ws t w j only going there written = by_option (newest ws (length ws) j)
    (λ none. absurd (false≢true (sym (ap is_some none) ∙ written)))
    (λ v is.
    let f = newest_found ws (length ws) j v is in
    let o = version_of ws v.source j v.value f.held in
    let goes : goes_on ws v.source ≡ true = ap (λ x. unwrap_or (option_map (λ y. is_going y.fate) x) false) o.1 ∙ o.2 in
    let its : v.source ≡ t = only.at_each v.source goes ∙ sym (only.at_each t going) in
    let same : o.0 ≡ w = same_Some o.0 w (sym o.1 ∙ (ap (at_ticket ws) its ∙ there)) in
    ap (λ (x : Work). is_some (last_write x.ops j)) (sym same) ∙ ap is_some o.3)

pub others_few : (p : Params) (o : OrderState) (t k : ℕ) (w : Work) → OnlyLast o.works → goes_on o.works t ≡ true → at_ticket o.works t ≡ Some w → other_keys p o k ≤ writes_in w.ops
others_few p o t k w only going there =
    let few = either_below (is_other_written o.works k) (has_write w.ops) (λ j. false) p.keys (λ j e. inl (last_writes_it o.works t w j only going there (second (not (j == k)) (is_written o.works j) e))) in
    let none = none_below (λ j. false) p.keys (λ j l e. false≢true e) in
    let rest = keys_few w.ops p.keys in
    omega (arith, few, none, rest)
  where
    second : (a b : Bool) → (a && b) ≡ true → b ≡ true
    second true b e = e
    second false b e = absurd (false≢true e)
