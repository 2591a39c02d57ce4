-- How many keys have versions.
use Rattle.std.proofs.Common.{◌≡◌, ℕ, zero, suc, ◌+◌, ◌<◌, ◌≤◌, Bool, true, false, not, ◌&&◌, ◌==◌, if◌then◌else◌, List, [], ◌∷◌, ◌++◌, map, length, Option, None, Some, option_map, option_and_then, is_some, slice_get, refl, sym, ap, ◌∙◌, subst, ⊎_elim, arith, add-one, length-append, eq-eqb}
use Rattle.std.specs.List.{filter_map, range_with_len, cons_option}
use Rattle.std.proofs.lemmas.Bool.{cases_eq, false≢true, ne_eqb}
use Rattle.std.proofs.lemmas.Option.{none-some, same_Some}
use Rattle.ob_order.specs.Works.{Op, Get, Fate, Work, Version, Going, Ended, Fell, is_going, edit, wait_for, stop_work, version, version_in, newest, last_write, with_op, aborted, write_of, last_writes}
use Rattle.ob_order.specs.Order.{Params, OrderState, fresh, count_below, is_written, is_other_written, other_keys, write_op}
use Rattle.ob_order.proofs.Edits.{length-edit, slice_get-push}
use Rattle.ob_order.proofs.Newest.{Thinned, by_option, newest-same, newest_lower, newest_none_kept, version-with_op}
use Rattle.ob_order.proofs.Falls.{fallen_waits, fallen_aborted, thinned_from_fallen, length-aborted}

-- ---- counting

pub count_same : (p q : ℕ → Bool) (n : ℕ) → ((j : ℕ) → q j ≡ p j) → count_below q n ≡ count_below p n
count_same p q zero h = refl
count_same p q (suc n) h = ap (λ c. c + (if q n then 1 else 0)) (count_same p q n h) ∙ ap (λ b. count_below p n + (if b then 1 else 0)) (h n)

abbrev bit : Bool → ℕ
bit b = if b then 1 else 0

bit_less : (b c : Bool) → (b ≡ true → c ≡ true) → (if b then 1 else 0) ≤ (if c then 1 else 0)
bit_less true true h = omega arith
bit_less true false h = absurd (false≢true (h refl))
bit_less false true h = omega arith
bit_less false false h = omega arith

bit_most : (b : Bool) → (if b then 1 else 0) ≤ 1
bit_most true = omega arith
bit_most false = omega arith

pub count_fewer : (p q : ℕ → Bool) (n : ℕ) → ((j : ℕ) → q j ≡ true → p j ≡ true) → count_below q n ≤ count_below p n
count_fewer p q zero h = omega arith
count_fewer p q (suc n) h = let l = count_fewer p q n h in let b = bit_less (q n) (p n) (h n) in omega (arith, l, b)

pub count_rises : (p : ℕ → Bool) (m n : ℕ) → m ≤ n → count_below p m ≤ count_below p n
count_rises p m zero l = subst (λ k. count_below p k ≤ count_below p 0) (let e : 0 ≡ m = omega arith in e) (omega arith)
count_rises p m (suc n) l = ⊎_elim
    (λ same. subst (λ k. count_below p k ≤ count_below p (suc n)) (sym same) (omega arith))
    (λ other. let low = count_rises p m n (omega arith) in omega (arith, low))
    (cases_eq m (suc n))

-- where only k may pass besides
others_before : (p q : ℕ → Bool) (k n : ℕ) → n ≤ k → ((j : ℕ) → (j ≡ k → ⊥) → q j ≡ p j) → count_below q n ≡ count_below (λ j. not (j == k) && p j) n
others_before p q k zero l h = refl
others_before p q k (suc n) l h =
    let apart : n ≡ k → ⊥ = λ e. absurd (omega arith) in
    ap (λ c. c + (if q n then 1 else 0)) (others_before p q k n (omega arith) h)
    ∙ ap (λ b. count_below (λ j. not (j == k) && p j) n + (if b then 1 else 0)) (h n apart ∙ sym (ap (λ b. not b && p n) (ne_eqb n k apart)))

pub one_more : (p q : ℕ → Bool) (k n : ℕ) → ((j : ℕ) → (j ≡ k → ⊥) → q j ≡ p j) → count_below q n ≤ count_below (λ j. not (j == k) && p j) n + 1
one_more p q k zero h = omega arith
one_more p q k (suc n) h = ⊎_elim
    (λ same.
    let before = others_before p q k n (omega arith) h in
    let most = bit_most (q n) in
    omega (arith, before, most))
    (λ other.
    let low = one_more p q k n h in
    let alike : bit (q n) ≡ bit (not (n == k) && p n) = ap bit (h n other ∙ sym (ap (λ b. not b && p n) (ne_eqb n k other))) in
    omega (arith, low, alike))
    (cases_eq n k)

-- ---- the keys with versions

-- they are the same where the versions are
pub written_same : (ws vs : List Work) (n : ℕ) → ((j : ℕ) → newest vs (length vs) j ≡ newest ws (length ws) j) → count_below (is_written vs) n ≡ count_below (is_written ws) n
written_same ws vs n h = count_same (is_written ws) (is_written vs) n (λ j. ap is_some (h j))

some_kept : (a b : Option Version) → (a ≡ None → b ≡ None) → is_some b ≡ true → is_some a ≡ true
some_kept None b h e = absurd (false≢true (sym (ap is_some (h refl)) ∙ e))
some_kept (Some v) b h e = refl

-- and fewer where some transactions were aborted
pub written_thinned : (ws vs : List Work) (n : ℕ) → Thinned ws vs → length vs ≡ length ws → count_below (is_written vs) n ≤ count_below (is_written ws) n
written_thinned ws vs n h len = count_fewer (is_written ws) (is_written vs) n (λ j.
    some_kept (newest ws (length ws) j) (newest vs (length vs) j) (λ none. ap (λ t. newest vs t j) len ∙ newest_none_kept ws vs (length ws) j h none))

pub written_aborted : (ws : List Work) (t n : ℕ) → count_below (is_written (aborted ws t)) n ≤ count_below (is_written ws) n
written_aborted ws t n = written_thinned ws (aborted ws t) n (thinned_from_fallen ws (aborted ws t) (fallen_aborted ws t)) (length-aborted ws t)

pub written_waits : (ws : List Work) (t k n : ℕ) → count_below (is_written (edit (wait_for k) ws t)) n ≤ count_below (is_written ws) n
written_waits ws t k n = written_thinned ws (edit (wait_for k) ws t) n (thinned_from_fallen ws (edit (wait_for k) ws t) (fallen_waits ws t k)) (length-edit (wait_for k) ws t)

-- a Get changes none
pub written_got : (ws : List Work) (t k : ℕ) (r : Option (List ℕ)) (s n : ℕ) → count_below (is_written (with_op ws t (Get k r s))) n ≡ count_below (is_written ws) n
written_got ws t k r s n = written_same ws (with_op ws t (Get k r s)) n (λ j.
    ap (λ q. newest (with_op ws t (Get k r s)) q j) (length-edit _ ws t)
    ∙ newest-same (with_op ws t (Get k r s)) ws (length ws) j (λ u l. version-with_op ws t (Get k r s) j refl u))

pub written_begun : (ws : List Work) (n : ℕ) → count_below (is_written (ws ++ fresh ∷ [])) n ≡ count_below (is_written ws) n
written_begun ws n = written_same ws (ws ++ fresh ∷ []) n (λ j.
    ap (λ q. newest (ws ++ fresh ∷ []) q j) (length-append ws (fresh ∷ []) ∙ add-one (length ws))
    ∙ (newest_lower (ws ++ fresh ∷ []) (length ws) j (fresh_last j)
    ∙ newest-same (ws ++ fresh ∷ []) ws (length ws) j (λ u l. earlier j u l)))
  where
    fresh_last : (j : ℕ) → version (ws ++ fresh ∷ []) (suc (length ws)) j ≡ None
    fresh_last j = ⊎_elim
        (λ old. ap (option_and_then (λ w. version_in w j)) old ∙ past ws)
        (λ last. ap (option_and_then (λ w. version_in w j)) last.2)
        (slice_get-push ws fresh (length ws))
      where
        past : (vs : List Work) → option_and_then (λ w. version_in w j) (slice_get vs (length vs)) ≡ None
        past [] = refl
        past (v ∷ vs) = past vs

    earlier : (j u : ℕ) → u ≤ length ws → version (ws ++ fresh ∷ []) u j ≡ version ws u j
    earlier j zero l = refl
    earlier j (suc u) l = ⊎_elim
        (λ old. ap (option_and_then (λ w. version_in w j)) old)
        (λ last. absurd (let e : u ≡ length ws = last.0 in omega arith))
        (slice_get-push ws fresh u)

-- what one write writes
pub other_written : (k : ℕ) (v : Option (List ℕ)) (j : ℕ) → (j ≡ k → ⊥) → write_of (write_op k v) j ≡ None
other_written k None j h = ap (λ b. if b then Some None else None) (ne_eqb j k h)
other_written k (Some v) j h = ap (λ b. if b then Some (Some v) else None) (ne_eqb j k h)

pub own_written : (k : ℕ) (v : Option (List ℕ)) → write_of (write_op k v) k ≡ Some v
own_written k None = ap (λ b. if b then Some None else None) (eq-eqb k k refl)
own_written k (Some v) = ap (λ b. if b then Some (Some v) else None) (eq-eqb k k refl)

-- a write adds its key at most
pub written_wrote : (p : Params) (o : OrderState) (t k : ℕ) (v : Option (List ℕ)) → count_below (is_written o.works) p.keys ≤ p.writes → (other_keys p o k ≡ p.writes → ⊥)
    → count_below (is_written (with_op o.works t (write_op k v))) p.keys ≤ p.writes
written_wrote p o t k v few room =
    let ws = o.works in
    let vs = with_op ws t (write_op k v) in
    let more = one_more (is_written ws) (is_written vs) k p.keys (λ j other. ap is_some (
    ap (λ q. newest vs q j) (length-edit _ ws t)
    ∙ newest-same vs ws (length ws) j (λ u l. version-with_op ws t (write_op k v) j (other_written k v j other) u))) in
    let less = count_fewer (is_written ws) (is_other_written ws k) p.keys (λ j. second (not (j == k)) (is_written ws j)) in
    ⊎_elim (λ same. absurd (room same)) (λ other. omega (arith, more, less, few, other)) (cases_eq (other_keys p o k) p.writes)
  where
    second : (a b : Bool) → (a && b) ≡ true → b ≡ true
    second true b e = e
    second false b e = absurd (false≢true e)

pub written_none : (n : ℕ) → count_below (is_written []) n ≡ 0
written_none zero = refl
written_none (suc n) = let none = written_none n in omega (arith, none)

-- ---- a stop

stopped : (w : Work) → is_going (stop_work w).fate ≡ false
stopped w = step w.fate
  where
    step : (f : Fate) → is_going (if is_going f then Ended else f) ≡ false
    step Going = refl
    step Ended = refl
    step (Fell on) = refl

-- nothing that was stopped goes on
pub stopped_at : (ws : List Work) (u : ℕ) (w : Work) → slice_get (map stop_work ws) u ≡ Some w → is_going w.fate ≡ false
stopped_at [] u w e = absurd (none-some w e)
stopped_at (v ∷ ws) zero w e = ap (λ x. is_going x.fate) (sym (same_Some _ w e)) ∙ stopped v
stopped_at (v ∷ ws) (suc u) w e = stopped_at ws u w e

-- nor has a version
pub none_stopped : (ws : List Work) (u k : ℕ) → version (map stop_work ws) u k ≡ None
none_stopped ws zero k = refl
none_stopped ws (suc u) k = by_option (slice_get (map stop_work ws) u)
    (λ none. ap (option_and_then (λ w. version_in w k)) none)
    (λ w is. ap (option_and_then (λ w. version_in w k)) is ∙ by_fate (is_going w.fate) k w.ops (stopped_at ws u w is))
  where
    by_fate : (b : Bool) (k : ℕ) (ops : List (Op ℕ)) → b ≡ false → (if b then last_write ops k else None) ≡ None
    by_fate true k ops e = absurd (false≢true (sym e))
    by_fate false k ops e = refl

pub written_stopped : (ws : List Work) (n : ℕ) → count_below (is_written (map stop_work ws)) n ≡ 0
written_stopped ws n = count_same (λ j. false) (is_written (map stop_work ws)) n (λ j. ap is_some (none (length (map stop_work ws)) j)) ∙ zeros n
  where
    none : (u j : ℕ) → newest (map stop_work ws) u j ≡ None
    none zero j = refl
    none (suc u) j = newest_lower (map stop_work ws) u j (none_stopped ws (suc u) j) ∙ none u j

    zeros : (n : ℕ) → count_below (λ j. false) n ≡ 0
    zeros zero = refl
    zeros (suc n) = let none = zeros n in omega (arith, none)

-- ---- the write batch

-- there is room for one more of the keys with versions
pub room_for : (p : Params) (ws : List Work) (k room : ℕ) → count_below (is_written ws) p.keys ≤ p.writes → k < p.keys → p.writes ≤ room → is_written ws k ≡ true → count_below (is_written ws) k < room
room_for p ws k room few l fits is =
    let rises = count_rises (is_written ws) (suc k) p.keys (omega arith) in
    let here : bit (is_written ws k) ≡ 1 = ap bit is in
    omega (arith, rises, here)

-- one key more is looked at
pub last_writes_more : (ws : List Work) (k : ℕ) → last_writes (k + 1) ws ≡ last_writes k ws ++ cons_option (option_map (λ v. (k, v.value)) (newest ws (length ws) k)) []
last_writes_more ws k = ap (λ n. last_writes n ws) (add-one k) ∙ (from 0 k ∙ ap (λ j. last_writes k ws ++ cons_option (f j) []) (let e : 0 + k ≡ k = omega arith in e))
  where
    f : ℕ → Option (ℕ × Option (List ℕ))
    f j = option_map (λ v. (j, v.value)) (newest ws (length ws) j)

    front : (o : Option (ℕ × Option (List ℕ))) (xs ys : List (ℕ × Option (List ℕ))) → cons_option o (xs ++ ys) ≡ cons_option o xs ++ ys
    front None xs ys = refl
    front (Some x) xs ys = refl

    from : (a n : ℕ) → filter_map f (range_with_len a (suc n)) ≡ filter_map f (range_with_len a n) ++ cons_option (f (a + n)) []
    from a zero = ap (λ j. cons_option (f j) []) (let e : a ≡ a + 0 = omega arith in e)
    from a (suc n) = ap (cons_option (f a)) (from (a + 1) n) ∙ (front (f a) (filter_map f (range_with_len (a + 1) n)) _
        ∙ ap (λ j. cons_option (f a) (filter_map f (range_with_len (a + 1) n)) ++ cons_option (f j) []) (let e : a + 1 + n ≡ a + suc n = omega arith in e))
