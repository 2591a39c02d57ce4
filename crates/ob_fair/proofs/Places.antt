-- What is wanting where a share is given: no place for a get but once no batch is left, and none for a write.
use Rattle.std.proofs.Common.{◌≡◌, ℕ, zero, suc, ◌+◌, ◌*◌, ◌<◌, ◌≤◌, Bool, true, false, cond, not, ◌&&◌, ◌||◌, ◌==◌, if◌then◌else◌, nat_lt, List, [], ◌∷◌}
use Rattle.std.proofs.Common.{◌++◌, map, length, Option, None, Some, option_map, option_and_then, unwrap_or, is_some, refl, sym, ap, ◌∙◌, subst, ⊎_elim, arith, eqb-true, eq-eqb, mul-suc, mul-zero}
use Rattle.std.specs.List.{list_any}
use Rattle.std.proofs.lemmas.Bool.{false≢true}
use Rattle.std.proofs.lemmas.List.{length-map}
use Rattle.ob_base.specs.declared.op.Op.{Op}
use Rattle.ob_base.specs.declared.params.Params.{Params}
use Rattle.ob_order.specs.Works.{Work, version, version_in, newest, write_of, with_op}
use Rattle.ob_order.specs.Order.{OrderState, fresh, answer, found, read_reply, write_reply, write_op, is_asked_for, count_below, is_written, is_other_written, other_keys, covered_mark}
use Rattle.ob_order.specs.declared.answers.Read.TheVariants.{Queued, Full as ReadsAreFull}
use Rattle.ob_order.specs.declared.answers.Wrote.TheVariants.{Yes, Conflict as Conflicts, Full as WritesAreFull}
use Rattle.ob_order.specs.declared.answers.Version.{Version}
use Rattle.ob_order.proofs.Edits.{slice_get-push}
use Rattle.ob_order.proofs.Newest.{Thinned, newest_lower, version-with_op}
use Rattle.ob_order.proofs.Counts.{other_written}
use Rattle.ob_shares.specs.declared.named.Named.{Named}
use Rattle.ob_shares.specs.Shares.{past, with_name}
use Rattle.ob_fair.proofs.Lists.{Each, has, Once, once_fits}
use Rattle.ob_fair.proofs.Names.{IsKnown, names_of, has_key, has_keys, names_bound, known_more, few_more, key_kept, key_here}

-- ---- gets

-- the names and the queue of clients that keep to a share of reads
pub record ReadsKept (most : ℕ) (clients : List ℕ) (names : List Named) (queue : List ℕ) : Type 0 where
  pub known : Each (IsKnown clients) names
  pub few : (c : ℕ) → length (names_of c names) ≤ most
  pub once : Once queue
  pub named : (k : ℕ) → has k queue ≡ true → has_key names k ≡ true

-- a key that is named before it is queued has its place in a batch
pub reads_room : (most c k places : ℕ) (clients : List ℕ) (names : List Named) (queue : List ℕ) → ReadsKept most clients names queue → list_any (λ j. c == j) clients ≡ true → past (Some most) names c k ≡ None
    → length clients * most ≤ places → has k queue ≡ false → length queue < places
reads_room most c k places clients names queue h here within fits none =
    let bound : length (with_name (Some most) names c k) ≤ length clients * most = names_bound most clients (with_name (Some most) names c k) (known_more clients most c k names here h.known) (few_more most c k names within h.few) in
    let all : length (k ∷ queue) ≤ length (map (λ (n : Named). n.key) (with_name (Some most) names c k)) = once_fits (k ∷ queue) (map (λ (n : Named). n.key) (with_name (Some most) names c k)) (none, h.once) (λ j e. has_keys (with_name (Some most) names c k) j ∙ member j (k == j) refl e) in
    let long = length-map (with_name (Some most) names c k) (λ (n : Named). n.key) in
    omega (arith, bound, all, long, fits)
  where
    member : (j : ℕ) (b : Bool) → (k == j) ≡ b → (b || has j queue) ≡ true → has_key (with_name (Some most) names c k) j ≡ true
    member j true same e = subst (λ q. has_key (with_name (Some most) names c k) q ≡ true) (eqb-true k j same) (key_here most c k names)
    member j false other e = key_kept most c k j names (h.named j e)

-- so none is wanting before the last batch is taken
pub last_batch : (long places left : ℕ) → long ≡ places * left → long < places → (long ≡ 0) × (left ≡ 0)
last_batch long places zero e l = (e ∙ mul-zero places, refl)
last_batch long places (suc left) e l = let more = mul-suc places left in absurd (omega (arith, e, l, more))

-- what a get that finds no place tells
pub read_full : (p : Params) (o : OrderState) (t k queued left : ℕ) → read_reply p o t k ≡ ReadsAreFull queued left
    → (has k o.queue ≡ false) × (length o.queue ≡ p.places * o.left) × (length o.queue ≡ queued) × (o.left ≡ left)
read_full p o t k queued left e = by_answer (answer o t k) e
  where
    tested : (a b c : Bool) → (not (a || b) && c) ≡ true → (a ≡ false) × (c ≡ true)
    tested true b c q = absurd (false≢true q)
    tested false true c q = absurd (false≢true q)
    tested false false c q = (refl, q)

    by_test : (b : Bool) → (not (is_asked_for o k) && (length o.queue == p.places * o.left)) ≡ b → (if b then ReadsAreFull (length o.queue) o.left else Queued) ≡ ReadsAreFull queued left
        → (has k o.queue ≡ false) × (length o.queue ≡ p.places * o.left) × (length o.queue ≡ queued) × (o.left ≡ left)
    by_test true is q =
        let two = tested (has k o.queue) (list_any (λ j. j == k) o.flying) (length o.queue == p.places * o.left) is in
        let same_queued : length o.queue ≡ queued = cc in
        let same_left : o.left ≡ left = cc in
        (two.0, eqb-true _ _ two.1, same_queued, same_left)
    by_test false is q = absurd (cc)

    by_answer : (a : Option Version) → unwrap_or (option_map found a) (if not (is_asked_for o k) && (length o.queue == p.places * o.left) then ReadsAreFull (length o.queue) o.left else Queued) ≡ ReadsAreFull queued left
        → (has k o.queue ≡ false) × (length o.queue ≡ p.places * o.left) × (length o.queue ≡ queued) × (o.left ≡ left)
    by_answer (Some v) q = absurd (cc)
    by_answer None q = by_test (not (is_asked_for o k) && (length o.queue == p.places * o.left)) refl q

-- ---- puts and dels

-- who wasn't named has no version
abbrev pub Unwritten : List Named → List Work → Type 0
Unwritten names ws = (u k : ℕ) → has_key names k ≡ false → version ws u k ≡ None

-- the names and the works of clients that keep to a share of writes
pub record WritesKept (most : ℕ) (clients : List ℕ) (names : List Named) (works : List Work) : Type 0 where
  pub known : Each (IsKnown clients) names
  pub few : (c : ℕ) → length (names_of c names) ≤ most
  pub unwritten : Unwritten names works

pub unwritten_op : (names : List Named) (ws : List Work) (t : ℕ) (o : Op ℕ) → Unwritten names ws → ((k : ℕ) → has_key names k ≡ false → write_of o k ≡ None) → Unwritten names (with_op ws t o)
unwritten_op names ws t o h none u k e = version-with_op ws t o k (none k e) u ∙ h u k e

pub unwritten_thinned : (names : List Named) (ws vs : List Work) → Unwritten names ws → Thinned ws vs → Unwritten names vs
unwritten_thinned names ws vs h thin u k e = ⊎_elim (λ same. same ∙ h u k e) (λ gone. gone.0) (thin.at_each u k)

pub unwritten_begun : (names : List Named) (ws : List Work) → Unwritten names ws → Unwritten names (ws ++ fresh ∷ [])
unwritten_begun names ws h zero k e = refl
unwritten_begun names ws h (suc u) k e = ⊎_elim
    (λ old. ap (option_and_then (λ w. version_in w k)) old ∙ h (suc u) k e)
    (λ last. ap (option_and_then (λ w. version_in w k)) last.2)
    (slice_get-push ws fresh u)

pub unwritten_named : (most c k : ℕ) (names : List Named) (ws : List Work) → Unwritten names ws → Unwritten (with_name (Some most) names c k) ws
unwritten_named most c k names ws h u j e = step (has_key names j) refl
  where
    step : (b : Bool) → has_key names j ≡ b → version ws u j ≡ None
    step true is = absurd (false≢true (sym e ∙ key_kept most c k j names is))
    step false is = h u j is

-- a key that was named now is written
pub unwritten_put : (most c k t : ℕ) (v : Option (List ℕ)) (names : List Named) (ws : List Work) → Unwritten names ws → Unwritten (with_name (Some most) names c k) (with_op ws t (write_op k v))
unwritten_put most c k t v names ws h = unwritten_op (with_name (Some most) names c k) ws t (write_op k v) (unwritten_named most c k names ws h)
    (λ j e. other_written k v j (λ same. absurd (false≢true (sym e ∙ subst (λ q. has_key (with_name (Some most) names c k) q ≡ true) (sym same) (key_here most c k names)))))

none_newest : (ws : List Work) (n k : ℕ) → ((u : ℕ) → version ws u k ≡ None) → newest ws n k ≡ None
none_newest ws zero k h = refl
none_newest ws (suc n) k h = newest_lower ws n k (h (suc n)) ∙ none_newest ws n k h

-- the numbers below n that pass
abbrev listed : (ℕ → Bool) → ℕ → List ℕ
listed f zero = []
listed f (suc n) = cond (f n) (n ∷ listed f n) (listed f n)

listed_count : (f : ℕ → Bool) (n : ℕ) → count_below f n ≡ length (listed f n)
listed_count f zero = refl
listed_count f (suc n) = step (f n) (listed_count f n)
  where
    step : (b : Bool) → count_below f n ≡ length (listed f n) → count_below f n + (if b then 1 else 0) ≡ length (cond b (n ∷ listed f n) (listed f n))
    step true e = omega (arith, e)
    step false e = omega (arith, e)

listed_has : (f : ℕ → Bool) (n k : ℕ) → has k (listed f n) ≡ true → (f k ≡ true) × (k < n)
listed_has f zero k e = absurd (false≢true e)
listed_has f (suc n) k e = step (f n) refl (listed_has f n k) e
  where
    further : (f k ≡ true) × (k < n) → (f k ≡ true) × (k < suc n)
    further two = let l = two.1 in (two.0, omega (arith, l))

    here : (b : Bool) → (n == k) ≡ b → f n ≡ true → (has k (listed f n) ≡ true → (f k ≡ true) × (k < n)) → (b || has k (listed f n)) ≡ true → (f k ≡ true) × (k < suc n)
    here true same is rest q = let e = eqb-true n k same in (subst (λ j. f j ≡ true) e is, omega (arith, e))
    here false other is rest q = further (rest q)

    step : (b : Bool) → f n ≡ b → (has k (listed f n) ≡ true → (f k ≡ true) × (k < n)) → has k (cond b (n ∷ listed f n) (listed f n)) ≡ true → (f k ≡ true) × (k < suc n)
    step true is rest q = here (n == k) refl is rest q
    step false is rest q = further (rest q)

listed_once : (f : ℕ → Bool) (n : ℕ) → Once (listed f n)
listed_once f zero = tt
listed_once f (suc n) = step (f n) (has n (listed f n)) refl (listed_once f n)
  where
    step : (b c : Bool) → has n (listed f n) ≡ c → Once (listed f n) → Once (cond b (n ∷ listed f n) (listed f n))
    step true true is rest = let low = (listed_has f n n is).1 in absurd (omega (arith, low))
    step true false is rest = (is, rest)
    step false c is rest = rest

other_is : (a b : Bool) → (not a && b) ≡ true → (a ≡ false) × (b ≡ true)
other_is true b e = absurd (false≢true e)
other_is false b e = (refl, e)

-- a key that is named before it is written has its place in the write batch
pub writes_room : (most c k keys places : ℕ) (clients : List ℕ) (names : List Named) (works : List Work) → WritesKept most clients names works → list_any (λ j. c == j) clients ≡ true → past (Some most) names c k ≡ None
    → length clients * most ≤ places → count_below (is_other_written works k) keys < places
writes_room most c k keys places clients names works h here within fits =
    let bound : length (with_name (Some most) names c k) ≤ length clients * most = names_bound most clients (with_name (Some most) names c k) (known_more clients most c k names here h.known) (few_more most c k names within h.few) in
    let all : length (k ∷ others) ≤ length (map (λ (n : Named). n.key) (with_name (Some most) names c k)) =
    once_fits (k ∷ others) (map (λ (n : Named). n.key) (with_name (Some most) names c k)) (not_mine (has k others) refl, listed_once (is_other_written works k) keys) (λ j e. has_keys (with_name (Some most) names c k) j ∙ member j (k == j) refl e) in
    let long = length-map (with_name (Some most) names c k) (λ (n : Named). n.key) in
    let many = listed_count (is_other_written works k) keys in
    omega (arith, bound, all, long, fits, many)
  where
    others : List ℕ
    others = listed (is_other_written works k) keys

    not_mine : (b : Bool) → has k others ≡ b → has k others ≡ false
    not_mine true is = absurd (false≢true (sym (other_is (k == k) (is_written works k) (listed_has (is_other_written works k) keys k is).0).0 ∙ eq-eqb k k refl))
    not_mine false is = is

    written : (j : ℕ) (b : Bool) → has_key names j ≡ b → is_written works j ≡ true → has_key names j ≡ true
    written j true is e = is
    written j false is e = absurd (false≢true (sym (ap is_some (none_newest works (length works) j (λ u. h.unwritten u j is))) ∙ e))

    member : (j : ℕ) (b : Bool) → (k == j) ≡ b → (b || has j others) ≡ true → has_key (with_name (Some most) names c k) j ≡ true
    member j true same e = subst (λ q. has_key (with_name (Some most) names c k) q ≡ true) (eqb-true k j same) (key_here most c k names)
    member j false other e = key_kept most c k j names (written j (has_key names j) refl (other_is (j == k) (is_written works j) (listed_has (is_other_written works k) keys j e).0).1)

-- what a write that finds no place tells
pub write_full : (p : Params) (o : OrderState) (t k keys : ℕ) → write_reply p o t k ≡ WritesAreFull keys → other_keys p o k ≡ p.writes
write_full p o t k keys e = step (nat_lt t (covered_mark o t k)) (other_keys p o k == p.writes) refl e
  where
    step : (a b : Bool) → (other_keys p o k == p.writes) ≡ b → (if a then Conflicts k (covered_mark o t k) else (if b then WritesAreFull p.writes else Yes)) ≡ WritesAreFull keys → other_keys p o k ≡ p.writes
    step true b is q = absurd (cc)
    step false true is q = eqb-true _ _ is
    step false false is q = absurd (cc)
