-- Batches, place by place.
use Rattle.std.proofs.Common.{◌≡◌, ℕ, zero, suc, ◌+◌, ◌-◌, ◌<◌, ◌≤◌, min, List, [], ◌∷◌, ◌++◌, map, take, drop, replicate, get_or, length, Option, None, Some, slice_get, refl, sym, ap, ap₂, ◌∙◌, ⊎_elim, arith, nat_cmp, add-one}
use Rattle.std.specs.FinMap as finite
use Rattle.std.proofs.lemmas.Bool.{cases_lt}
use Rattle.std.proofs.lemmas.List.{take_more, take_all, take_min, map-append, append-nil}
use Rattle.std.proofs.lemmas.Option.{slice_get_read, slice_get_past}
use Rattle.std.proofs.Common.{drop_of_length-le}
use Rattle.std.proofs.Math.Seq.{take-append_seam}
use Rattle.std.proofs.lemmas.List.{length-take}
use Rattle.ob_order.specs.Order.{Params, OrderState, places_of, batch_of, batch_in_flight, after_take, delivered}
use Rattle.ob_order.proofs.Steps.{item}

replicate_more : {A : Type 0} (x : A) (n : ℕ) → replicate (suc n) x ≡ replicate n x ++ x ∷ []
replicate_more x zero = refl
replicate_more x (suc n) = ap (λ ys. x ∷ ys) (replicate_more x n)

assoc : {A : Type 0} (xs ys zs : List A) → (xs ++ ys) ++ zs ≡ xs ++ (ys ++ zs)
assoc [] ys zs = refl
assoc (x ∷ xs) ys zs = ap (λ l. x ∷ l) (assoc xs ys zs)

-- one place more has the next key, if there is one
pub places_more : (queue : List ℕ) (i : ℕ) → places_of (i + 1) queue ≡ places_of i queue ++ slice_get queue i ∷ []
places_more queue i = ⊎_elim
    (λ l.
    let it = item queue i l in
    let none : i - length queue ≡ 0 = omega arith in
    let none_more : i + 1 - length queue ≡ 0 = omega arith in
    ap₂ (λ (xs : List ℕ) (n : ℕ). map Some xs ++ replicate n None) (take_more queue i it.0 l) none_more
    ∙ (append-nil (map Some (take i queue ++ get_or queue i it.0 ∷ []))
    ∙ (map-append Some (take i queue) (get_or queue i it.0 ∷ [])
    ∙ ap₂ (λ (xs : List (Option ℕ)) (o : Option ℕ). xs ++ o ∷ [])
    (sym (append-nil (map Some (take i queue))) ∙ ap (λ n. map Some (take i queue) ++ replicate n None) (sym none))
    (ap Some (sym it.1) ∙ sym (slice_get_read queue (length queue) i it.0 refl l it.1)))))
    (λ past.
    let more : i + 1 - length queue ≡ suc (i - length queue) = omega arith in
    ap₂ (λ (xs : List ℕ) (n : ℕ). map Some xs ++ replicate n None) (take_all (i + 1) queue (omega arith) ∙ sym (take_all i queue past)) more
    ∙ (ap (λ (xs : List (Option ℕ)). map Some (take i queue) ++ xs) (replicate_more None (i - length queue))
    ∙ (sym (assoc (map Some (take i queue)) (replicate (i - length queue) None) (None ∷ []))
    ∙ ap (λ (o : Option ℕ). places_of i queue ++ o ∷ []) (sym (slice_get_past queue i past)))))
    (cases_lt i (length queue))

pub take_least : {A : Type 0} (xs : List A) (n : ℕ) → take (min n (length xs)) xs ≡ take n xs
take_least xs n = take_min n xs

pub drop_least : {A : Type 0} (xs : List A) (n : ℕ) → drop (min n (length xs)) xs ≡ drop n xs
drop_least [] zero = refl
drop_least [] (suc n) = drop_of_length-le [] (omega arith)
drop_least (x ∷ xs) zero = ap (λ k. drop k (x ∷ xs)) (none (length (x ∷ xs)))
  where
    none : (b : ℕ) → min 0 b ≡ 0
    none b = omega arith
drop_least (x ∷ xs) (suc n) = ap (λ k. drop k (x ∷ xs)) (least n (length xs)) ∙ drop_least xs n
  where
    least : (a b : ℕ) → min (suc a) (suc b) ≡ suc (min a b)
    least a b = omega arith

-- the front of a list that was turned round
pub rotated : {A : Type 0} (xs ys : List A) (n : ℕ) → n ≡ length xs → take n (xs ++ ys) ≡ xs
rotated xs ys n e = ap (λ k. take k (xs ++ ys)) e ∙ take-append_seam xs ys

-- an item within the list, whatever is read past its end
pub item_any : {A : Type 0} (xs : List A) (i : ℕ) (a b : A) → i < length xs → get_or xs i a ≡ get_or xs i b
item_any [] i a b l = absurd (omega arith)
item_any (x ∷ xs) zero a b l = refl
item_any (x ∷ xs) (suc i) a b l = item_any xs i a b (omega arith)

-- one key more is delivered
pub delivered_more : (b : finite.FinMap nat_cmp (Option (List ℕ))) (keys : List ℕ) (values : List (Option (List ℕ))) (i k : ℕ) (v : Option (List ℕ))
    → i < length keys → length keys ≤ length values → k ≡ get_or keys i k → v ≡ get_or values i v
    → delivered b (map Some (take (i + 1) keys)) values ≡ finite.insert (delivered b (map Some (take i keys)) values) k v
delivered_more b keys values i k v l few at_key at_value = ap (λ n. delivered b (map Some (take n keys)) values) (add-one i) ∙ next b keys values i l few at_key at_value
  where
    next : (b : finite.FinMap nat_cmp (Option (List ℕ))) (keys : List ℕ) (values : List (Option (List ℕ))) (i : ℕ)
        → i < length keys → length keys ≤ length values → k ≡ get_or keys i k → v ≡ get_or values i v
        → delivered b (map Some (take (suc i) keys)) values ≡ finite.insert (delivered b (map Some (take i keys)) values) k v
    next b [] values i l few at_key at_value = absurd (omega arith)
    next b (x ∷ xs) [] i l few at_key at_value = absurd (omega arith)
    next b (x ∷ xs) (y ∷ ys) zero l few at_key at_value = ap₂ (λ (j : ℕ) (w : Option (List ℕ)). finite.insert b j w) (sym at_key) (sym at_value)
    next b (x ∷ xs) (y ∷ ys) (suc i) l few at_key at_value = next (finite.insert b x y) xs ys i (omega arith) (omega arith) at_key at_value

-- pads deliver nothing
pub delivered_pads : (b : finite.FinMap nat_cmp (Option (List ℕ))) (keys : List ℕ) (n : ℕ) (values : List (Option (List ℕ))) → delivered b (map Some keys ++ replicate n None) values ≡ delivered b (map Some keys) values
delivered_pads b [] zero values = refl
delivered_pads b [] (suc n) [] = refl
delivered_pads b [] (suc n) (v ∷ values) = delivered_pads b [] n values
delivered_pads b (k ∷ keys) n [] = refl
delivered_pads b (k ∷ keys) n (v ∷ values) = delivered_pads (finite.insert b k v) keys n values

-- the batch that was taken is the one in flight
pub taken_in_flight : (p : Params) (o : OrderState) → batch_of p o ≡ batch_in_flight p (after_take p o)
taken_in_flight p o = ap (λ n. map Some (take p.places o.queue) ++ replicate n None) (let few = length-take p.places o.queue in omega (arith, few))

pub none_of_length : (xs : List ℕ) → length xs ≡ 0 → xs ≡ []
none_of_length [] e = refl
none_of_length (x ∷ xs) e = absurd (omega arith)
