-- The keys in flight with the queued ones behind them.
use Rattle.std.proofs.Common.{◌≡◌, ℕ, zero, suc, ◌+◌, ◌-◌, ◌==◌, ◌<◌, ◌≤◌, min, Bool, true, false, ◌||◌, if◌then◌else◌, List, [], ◌∷◌, ◌++◌, length, map, take, drop, replicate, Option, Some, None, nat_cmp, refl, sym, ap, ap₂, ◌∙◌, arith}
use Rattle.std.specs.FinMap as finite
use Rattle.std.specs.List.{list_any}
use Rattle.std.proofs.Math.Bool.{or-false}
use Rattle.std.proofs.lemmas.List.{take-append-le, drop-append-le, drop-take, take-take, length-take-le, length-drop}
use Rattle.ob_order.specs.Order.{Params, OrderState, is_asked_for, asked, after_take, delivered, after_deliver}
use Rattle.ob_order.proofs.Batches.{take_least, drop_least, delivered_pads}
use Rattle.ob_queue.specs.Queues.{state_of, without_last}

or_swap : (a b c : Bool) → (a || (b || c)) ≡ (b || (a || c))
or_swap true true c = refl
or_swap true false c = refl
or_swap false b c = refl

-- a key is among all keys if it is among the queued ones or those in flight
any_parts : (n : ℕ) (ks : List ℕ) (k : ℕ) → list_any (λ j. j == k) ks ≡ (list_any (λ j. j == k) (drop n ks) || list_any (λ j. j == k) (take n ks))
any_parts zero [] k = refl
any_parts zero (x ∷ xs) k = sym (or-false (list_any (λ j. j == k) (x ∷ xs)))
any_parts (suc n) [] k = refl
any_parts (suc n) (x ∷ xs) k = ap (λ b. (x == k) || b) (any_parts n xs k) ∙ or_swap (x == k) (list_any (λ j. j == k) (drop n xs)) (list_any (λ j. j == k) (take n xs))

whole : (xs : List ℕ) → drop 0 xs ≡ xs
whole [] = refl
whole (x ∷ xs) = refl

-- a key that is asked for is so once
pub one_known : (o : OrderState) (k : ℕ) → is_asked_for o k ≡ true → o ≡ asked o k
one_known o k is = ap (λ b. if b then o else record o { queue = o.queue ++ k ∷ [] }) (sym is)

module _ (left n : ℕ) (ks : List ℕ) (bases : finite.FinMap nat_cmp (Option (List ℕ))) where
  pub is_among : (k : ℕ) → list_any (λ j. j == k) ks ≡ is_asked_for (state_of left n ks bases) k
  is_among k = any_parts n ks k

  pub one_asked : (k : ℕ) → is_asked_for (state_of left n ks bases) k ≡ false → n ≤ length ks → state_of left n (ks ++ k ∷ []) bases ≡ asked (state_of left n ks bases) k
  one_asked k is l =
      ap₂ (λ (queue flying : List ℕ). let o : OrderState = record { left = left; works = []; queue = queue; flying = flying; bases = bases } in o) (drop-append-le n ks (k ∷ []) l) (take-append-le n ks (k ∷ []) l)
      ∙ ap (λ b. if b then state_of left n ks bases else record (state_of left n ks bases) { queue = drop n ks ++ k ∷ [] }) (sym is)

  pub one_less : 0 < length (drop n ks) → state_of left n (take (length ks - 1) ks) bases ≡ without_last (state_of left n ks bases)
  one_less some =
      let l : n < length ks = let e = length-drop n ks in omega arith in
      let rest : length ks - 1 ≡ n + (length (drop n ks) - 1) = let e = length-drop n ks in omega arith in
      ap₂ (λ (queue flying : List ℕ). let o : OrderState = record { left = left; works = []; queue = queue; flying = flying; bases = bases } in o)
      (ap (λ m. drop n (take m ks)) rest ∙ drop-take n (length (drop n ks) - 1) ks)
      (take-take n (length ks - 1) ks (omega arith))

  pub one_taken : (p : Params) (m : ℕ) → n ≤ length ks → take n ks ≡ [] → m ≡ min p.places (length ks) → state_of (left - 1) m ks bases ≡ after_take p (state_of left n ks bases)
  one_taken p m l none few =
      let zeros : n ≡ 0 = sym (length-take-le n ks l) ∙ ap length none in
      let all : drop n ks ≡ ks = ap (λ (i : ℕ). drop i ks) zeros ∙ whole ks in
      ap₂ (λ (queue flying : List ℕ). let o : OrderState = record { left = left - 1; works = []; queue = queue; flying = flying; bases = bases } in o)
      (ap (λ i. drop i ks) few ∙ drop_least ks p.places ∙ ap (λ (xs : List ℕ). drop p.places xs) (sym all))
      (ap (λ i. take i ks) few ∙ take_least ks p.places ∙ ap (λ (xs : List ℕ). take p.places xs) (sym all))

  pub one_delivered : (pads : ℕ) (keys : List (Option ℕ)) (values : List (Option (List ℕ))) (kept : List ℕ) (given : finite.FinMap nat_cmp (Option (List ℕ)))
      → keys ≡ map Some (take n ks) ++ replicate pads None → kept ≡ drop n ks → given ≡ delivered bases (map Some (take n ks)) values
      → state_of left 0 kept given ≡ after_deliver (state_of left n ks bases) keys values
  one_delivered pads keys values kept given batch others is =
      ap₂ (λ (queue : List ℕ) (b : finite.FinMap nat_cmp (Option (List ℕ))). let o : OrderState = record { left = left; works = []; queue = queue; flying = []; bases = b } in o)
      (whole kept ∙ others)
      (is ∙ (sym (delivered_pads bases (take n ks) pads values) ∙ ap (λ (xs : List (Option ℕ)). delivered bases xs values) (sym batch)))
