-- How one-by-one runs go on.
use Rattle.std.proofs.Common.{◌≡◌, ℕ, List, [], ◌∷◌, ◌++◌, Option, Some, refl, sym, ap, subst, ◌∙◌, take, drop, zero, suc}
use Rattle.std.specs.Prelude.{slice_get, filter, flat_map, map, length, ◌+◌, ◌<◌, Bool, true, false, MatchBool}
use Rattle.std.proofs.Common.{get_or}
use Rattle.std.proofs.lemmas.Grind.{flat_map-append}
use Rattle.std.proofs.lemmas.List.{take_more, map-append, append-nil}
use Rattle.std.proofs.lemmas.List.{take-append-drop}
use Rattle.std.proofs.lemmas.List.Elements.{filter-append}
use Rattle.std.specs.declared.cmp.Ordering.{Ordering}
use Rattle.std.specs.FinMap.{get}
use Rattle.ob_base.specs.declared.op.Op.{Op}
use Rattle.ob_base.specs.declared.op.Op.TheVariants.{Get, Put, Del}
use Rattle.ob_serial.specs.Serial.{TxnRecord, Map, OneByOne, Replays, OpReplays, after_ops, after_op, is_committed}

module _ {K : Type 0} (cmp : K → K → Ordering) where
  pub one_last : (m : Map cmp) (ts : List (TxnRecord K)) (a b : Map cmp) → OneByOne cmp m ts a → OneByOne cmp m ts b → a ≡ b
  one_last m [] a b x y = sym x ∙ y
  one_last m (t ∷ ts) a b x y = one_last (after_ops cmp m t.ops) ts a b x.1 y.1

  pub goes_on : (m : Map cmp) (ts us : List (TxnRecord K)) (a b : Map cmp) → OneByOne cmp m ts a → OneByOne cmp a us b → OneByOne cmp m (ts ++ us) b
  goes_on m [] us a b x y = subst (λ (n : Map cmp). OneByOne cmp n us b) (sym x) y
  goes_on m (t ∷ ts) us a b x y = (x.0, goes_on (after_ops cmp m t.ops) ts us a b x.1 y)

  -- a run of two lists stops somewhere between them
  pub splits : (m : Map cmp) (ts us : List (TxnRecord K)) (b : Map cmp) → OneByOne cmp m (ts ++ us) b → (a : Map cmp) × OneByOne cmp m ts a × OneByOne cmp a us b
  splits m [] us b x = (m, refl, x)
  splits m (t ∷ ts) us b x = let rest = splits (after_ops cmp m t.ops) ts us b x.1 in (rest.0, (x.0, rest.1), rest.2)

  pub after-append : (m : Map cmp) (xs ys : List (Op K)) → after_ops cmp m (xs ++ ys) ≡ after_ops cmp (after_ops cmp m xs) ys
  after-append m [] ys = refl
  after-append m (x ∷ xs) ys = after-append (after_op cmp m x) xs ys

  pub replays_append : (m : Map cmp) (xs ys : List (Op K)) → Replays cmp m xs → Replays cmp (after_ops cmp m xs) ys → Replays cmp m (xs ++ ys)
  replays_append m [] ys r s = s
  replays_append m (x ∷ xs) ys r s = (r.0, replays_append (after_op cmp m x) xs ys r.1 s)

  pub replays_split : (m : Map cmp) (xs ys : List (Op K)) → Replays cmp m (xs ++ ys) → Replays cmp m xs × Replays cmp (after_ops cmp m xs) ys
  replays_split m [] ys r = (tt, r)
  replays_split m (x ∷ xs) ys r = let rest = replays_split (after_op cmp m x) xs ys r.1 in ((r.0, rest.0), rest.1)

  -- one operation more
  pub op_more : (m v w : Map cmp) (xs : List (Op K)) (op : Op K) → Replays cmp m xs → v ≡ after_ops cmp m xs → OpReplays cmp v op → w ≡ after_op cmp v op
      → Replays cmp m (xs ++ op ∷ []) × (w ≡ after_ops cmp m (xs ++ op ∷ []))
  op_more m v w xs op r at one next = (
    replays_append m xs (op ∷ []) r (subst (λ (n : Map cmp). OpReplays cmp n op) at one, tt),
    next ∙ ap (λ (n : Map cmp). after_op cmp n op) at ∙ sym (after-append m xs (op ∷ [])),
  )

  -- an operation that finds another reply stops the run
  pub op_stops : (m v : Map cmp) (xs ys : List (Op K)) (op : Op K) → v ≡ after_ops cmp m xs → (OpReplays cmp v op → ⊥) → Replays cmp m ((xs ++ op ∷ []) ++ ys) → ⊥
  op_stops m v xs ys op at no_reply r =
      let front = (replays_split m (xs ++ op ∷ []) ys r).0 in
      no_reply (subst (λ (n : Map cmp). OpReplays cmp n op) (sym at) (replays_split m xs (op ∷ []) front).1.0)

-- whether each get finds its reply by its place
abbrev pub Finds : {K : Type 0} (cmp : K → K → Ordering) → Map cmp → List (Op K) → Type 0
Finds {K = K} cmp m ops = (i : ℕ) (key : K) (reply : Option (List ℕ)) (source : ℕ) → slice_get ops i ≡ Some (Get key reply source) → get (after_ops cmp m (take i ops)) key ≡ reply

op_of : {K : Type 0} (cmp : K → K → Ordering) (m : Map cmp) (x : Op K) (key : K) (reply : Option (List ℕ)) (source : ℕ) → OpReplays cmp m x → x ≡ Get key reply source → get m key ≡ reply
op_of cmp m x key reply source r e = subst (λ (o : Op _). OpReplays cmp m o) e r

pub by_place : {K : Type 0} (cmp : K → K → Ordering) (m : Map cmp) (ops : List (Op K)) → Replays cmp m ops → Finds cmp m ops
by_place cmp m [] r i key reply source e = absurd cc
by_place cmp m (x ∷ xs) r zero key reply source e = op_of cmp m x key reply source r.0 cc
by_place cmp m (x ∷ xs) r (suc i) key reply source e = by_place cmp (after_op cmp m x) xs r.1 i key reply source e

one_of : {K : Type 0} (cmp : K → K → Ordering) (m : Map cmp) (x : Op K) (xs : List (Op K)) → Finds cmp m (x ∷ xs) → OpReplays cmp m x
one_of cmp m (Get key reply source) xs f = f 0 key reply source refl
one_of cmp m (Put key value) xs f = tt
one_of cmp m (Del key) xs f = tt

pub from_places : {K : Type 0} (cmp : K → K → Ordering) (m : Map cmp) (ops : List (Op K)) → Finds cmp m ops → Replays cmp m ops
from_places cmp m [] f = tt
from_places cmp m (x ∷ xs) f = (one_of cmp m x xs f, from_places cmp (after_op cmp m x) xs (λ i key reply source e. f (suc i) key reply source e))

-- The operations up to one, and those behind it, are all.
pub rejoined : {A : Type 0} (xs : List A) (i : ℕ) (front : List A) → take (i + 1) xs ≡ front → front ++ drop (i + 1) xs ≡ xs
rejoined xs i front e = ap (λ (f : List _). f ++ drop (i + 1) xs) (sym e) ∙ take-append-drop (i + 1) xs

module _ {K : Type 0} (cmp : K → K → Ordering) where
  -- the run with some transactions more, of which the committed ones count
  pub txns_more : (m v w : Map cmp) (xs ys : List (TxnRecord K)) → OneByOne cmp m (filter (λ t. is_committed t) xs) v → OneByOne cmp v (filter (λ t. is_committed t) ys) w
      → OneByOne cmp m (filter (λ t. is_committed t) (xs ++ ys)) w
  txns_more m v w xs ys x y = rw (filter-append (λ (t : TxnRecord K). is_committed t) xs ys) (goes_on cmp m _ _ v w x y)

  -- where some of them can't run, neither can all
  pub txns_stop : (m v : Map cmp) (xs ys zs : List (TxnRecord K)) → OneByOne cmp m (filter (λ t. is_committed t) xs) v
      → ((last : Map cmp) → OneByOne cmp v (filter (λ t. is_committed t) ys) last → ⊥)
      → (last : Map cmp) → OneByOne cmp m (filter (λ t. is_committed t) ((xs ++ ys) ++ zs)) last → ⊥
  txns_stop m v xs ys zs x stuck last run =
      let all = rw (filter-append (λ (t : TxnRecord K). is_committed t) (xs ++ ys) zs, filter-append (λ (t : TxnRecord K). is_committed t) xs ys) at run in
      let front = splits cmp m (filter (λ t. is_committed t) xs ++ filter (λ t. is_committed t) ys) _ last all in
      let both = splits cmp m (filter (λ t. is_committed t) xs) (filter (λ t. is_committed t) ys) front.0 front.1 in
      stuck front.0 (subst (λ (n : Map cmp). OneByOne cmp n (filter (λ t. is_committed t) ys) front.0) (one_last cmp m _ both.0 v both.1 x) both.2)

-- a test's fact with one more at true
pub and_more : (b : Bool) (P Q R : Type 0) → MatchBool b P Q → R → MatchBool b (P × R) Q
and_more true P Q R m r = (m, r)
and_more false P Q R m r = m

-- the first items with the next one
pub next_item : {A B : Type 0} (f : A → B) (xs : List A) (i : ℕ) (x : A) → i < length xs → x ≡ get_or xs i x → map f (take (i + 1) xs) ≡ map f (take i xs) ++ f x ∷ []
next_item f xs i x lt is = ap (λ (l : List _). map f l) (take_more xs i x lt ∙ ap (λ y. take i xs ++ y ∷ []) (sym is)) ∙ map-append f (take i xs) (x ∷ [])

-- the first of the transactions of parts with the next part's
pub next_part : {A B C : Type 0} (f : A → B) (g : B → List C) (xs : List A) (i : ℕ) (x : A) → i < length xs → x ≡ get_or xs i x
    → flat_map g (map f (take (i + 1) xs)) ≡ flat_map g (map f (take i xs)) ++ g (f x)
next_part f g xs i x lt is = ap (λ (l : List _). flat_map g l) (next_item f xs i x lt is) ∙ flat_map-append g (map f (take i xs)) (f x ∷ [])
    ∙ ap (λ (l : List _). flat_map g (map f (take i xs)) ++ l) (append-nil (g (f x)))

pub all_items : {A B : Type 0} (f : A → B) (xs : List A) (i : ℕ) (front : List B) → map f (take (i + 1) xs) ≡ front → front ++ map f (drop (i + 1) xs) ≡ map f xs
all_items f xs i front e = ap (λ (l : List _). l ++ map f (drop (i + 1) xs)) (sym e) ∙ sym (map-append f (take (i + 1) xs) (drop (i + 1) xs)) ∙ ap (λ (l : List _). map f l) (take-append-drop (i + 1) xs)

pub all_parts : {A B C : Type 0} (f : A → B) (g : B → List C) (xs : List A) (i : ℕ) (front : List C) → flat_map g (map f (take (i + 1) xs)) ≡ front
    → front ++ flat_map g (map f (drop (i + 1) xs)) ≡ flat_map g (map f xs)
all_parts f g xs i front e = ap (λ (l : List _). l ++ flat_map g (map f (drop (i + 1) xs))) (sym e)
    ∙ sym (flat_map-append g (map f (take (i + 1) xs)) (map f (drop (i + 1) xs)))
    ∙ ap (λ (l : List _). flat_map g l) (all_items f xs i (map f (take (i + 1) xs)) refl)
