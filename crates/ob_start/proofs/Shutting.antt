-- Gates as far as they are written closed.
use Rattle.std.proofs.Common.{◌≡◌, ⊎_elim, inl, ℕ, zero, suc, ◌+◌, ◌<◌, ◌≤◌, List, [], ◌∷◌, ◌++◌, length, get_or, take, refl, sym, ◌∙◌, ap, subst, arith, below_more, Option, Ok}
use Rattle.std.proofs.lemmas.Bool.{cases_eq}
use Rattle.std.proofs.lemmas.List.{take_more}
use Rattle.ob_store.specs.declared.event.Event.{Event}
use Rattle.ob_store.specs.declared.watch.Note.{Note}
use Rattle.ob_store.specs.declared.watch.Note.TheVariants.{Write}
use Rattle.ob_store.specs.Disk.{Disk}
use Rattle.ob_store.specs.Images.{Elapses, Passes, SameBut, Tears}
use Rattle.ob_store.specs.Calls.{GoesOn, Serves, IsFailed}
use Rattle.ob_store.specs.Lines.{Trace}
use Rattle.ob_store.specs.Told.{Tells, TellsFirst}
use Rattle.ob_store.proofs.Moments.{passed_none}
use Rattle.ob_store.proofs.Serving.{goes_same, goes_then}
use Rattle.ob_store.proofs.Doing.{tells_then}
use Rattle.ob_twin.specs.Bodies.{closed_gate}
use Rattle.ob_start.specs.Clear.{IsKeptOrShut}
use Rattle.ob_start.specs.Laying.{SameHead, SameButThese}
use Rattle.ob_start.proofs.InClear.{kept_one}
use Rattle.ob_start.specs.Orders.{writes_of}
use Rattle.ob_start.proofs.Clearing.{head_then, torn_high}

-- so many gates are written
pub record Shutting (gates : List ℕ) (i : ℕ) (old now : Disk) : Type 0 where
  pub goes : GoesOn old now
  pub tells : old.tells → now.tells
  pub here : old.tells → (j : ℕ) → j < i → now.cells (get_or gates j 0) ≡ closed_gate
  pub elsewhere : old.tells → SameButThese gates now.cells old.cells
  pub each : old.tells → (cell : ℕ) → IsKeptOrShut old.cells now.cells cell
  pub passes : Passes SameHead old now
  pub out : now.out ≡ 0

pub none_shut : (gates : List ℕ) (d : Disk) → d.out ≡ 0 → Shutting gates 0 d d
none_shut gates d none = record {
  goes = goes_same d;
  tells = λ t. t;
  here = λ t j lt. absurd (omega arith);
  elsewhere = λ t k off. refl;
  each = λ t cell. inl refl;
  passes = passed_none d SameHead (λ c. refl);
  out = none;
}

module _ (gates : List ℕ) (i gate : ℕ) (old mid new : Disk) (lt : i < length gates) (is : gate ≡ get_or gates i 0) (so_far : Shutting gates i old mid) where
  pub elsewhere_one : (old.tells → SameBut gate new.cells mid.cells) → old.tells → SameButThese gates new.cells old.cells
  elsewhere_one rest t k off = rest t k (λ e. off i lt (e ∙ is)) ∙ so_far.elsewhere t k off

  pub passes_one : 0 < gate → GoesOn mid new → Tears gate mid new → Elapses mid new → (mid.tells → SameBut gate new.cells mid.cells) → Passes SameHead old new
  passes_one high goes tears time rest = head_then old mid new so_far.passes (torn_high gate mid new high goes time tears rest)

  pub one_shut : 0 < gate → Serves {T = Unit {0}} IsFailed mid new (Ok tt) → (mid.tells → new.cells gate ≡ closed_gate) → (mid.tells → SameBut gate new.cells mid.cells) → Tears gate mid new → Elapses mid new → Shutting gates (i + 1) old new
  one_shut high serves put rest tears time = record {
    goes = goes_then old mid new so_far.goes serves.goes;
    tells = λ t. serves.tells (so_far.tells t);
    here = λ t. below_more (λ j. new.cells (get_or gates j 0) ≡ closed_gate) i
        (λ j below. ⊎_elim
        (λ (e : get_or gates j 0 ≡ gate). subst (λ k. new.cells k ≡ closed_gate) (sym e) (put (so_far.tells t)))
        (λ ne. rest (so_far.tells t) (get_or gates j 0) (λ e. absurd (omega arith)) ∙ so_far.here t j below)
        (cases_eq (get_or gates j 0) gate))
        (subst (λ k. new.cells k ≡ closed_gate) is (put (so_far.tells t)));
    elsewhere = elsewhere_one (λ t. rest (so_far.tells t));
    each = λ t. kept_one gate old.cells mid.cells new.cells (rest (so_far.tells t)) (put (so_far.tells t)) (so_far.each t);
    passes = passes_one high serves.goes tears time rest;
    out = let none = so_far.out in let still = serves.out in omega arith;
  }

-- the notes of the first ones
map_push : (xs : List ℕ) (y : ℕ) → writes_of (xs ++ y ∷ []) ≡ writes_of xs ++ Write y ∷ []
map_push [] y = refl
map_push (x ∷ xs) y = ap (λ (l : List Note). Write x ∷ l) (map_push xs y)

take_writes : (n : ℕ) (xs : List ℕ) → writes_of (take n xs) ≡ take n (writes_of xs)
take_writes zero xs = refl
take_writes (suc n) [] = refl
take_writes (suc n) (x ∷ xs) = ap (λ (l : List Note). Write x ∷ l) (take_writes n xs)

length_writes : (xs : List ℕ) → length (writes_of xs) ≡ length xs
length_writes [] = refl
length_writes (x ∷ xs) = ap suc (length_writes xs)

module _ (gates : List ℕ) (i gate : ℕ) (lt : i < length gates) (is : gate ≡ get_or gates i 0) where
  next_write : writes_of (take (i + 1) gates) ≡ writes_of (take i gates) ++ Write gate ∷ []
  next_write = ap writes_of (take_more gates i 0 lt) ∙ map_push (take i gates) (get_or gates i 0) ∙ ap (λ n. writes_of (take i gates) ++ Write n ∷ []) (sym is)

  pub told_one : (a b c : Option (List Event)) (k l m : Trace) → Tells (writes_of (take i gates)) (writes_of (take i gates)) a b k l → Tells (Write gate ∷ []) (Write gate ∷ []) b c l m → Tells (writes_of (take (i + 1) gates)) (writes_of (take (i + 1) gates)) a c k m
  told_one a b c k l m so_far one =
      subst (λ (notes : List Note). Tells notes notes a c k m) (sym next_write) (tells_then (writes_of (take i gates)) (writes_of (take i gates)) (Write gate ∷ []) (Write gate ∷ []) a b c k l m so_far one)

pub told_first : (gates : List ℕ) (n : ℕ) (a b : Option (List Event)) (k l : Trace) → n ≤ length gates → Tells (writes_of (take n gates)) (writes_of (take n gates)) a b k l → TellsFirst (writes_of gates) a b k l
told_first gates n a b k l le tells = record {
  made = writes_of (take n gates);
  shown = writes_of (take n gates);
  cut = record { count = n; few = (let e = length_writes gates in omega (arith, e, le)); made_are = take_writes n gates; shown_are = inl refl };
  tells = tells;
}
