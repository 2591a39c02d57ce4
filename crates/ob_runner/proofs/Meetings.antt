-- Asks that are met, one more at a time.
use Rattle.std.proofs.Common.{◌≡◌, ◌+◌, ℕ, zero, suc, List, [], ◌∷◌, ◌++◌, take, drop, Option, Some, None, refl, sym, ap, ◌∙◌, append_assoc, append-nil, add-one, inl, inr, ℤ}
use Rattle.std.specs.Prelude.{slice_get}
use Rattle.std.proofs.lemmas.Option.{none-some, same_Some}
use Rattle.std.proofs.lemmas.List.{take-append-drop}
use Rattle.ob_base.specs.declared.op.Op.{Op}
use Rattle.ob_base.specs.declared.op.Op.TheVariants as op
use Rattle.ob_script.specs.declared.line.Ask.{Ask}
use Rattle.ob_script.specs.declared.line.Ask.TheVariants as ask
use Rattle.ob_runner.specs.Meaning.{IsOpsOf, Meets, MeetsFront, MeetsNoSum, IsAddsGet}
use Rattle.ob_runner.specs.Places.{HasRead}

next_item : {A : Type 0} (xs : List A) (i : ℕ) (x : A) → slice_get xs i ≡ Some x → take (suc i) xs ≡ take i xs ++ x ∷ []
next_item [] i x h = absurd (none-some x h)
next_item {A} (y ∷ ys) zero x h = ap (λ (z : A). z ∷ []) (same_Some y x h)
next_item {A} (y ∷ ys) (suc i) x h = ap (λ (zs : List A). y ∷ zs) (next_item ys i x h)

pub take_next : {A : Type 0} (xs : List A) (i : ℕ) (x : A) → slice_get xs i ≡ Some x → take (i + 1) xs ≡ take i xs ++ x ∷ []
take_next xs i x h = rw add-one (next_item xs i x h)

pub take_whole : {A : Type 0} (xs : List A) (i : ℕ) → slice_get xs i ≡ None → take i xs ≡ xs
take_whole [] zero h = refl
take_whole [] (suc i) h = refl
take_whole (y ∷ ys) zero h = absurd (none-some y (sym h))
take_whole {A} (y ∷ ys) (suc i) h = ap (λ (zs : List A). y ∷ zs) (take_whole ys i h)

pub drop_item : {A : Type 0} (xs : List A) (i : ℕ) (x : A) → slice_get xs i ≡ Some x → drop i xs ≡ x ∷ drop (suc i) xs
drop_item [] i x h = absurd (none-some x h)
drop_item {A} (y ∷ ys) zero x h = ap (λ (z : A). z ∷ ys) (same_Some y x h)
drop_item (y ∷ ys) (suc i) x h = drop_item ys i x h

meets_more : (asks : List Ask) (ops : List (Op ℕ)) (a : Ask) (more : List (Op ℕ)) → Meets asks ops → IsOpsOf a more → Meets (asks ++ a ∷ []) (ops ++ more)
meets_more [] ops a more met of = (more, [], ap (λ (os : List (Op ℕ)). os ++ more) met ∙ sym (append-nil more), of, refl)
meets_more (b ∷ asks) ops a more (these, others, parts, of_b, met) of =
    (these, others ++ more, ap (λ (os : List (Op ℕ)). os ++ more) parts ∙ append_assoc these others more, of_b, meets_more asks others a more met of)

-- the operations of the ask at this index are met too
pub meets_next : (asks : List Ask) (i : ℕ) (a : Ask) (next : ℕ) (ops more : List (Op ℕ)) → slice_get asks i ≡ Some a → next ≡ i + 1 → IsOpsOf a more → Meets (take i asks) ops → Meets (take next asks) (ops ++ more)
meets_next asks i a next ops more is next_is of met = rw (next_is, take_next asks i a is) (meets_more (take i asks) ops a more met of)

pub front_at : (asks : List Ask) (i : ℕ) (ops : List (Op ℕ)) → Meets (take i asks) ops → MeetsFront asks ops
front_at asks i ops met = record {
  met = take i asks;
  left = drop i asks;
  these = ops;
  more = [];
  asks_are = sym (take-append-drop i asks);
  ops_are = sym (append-nil ops);
  meets = met;
  begun = inl refl;
}

pub front_whole : (asks : List Ask) (ops : List (Op ℕ)) → Meets asks ops → MeetsFront asks ops
front_whole asks ops met = record {
  met = asks;
  left = [];
  these = ops;
  more = [];
  asks_are = sym (append-nil asks);
  ops_are = sym (append-nil ops);
  meets = met;
  begun = inl refl;
}

adds_get : (asks : List Ask) (i key : ℕ) (amount : ℤ) (found : Option (List ℕ)) → slice_get asks i ≡ Some (ask.Add key amount) → IsAddsGet (drop i asks) (op.Get key found 0 ∷ [])
adds_get asks i key amount found is = record {
  key = key;
  amount = amount;
  behind = drop (suc i) asks;
  reply = found;
  source = 0;
  asks_are = drop_item asks i (ask.Add key amount) is;
  ops_are = refl;
}

pub front_read : (asks : List Ask) (key : ℕ) (sum : Option (List ℕ)) (next : ℕ) (ops : List (Op ℕ)) → HasRead asks key sum next ops → MeetsFront asks ops
front_read asks key sum next ops read = record {
  met = take read.index asks;
  left = drop read.index asks;
  these = read.these;
  more = op.Get key read.found 0 ∷ [];
  asks_are = sym (take-append-drop read.index asks);
  ops_are = read.ops_are;
  meets = read.meets;
  begun = inr (adds_get asks read.index key read.amount read.found read.ask_is);
}

pub no_sum_read : (asks : List Ask) (key next : ℕ) (ops : List (Op ℕ)) → HasRead asks key None next ops → MeetsNoSum asks ops
unfolding adds_get
no_sum_read asks key next ops read = record {
  met = take read.index asks;
  left = drop read.index asks;
  these = read.these;
  more = op.Get key read.found 0 ∷ [];
  asks_are = sym (take-append-drop read.index asks);
  ops_are = read.ops_are;
  meets = read.meets;
  begun = adds_get asks read.index key read.amount read.found read.ask_is;
  no_sum = read.sum_is;
}

-- the put of an add's sum meets it
pub meets_sum : (asks : List Ask) (key : ℕ) (new : List ℕ) (next : ℕ) (ops : List (Op ℕ)) → HasRead asks key (Some new) next ops → Meets (take next asks) (ops ++ op.Put key new ∷ [])
meets_sum asks key new next ops read =
    let parts : ops ++ op.Put key new ∷ [] ≡ read.these ++ (op.Get key read.found 0 ∷ op.Put key new ∷ []) =
    ap (λ (os : List (Op ℕ)). os ++ op.Put key new ∷ []) read.ops_are ∙ append_assoc read.these (op.Get key read.found 0 ∷ []) (op.Put key new ∷ []) in
    rw parts (meets_next asks read.index (ask.Add key read.amount) next read.these (op.Get key read.found 0 ∷ op.Put key new ∷ []) read.ask_is read.next_is (read.found, 0, new, read.sum_is, refl) read.meets)
