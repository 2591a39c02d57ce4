-- How the events of a run follow one another.
use Rattle.std.proofs.Common.{List, None, Option, Some, [], ap, append_assoc, arith, length, length-append, sym, take, ◌++◌, ◌+◌, ◌∙◌}
use Rattle.std.proofs.lemmas.List.{append-nil, take_all, take-append-le}
use Rattle.std.proofs.Math.Seq.{take-append-add}
use Rattle.ob_store.specs.declared.event.Event.{Event}
use Rattle.ob_store.specs.Calls.{Notes, NotesFirst}

pub none_noted : (seen : Option (List Event)) → Notes [] seen seen
none_noted None = tt
none_noted (Some l) = sym (append-nil l)

pub joined : (xs ys : List Event) (a b c : Option (List Event)) → Notes xs a b → Notes ys b c → Notes (xs ++ ys) a c
joined xs ys a b None p q = tt
joined xs ys (Some a) (Some b) (Some c) p q = q ∙ ap (λ (l : List Event). l ++ ys) p ∙ append_assoc a xs ys
joined xs ys (Some a) None (Some c) p q = absurd q
joined xs ys None (Some b) (Some c) p q = absurd p
joined xs ys None None (Some c) p q = absurd q

-- all of them are some of them
pub all_first : (xs : List Event) (a b : Option (List Event)) → Notes xs a b → NotesFirst xs a b
all_first xs a b p = (length xs, omega arith, rw (take_all (length xs) xs (omega arith)) p)

-- some of the first events, of more
pub first_more : (xs ys : List Event) (a b : Option (List Event)) → NotesFirst xs a b → NotesFirst (xs ++ ys) a b
first_more xs ys a b p = (p.0, omega (arith, p.1, length-append xs ys), rw (take-append-le p.0 xs ys p.1) p.2)

-- all of them, and some of the next
pub joined_first : (xs ys : List Event) (a b c : Option (List Event)) → Notes xs a b → NotesFirst ys b c → NotesFirst (xs ++ ys) a c
joined_first xs ys a b c p q = (length xs + q.0, omega (arith, q.1, length-append xs ys), rw (take-append-add xs ys q.0) (joined xs (take q.0 ys) a b c p q.2))
