-- How gathered texts join, and how they are handed over.
use Rattle.std.proofs.Common.{◌≡◌, ◌≤◌, ◌<◌, ℕ, ◌+◌, List, [], ◌∷◌, ◌++◌, Option, take, drop, length, get_or, sym, ap, refl, ◌∙◌, arith, inl, inr, append_assoc, length-append, length-drop, map, Result, Ok, Err}
use Rattle.std.specs.Prelude.{flat_map, OnOk}
use Rattle.std.proofs.lemmas.List.{take_all, drop_all, take_more, take-append-drop, take-append-le, drop-append-le, drop-drop, append-nil}
use Rattle.std.proofs.lemmas.Grind.{flat_map-append}
use Rattle.ob_base.specs.Causes.{HasCause}
use Rattle.ob_io.specs.Flows.{appended}
use Rattle.ob_io.proofs.Pieces.{appended-again, appended-none, take-more}
use Rattle.ob_io.specs.Streams.{Flow, flow}
use Rattle.ob_report.specs.Printed.{Prints}
use Rattle.ob_report.specs.Gathered.{Gathering, gathering, Gathers}

-- All of a text was gathered.
pub record IsWhole (text : List ℕ) (before after : Gathering) : Type 0 where
  pub count : ℕ
  pub within : count ≤ length (before.held ++ text)
  pub written : after.bytes ≡ appended before.bytes (take count (before.held ++ text))
  pub rest : after.held ≡ drop count (before.held ++ text)
  pub later : before.faults ≤ after.faults

-- What is held more, and nothing written.
pub held_more : (old : Option (List ℕ)) (faults : ℕ) (held text now : List ℕ) → now ≡ held ++ text → IsWhole text (gathering old faults held) (gathering old faults now)
held_more old faults held text now is = record { count = 0; within = omega arith; written = appended-none old; rest = is; later = omega arith }

pub nothing : (old : Option (List ℕ)) (faults : ℕ) (held : List ℕ) → IsWhole [] (gathering old faults held) (gathering old faults held)
nothing old faults held = held_more old faults held [] held (sym (append-nil held))

pub whole_of : {T E : Type 0} (text : List ℕ) (before after : Gathering) (x : T) → Gathers {T = T} {E = E} text before after (Ok x) → IsWhole text before after
whole_of text before after x p = record { count = p.count; within = p.within; written = p.written; rest = p.rest; later = p.cause.later }

pub gathers_whole : {T E : Type 0} (text : List ℕ) (before after : Gathering) (x : T) → IsWhole text before after → Gathers {T = T} {E = E} text before after (Ok x)
gathers_whole text before after x w = record { count = w.count; within = w.within; written = w.written; rest = w.rest; cause = record { later = w.later; failed = tt } }

-- What of two texts went out by two calls, over lists: `held` was held, `a` came first, and of the rest, with `b` behind it, a front went out.
module _ (held a b : List ℕ) (c d : ℕ) (within : c ≤ length (held ++ a)) where
  all_of : held ++ (a ++ b) ≡ (held ++ a) ++ b
  all_of = sym (append_assoc held a b)

  dropped : drop c (held ++ (a ++ b)) ≡ drop c (held ++ a) ++ b
  dropped = rw all_of (drop-append-le c (held ++ a) b within)

  taken : take c (held ++ (a ++ b)) ≡ take c (held ++ a)
  taken = rw all_of (take-append-le c (held ++ a) b within)

  both_taken : take (c + d) (held ++ (a ++ b)) ≡ take c (held ++ a) ++ take d (drop c (held ++ a) ++ b)
  both_taken = take-more (held ++ (a ++ b)) c d ∙ rw (taken, dropped) refl

  both_dropped : drop (c + d) (held ++ (a ++ b)) ≡ drop d (drop c (held ++ a) ++ b)
  both_dropped = sym (drop-drop d c (held ++ (a ++ b))) ∙ ap (λ (l : List ℕ). drop d l) dropped

  both_within : d ≤ length (drop c (held ++ a) ++ b) → c + d ≤ length (held ++ (a ++ b))
  both_within low =
      let whole = ap (λ (l : List ℕ). length l) all_of in
      omega (arith, low, within, whole, length-append (drop c (held ++ a)) b, length-drop c (held ++ a), length-append (held ++ a) b)

-- A text behind one that is whole.
pub then : {T E : Type 0} (a b : List ℕ) (first mid last : Gathering) (result : Result T E) → IsWhole a first mid → Gathers b mid last result → Gathers (a ++ b) first last result
then a b first mid last (Ok x) w p =
    let q = rw w.rest at p.within in
    record {
      count = w.count + p.count;
      within = both_within first.held a b w.count p.count w.within q;
      written = p.written ∙ rw (w.written, w.rest) (appended-again first.bytes (take w.count (first.held ++ a)) (take p.count (drop w.count (first.held ++ a) ++ b)))
          ∙ ap (λ (l : List ℕ). appended first.bytes l) (sym (both_taken first.held a b w.count p.count w.within));
      rest = p.rest ∙ rw w.rest (sym (both_dropped first.held a b w.count p.count w.within));
      cause = record { later = omega (arith, w.later, p.cause.later); failed = tt };
    }
then a b first mid last (Err e) w p =
    let q = rw w.rest at p.within in
    record {
      count = w.count + p.count;
      within = both_within first.held a b w.count p.count w.within q;
      written = p.written ∙ rw (w.written, w.rest) (appended-again first.bytes (take w.count (first.held ++ a)) (take p.count (drop w.count (first.held ++ a) ++ b)))
          ∙ ap (λ (l : List ℕ). appended first.bytes l) (sym (both_taken first.held a b w.count p.count w.within));
      rest = tt;
      cause = record { later = omega (arith, w.later, p.cause.later); failed = omega (arith, w.later, p.cause.failed) };
    }

-- A text by another name.
pub same_text : {T E : Type 0} (a b : List ℕ) (before after : Gathering) (result : Result T E) → a ≡ b → Gathers a before after result → Gathers b before after result
same_text a b before after result same p = rw (← same) p

-- Two texts as one by another name.
pub then_as : {T E : Type 0} (all a b : List ℕ) (first mid last : Gathering) (result : Result T E) → IsWhole a first mid → Gathers b mid last result → all ≡ a ++ b → Gathers all first last result
then_as all a b first mid last result w p same = rw same (then a b first mid last result w p)

-- A text of which a front was written is the front of any longer one.
pub cut : {T U E : Type 0} (a b : List ℕ) (before after : Gathering) (e : E) (result : Result U E) → Gathers {T = T} a before after (Err e) → result ≡ Err e → Gathers (a ++ b) before after result
cut a b before after e result p is = rw is (record {
  count = p.count;
  within = omega (arith, both_within before.held a b p.count 0 p.within (omega arith));
  written = p.written ∙ ap (λ (l : List ℕ). appended before.bytes l) (sym (taken before.held a b p.count 0 p.within));
  rest = tt;
  cause = record { later = p.cause.later; failed = p.cause.failed };
})

pub cut_as : {T U E : Type 0} (all a b : List ℕ) (before after : Gathering) (e : E) (result : Result U E) → Gathers {T = T} a before after (Err e) → result ≡ Err e → all ≡ a ++ b → Gathers all before after result
cut_as all a b before after e result p is same = rw same (cut a b before after e result p is)

-- the texts of the first items and of the next one
next_text : {A : Type 0} (f : A → List ℕ) (xs : List A) (i : ℕ) (d : A) → i < length xs → flat_map f (take (i + 1) xs) ≡ flat_map f (take i xs) ++ f (get_or xs i d)
next_text f xs i d lt = ap (λ (l : List _). flat_map f l) (take_more xs i d lt) ∙ flat_map-append f (take i xs) (get_or xs i d ∷ []) ∙ ap (λ (l : List ℕ). flat_map f (take i xs) ++ l) (append-nil (f (get_or xs i d)))

-- the text of all items, as that of the first ones and of the rest
all_text : {A : Type 0} (f : A → List ℕ) (xs : List A) (i : ℕ) → flat_map f (take i xs) ++ flat_map f (drop i xs) ≡ flat_map f xs
all_text f xs i = sym (flat_map-append f (take i xs) (drop i xs)) ∙ ap (λ (l : List _). flat_map f l) (take-append-drop i xs)

-- one item more
pub more : {A T E : Type 0} (f : A → List ℕ) (xs : List A) (i : ℕ) (d : A) → i < length xs → (first mid last : Gathering) (y : T)
    → IsWhole (flat_map f (take i xs)) first mid → Gathers {T = T} {E = E} (f (get_or xs i d)) mid last (Ok y) → IsWhole (flat_map f (take (i + 1) xs)) first last
more f xs i d lt first mid last y w p = rw (next_text f xs i d lt) (whole_of (flat_map f (take i xs) ++ f (get_or xs i d)) first last y (then (flat_map f (take i xs)) (f (get_or xs i d)) first mid last (Ok y) w p))

-- an item at which it stops
pub stopped : {A T U E : Type 0} (f : A → List ℕ) (xs : List A) (i : ℕ) (d : A) → i < length xs → (first mid last : Gathering) (e : E) (result : Result U E)
    → IsWhole (flat_map f (take i xs)) first mid → Gathers {T = T} {E = E} (f (get_or xs i d)) mid last (Err e) → result ≡ Err e → Gathers (flat_map f xs) first last result
stopped {T = T} f xs i d lt first mid last e result w p err = rw (← all_text f xs (i + 1), next_text f xs i d lt)
    (cut (flat_map f (take i xs) ++ f (get_or xs i d)) (flat_map f (drop (i + 1) xs)) first last e result (then {T = T} (flat_map f (take i xs)) (f (get_or xs i d)) first mid last (Err e) w p) err)

-- all items
pub finished : {A T E : Type 0} (f : A → List ℕ) (xs : List A) (i : ℕ) → length xs ≤ i → (first last : Gathering) (y : T) → IsWhole (flat_map f (take i xs)) first last → Gathers {T = T} {E = E} (flat_map f xs) first last (Ok y)
finished f xs i all first last y w = gathers_whole (flat_map f xs) first last y (rw (take_all i xs all) at w)

-- texts by the names of items
pub by_name : {A B : Type 0} (f : B → List ℕ) (g : A → B) (xs : List A) → flat_map f (map g xs) ≡ flat_map (λ x. f (g x)) xs
by_name f g [] = refl
by_name f g (x ∷ xs) = ap (λ (l : List ℕ). f (g x) ++ l) (by_name f g xs)

-- What a page held is handed over, from what `put_all` says.
pub handed : {T E : Type 0} (old new : Option (List ℕ)) (faults now : ℕ) (held left : List ℕ) (result : Result T E)
    → OnOk result (new ≡ appended old held) → ((n : ℕ) × (n ≤ length held) × (new ≡ appended old (take n held))) → HasCause faults now result → left ≡ []
    → Gathers [] (gathering old faults held) (gathering new now left) result
handed old new faults now held left (Ok x) all front cause empty = record {
  count = length held;
  within = rw (append-nil held) (omega arith);
  written = rw (append-nil held, take_all (length held) held (omega arith)) all;
  rest = rw (append-nil held, drop_all (length held) held (omega arith)) empty;
  cause = cause;
}
handed old new faults now held left (Err e) all front cause empty = record {
  count = front.0;
  within = rw (append-nil held) front.1;
  written = rw (append-nil held) front.2;
  rest = tt;
  cause = cause;
}

-- how many of a list were dropped where none are left
none_left : (xs : List ℕ) (n : ℕ) → n ≤ length xs → [] ≡ drop n xs → n ≡ length xs
none_left xs n low is = let same = ap (λ (l : List ℕ). length l) is in omega (arith, low, same, length-drop n xs)

-- A text that was gathered from an empty page, with which the page was then handed over, is printed.
pub printed : {T E : Type 0} (text : List ℕ) (old new : Option (List ℕ)) (faults now : ℕ) (left : List ℕ) (mid : Gathering) (result : Result T E)
    → IsWhole text (gathering old faults []) mid → Gathers [] mid (gathering new now left) result → left ≡ [] → Prints text (flow old faults) (flow new now) result
printed text old new faults now left mid (Ok x) w p empty =
    let q = then text [] (gathering old faults []) mid (gathering new now left) (Ok x) w p in
    let low = rw (append-nil text) at q.within in
    let rest = sym empty ∙ (rw (append-nil text) at q.rest) in
    let written = rw (append-nil text) at q.written in
    let full = none_left text q.count low rest in
    record {
      printed = record { count = q.count; within = low; written = written; whole = inl full };
      all = written ∙ ap (λ (l : List ℕ). appended old l) (take_all q.count text (omega (arith, full)));
      cause = record { later = q.cause.later; failed = tt };
    }
printed text old new faults now left mid (Err e) w p empty =
    let q = then text [] (gathering old faults []) mid (gathering new now left) (Err e) w p in
    record {
      printed = record { count = q.count; within = rw (append-nil text) at q.within; written = rw (append-nil text) at q.written; whole = inr q.cause.failed };
      all = tt;
      cause = record { later = q.cause.later; failed = q.cause.failed };
    }

-- A text that wasn't gathered whole from an empty page.
pub refused : {T U E : Type 0} (text : List ℕ) (old new : Option (List ℕ)) (faults now : ℕ) (held : List ℕ) (e : E) (result : Result U E)
    → Gathers {T = T} text (gathering old faults []) (gathering new now held) (Err e) → result ≡ Err e → Prints text (flow old faults) (flow new now) result
refused text old new faults now held e result p is = rw is (record {
  printed = record { count = p.count; within = p.within; written = p.written; whole = inr p.cause.failed };
  all = tt;
  cause = record { later = p.cause.later; failed = p.cause.failed };
})

-- a printed text by another name
pub same_print : {T E : Type 0} (a b : List ℕ) (before after : Flow) (result : Result T E) → a ≡ b → Prints a before after result → Prints b before after result
same_print a b before after result same p = rw (← same) p

-- Of bytes that go to a page part by part, those up to here went there, and to get room for more was refused.
pub stopped_at : {T U E : Type 0} (bytes : List ℕ) (at : ℕ) (first mid last : Gathering) (e : E) (result : Result U E)
    → IsWhole (take at bytes) first mid → Gathers {T = T} [] mid last (Err e) → result ≡ Err e → Gathers bytes first last result
stopped_at {T = T} bytes at first mid last e result w p is =
    let whole : bytes ≡ (take at bytes ++ []) ++ drop at bytes = rw (append-nil (take at bytes)) (sym (take-append-drop at bytes)) in
    cut_as bytes (take at bytes ++ []) (drop at bytes) first last e result (then {T = T} (take at bytes) [] first mid last (Err e) w p) is whole

-- room was made, and a part more is held
pub part_more : {T E : Type 0} (bytes : List ℕ) (at n : ℕ) (first mid : Gathering) (out : Option (List ℕ)) (faults : ℕ) (held now : List ℕ) (x : T)
    → IsWhole (take at bytes) first mid → Gathers {T = T} {E = E} [] mid (gathering out faults held) (Ok x) → now ≡ held ++ take n (drop at bytes)
    → IsWhole (take (at + n) bytes) first (gathering out faults now)
part_more {T = T} {E = E} bytes at n first mid out faults held now x w p is =
    let room = whole_of (take at bytes ++ []) first (gathering out faults held) x (then {T = T} {E = E} (take at bytes) [] first mid (gathering out faults held) (Ok x) w p) in
    let part = gathers_whole {E = E} (take n (drop at bytes)) (gathering out faults held) (gathering out faults now) x (held_more out faults held (take n (drop at bytes)) now is) in
    let both = whole_of ((take at bytes ++ []) ++ take n (drop at bytes)) first (gathering out faults now) x (then {T = T} {E = E} (take at bytes ++ []) (take n (drop at bytes)) first (gathering out faults held) (gathering out faults now) (Ok x) room part) in
    rw (take-more bytes at n) (rw (append-nil (take at bytes)) at both)
