-- How notes follow one another.
use Rattle.std.proofs.Common.{◌≡◌, ◌≤◌, ◌+◌, ℕ, List, [], ◌∷◌, ◌++◌, length, take, Bool, true, false, Option, Some, None, refl, sym, ◌∙◌, ap, arith, append_assoc, length-append}
use Rattle.std.proofs.lemmas.List.{append-nil, take-append-le, take_all}
use Rattle.std.proofs.Math.Seq.{take-append-add}
use Rattle.ob_store.specs.declared.watch.Note.{Note}
use Rattle.ob_store.specs.Lines.{Trace, line_of, lines_of, AddsLines, BreaksOnly, Shows, ShowsFirst}

breaks_none : (b : Bool) (n : ℕ) → BreaksOnly b b n n
breaks_none true n = tt
breaks_none false n = tt

adds_none : (b : Bool) (written : Option (List ℕ)) → AddsLines [] b b written written
adds_none b None = tt
adds_none true (Some l) = refl
adds_none false (Some l) = sym (append-nil l)

-- no note
pub shows_none : (t : Trace) → Shows [] t t
shows_none t = record { anchors = refl; faults = omega arith; breaks = breaks_none t.broken t.faults; lines = adds_none t.broken t.written }

lines_join : (xs ys : List Note) → lines_of (xs ++ ys) ≡ lines_of xs ++ lines_of ys
lines_join [] ys = refl
lines_join (x ∷ xs) ys = ap (λ (l : List ℕ). line_of x ++ l) (lines_join xs ys) ∙ sym (append_assoc (line_of x) (lines_of xs) (lines_of ys))

breaks_then : (a b c : Bool) (l m n : ℕ) → l ≤ m → m ≤ n → BreaksOnly a b l m → BreaksOnly b c m n → BreaksOnly a c l n
breaks_then true true true l m n le me p q = tt
breaks_then true true false l m n le me p q = absurd q
breaks_then true false c l m n le me p q = absurd p
breaks_then false true true l m n le me p q = omega arith
breaks_then false true false l m n le me p q = tt
breaks_then false false true l m n le me p q = omega arith
breaks_then false false false l m n le me p q = tt

adds_then : (xs ys : List ℕ) (a b c : Bool) (k l m n : ℕ) (o p q : Option (List ℕ)) → BreaksOnly a b k l → BreaksOnly b c m n → AddsLines xs a b o p → AddsLines ys b c p q → AddsLines (xs ++ ys) a c o q
adds_then xs ys a b c k l m n None None None f s u v = tt
adds_then xs ys a b c k l m n None None (Some z) f s u v = absurd v
adds_then xs ys a b c k l m n None (Some y) q f s u v = absurd u
adds_then xs ys a b c k l m n (Some x) None q f s u v = absurd u
adds_then xs ys a b c k l m n (Some x) (Some y) None f s u v = absurd v
adds_then xs ys true true c k l m n (Some x) (Some y) (Some z) f s u v = v ∙ u
adds_then xs ys true false c k l m n (Some x) (Some y) (Some z) f s u v = absurd f
adds_then xs ys false true true k l m n (Some x) (Some y) (Some z) f s u v =
    (u.0, omega (arith, u.1, length-append xs ys), v ∙ u.2 ∙ ap (λ (t : List ℕ). x ++ t) (sym (take-append-le u.0 xs ys u.1)))
adds_then xs ys false true false k l m n (Some x) (Some y) (Some z) f s u v = absurd s
adds_then xs ys false false true k l m n (Some x) (Some y) (Some z) f s u v =
    (length xs + v.0, omega (arith, v.1, length-append xs ys), v.2 ∙ ap (λ (t : List ℕ). t ++ take v.0 ys) u ∙ append_assoc x xs (take v.0 ys) ∙ ap (λ (t : List ℕ). x ++ t) (sym (take-append-add xs ys v.0)))
adds_then xs ys false false false k l m n (Some x) (Some y) (Some z) f s u v = v ∙ ap (λ (t : List ℕ). t ++ ys) u ∙ append_assoc x xs ys

-- some notes, and then others
pub shows_then : (xs ys : List Note) (a b c : Trace) → Shows xs a b → Shows ys b c → Shows (xs ++ ys) a c
shows_then xs ys a b c p q = record {
  anchors = q.anchors ∙ p.anchors;
  faults = omega arith;
  breaks = breaks_then a.broken b.broken c.broken a.faults b.faults c.faults p.faults q.faults p.breaks q.breaks;
  lines = rw lines_join (adds_then (lines_of xs) (lines_of ys) a.broken b.broken c.broken a.faults b.faults b.faults c.faults a.written b.written c.written p.breaks q.breaks p.lines q.lines);
}

-- all of them are some of them
pub all_shown : (xs : List Note) (a b : Trace) → Shows xs a b → ShowsFirst xs a b
all_shown xs a b p = (length xs, omega arith, rw (take_all (length xs) xs (omega arith)) p)

-- some of the first notes, of more
pub shown_more : (xs ys : List Note) (a b : Trace) → ShowsFirst xs a b → ShowsFirst (xs ++ ys) a b
shown_more xs ys a b p = (p.0, omega (arith, p.1, length-append xs ys), rw (take-append-le p.0 xs ys p.1) p.2)

-- all of them, and some of the next
pub shows_first : (xs ys : List Note) (a b c : Trace) → Shows xs a b → ShowsFirst ys b c → ShowsFirst (xs ++ ys) a c
shows_first xs ys a b c p q = (length xs + q.0, omega (arith, q.1, length-append xs ys), rw (take-append-add xs ys q.0) (shows_then xs (take q.0 ys) a b c p q.2))
