-- How what a row of steps told goes on from call to call.
use Rattle.std.proofs.Common.{◌≡◌, ◌≤◌, inl, inr, ⊎_elim, ◌+◌, ℕ, List, [], ◌∷◌, ◌++◌, length, take, drop, Option, Result, Ok, Err, subst, refl, sym, ◌∙◌, ap, arith, append_assoc, length-append}
use Rattle.std.specs.Result.{IsErr}
use Rattle.std.proofs.lemmas.List.{append-nil, take-append-drop, take-append-le, take_all, take_at}
use Rattle.std.proofs.Math.Seq.{take-append-add}
use Rattle.ob_store.specs.declared.event.Event.{Event}
use Rattle.ob_store.specs.declared.event.Event.TheVariants as event
use Rattle.ob_store.specs.declared.watch.Note.{Note}
use Rattle.ob_store.specs.declared.watch.Note.TheVariants.{Label, Read, Write, Sync}
use Rattle.ob_store.specs.Calls.{Notes, NotesFirst}
use Rattle.ob_store.specs.Lines.{Trace}
use Rattle.ob_store.specs.Told.{notes_of, events_of, Tells, IsCut, TellsFirst, Does, if_well}
use Rattle.ob_store.proofs.Events.{none_noted, joined}
use Rattle.ob_store.proofs.Showing.{shows_none, shows_then}

pub events_join : (xs ys : List Note) → events_of (xs ++ ys) ≡ events_of xs ++ events_of ys
events_join [] ys = refl
events_join (Label x ∷ xs) ys = events_join xs ys
events_join (Read c ∷ xs) ys = ap (λ (l : List Event). event.Read c ∷ l) (events_join xs ys)
events_join (Write c ∷ xs) ys = ap (λ (l : List Event). event.Write c ∷ l) (events_join xs ys)
events_join (Sync ∷ xs) ys = ap (λ (l : List Event). event.Sync ∷ l) (events_join xs ys)

-- notes of events are of just these
pub events_back : (xs : List Event) → events_of (notes_of xs) ≡ xs
events_back [] = refl
events_back (event.Read c ∷ xs) = ap (λ (l : List Event). event.Read c ∷ l) (events_back xs)
events_back (event.Write c ∷ xs) = ap (λ (l : List Event). event.Write c ∷ l) (events_back xs)
events_back (event.Sync ∷ xs) = ap (λ (l : List Event). event.Sync ∷ l) (events_back xs)

-- no step
pub tells_none : (seen : Option (List Event)) (t : Trace) → Tells [] [] seen seen t t
tells_none seen t = record { seen = none_noted seen; shows = shows_none t }

-- some steps, and then others
pub tells_then : (xs ss ys zs : List Note) (a b c : Option (List Event)) (k l m : Trace) → Tells xs ss a b k l → Tells ys zs b c l m → Tells (xs ++ ys) (ss ++ zs) a c k m
tells_then xs ss ys zs a b c k l m p q = record {
  seen = rw events_join (joined (events_of xs) (events_of ys) a b c p.seen q.seen);
  shows = shows_then ss zs k l m p.shows q.shows;
}

-- all of a row is a cut of it,
pub cut_none : (xs : List Note) → IsCut xs xs xs
cut_none xs = record { count = length xs; few = omega arith; made_are = sym (take_all (length xs) xs (omega arith)); shown_are = inl refl }

-- or all but the note of a last sync that failed
pub cut_sync : (xs : List Note) → IsCut (xs ++ Sync ∷ []) (xs ++ Sync ∷ []) xs
cut_sync xs = record { count = length (xs ++ Sync ∷ []); few = omega arith; made_are = sym (take_all (length (xs ++ Sync ∷ [])) (xs ++ Sync ∷ []) (omega arith)); shown_are = inr refl }

-- a cut of a row is one of a longer row,
pub cut_more : (xs ys ms ss : List Note) → IsCut xs ms ss → IsCut (xs ++ ys) ms ss
cut_more xs ys ms ss p = record {
  count = p.count;
  few = let f = p.few in omega (arith, f, length-append xs ys);
  made_are = p.made_are ∙ sym (take-append-le p.count xs ys p.few);
  shown_are = p.shown_are;
}

-- and behind a whole row one of both
pub cut_behind : (xs ys ms ss : List Note) → IsCut ys ms ss → IsCut (xs ++ ys) (xs ++ ms) (xs ++ ss)
cut_behind xs ys ms ss p = record {
  count = length xs + p.count;
  few = let f = p.few in omega (arith, f, length-append xs ys);
  made_are = ap (λ (l : List Note). xs ++ l) p.made_are ∙ sym (take-append-add xs ys p.count);
  shown_are = ⊎_elim (λ e. inl (ap (λ (l : List Note). xs ++ l) e)) (λ e. inr (ap (λ (l : List Note). xs ++ l) e ∙ sym (append_assoc xs ss (Sync ∷ [])))) p.shown_are;
}

module _ (a b : Option (List Event)) (k l : Trace) where
  pub first_more : (xs ys : List Note) → TellsFirst xs a b k l → TellsFirst (xs ++ ys) a b k l
  first_more xs ys p = record { made = p.made; shown = p.shown; cut = cut_more xs ys p.made p.shown p.cut; tells = p.tells }

  -- all of them are some of them
  pub first_all : (xs : List Note) → Tells xs xs a b k l → TellsFirst xs a b k l
  first_all xs p = record { made = xs; shown = xs; cut = cut_none xs; tells = p }

  -- a call that went well
  pub does_all : {T E : Type 0} (xs : List Note) (v : T) → Tells xs xs a b k l → Does {E = E} xs a b k l (Ok v)
  does_all xs v p = record { all = p; first = tt }

  -- a call that was refused
  pub does_err : {T E : Type 0} (xs : List Note) (e : E) → TellsFirst xs a b k l → Does {T = T} xs a b k l (Err e)
  does_err xs e p = record { all = tt; first = p }

  -- so it is where all that is known of the answer is that it is a refusal
  pub does_refused : {T E : Type 0} (xs : List Note) (r : Result T E) → IsErr r → TellsFirst xs a b k l → Does xs a b k l r
  does_refused xs (Ok v) is p = absurd (grind (arith, is))
  does_refused xs (Err e) is p = does_err xs e p

  -- all steps were made, whatever it answered
  pub does_both : {T E : Type 0} (xs : List Note) (r : Result T E) → Tells xs xs a b k l → Does xs a b k l r
  does_both xs (Ok v) p = does_all xs v p
  does_both xs (Err e) p = does_err xs e (first_all xs p)

  -- what was refused is told on, as some of the steps of a longer row
  pub does_on : {T U E F : Type 0} (xs ys : List Note) (e : E) (f : F) → Does {T = T} xs a b k l (Err e) → Does {T = U} (xs ++ ys) a b k l (Err f)
  does_on xs ys e f p = does_err (xs ++ ys) f (first_more xs ys p.first)

module _ (a b c : Option (List Event)) (k l m : Trace) where
  pub first_behind : (xs ys : List Note) → Tells xs xs a b k l → TellsFirst ys b c l m → TellsFirst (xs ++ ys) a c k m
  first_behind xs ys p q = record {
    made = xs ++ q.made;
    shown = xs ++ q.shown;
    cut = cut_behind xs ys q.made q.shown q.cut;
    tells = tells_then xs xs q.made q.shown a b c k l m p q.tells;
  }

  -- a sync that may have failed, behind all others
  pub first_sync : {T E : Type 0} (xs : List Note) (r : Result T E) → Tells xs xs a b k l → Tells (Sync ∷ []) (if_well r (Sync ∷ [])) b c l m → TellsFirst (xs ++ Sync ∷ []) a c k m
  first_sync xs (Ok v) p q = record { made = xs ++ Sync ∷ []; shown = xs ++ Sync ∷ []; cut = cut_none (xs ++ Sync ∷ []); tells = tells_then xs xs (Sync ∷ []) (Sync ∷ []) a b c k l m p q }
  first_sync xs (Err e) p q = record { made = xs ++ Sync ∷ []; shown = xs; cut = cut_sync xs; tells = shorter (tells_then xs xs (Sync ∷ []) [] a b c k l m p q) }
    where
      shorter : Tells (xs ++ Sync ∷ []) (xs ++ []) a c k m → Tells (xs ++ Sync ∷ []) xs a c k m
      shorter t = record { seen = t.seen; shows = rw (sym (append-nil xs)) t.shows }

  -- a call behind others that went well
  pub does_then : {T E : Type 0} (xs ys : List Note) (r : Result T E) → Tells xs xs a b k l → Does ys b c l m r → Does (xs ++ ys) a c k m r
  does_then xs ys (Ok v) p q = record { all = tells_then xs xs ys ys a b c k l m p q.all; first = tt }
  does_then xs ys (Err e) p q = record { all = tt; first = first_behind xs ys p q.first }

  -- a sync behind others that went well
  pub does_sync : {T E : Type 0} (xs : List Note) (r : Result T E) → Tells xs xs a b k l → Tells (Sync ∷ []) (if_well r (Sync ∷ [])) b c l m → Does (xs ++ Sync ∷ []) a c k m r
  does_sync xs (Ok v) p q = record { all = tells_then xs xs (Sync ∷ []) (Sync ∷ []) a b c k l m p q; first = tt }
  does_sync {T} xs (Err e) p q = record { all = tt; first = first_sync {T = T} xs (Err e) p q }

-- a sync that failed, before others
pub sync_cut : (ys : List Note) (a b : Option (List Event)) (k l : Trace) → Tells (Sync ∷ []) [] a b k l → TellsFirst ((Sync ∷ []) ++ ys) a b k l
sync_cut ys a b k l tells = record { made = Sync ∷ []; shown = []; cut = cut_more (Sync ∷ []) ys (Sync ∷ []) [] (cut_sync []); tells = tells }

-- the events of some of the first steps are some of the first events
front_events : (n : ℕ) (steps : List Note) → events_of (take n steps) ≡ take (length (events_of (take n steps))) (events_of steps)
front_events n steps =
    sym (ap (λ (l : List Event). take (length (events_of (take n steps))) l) (ap events_of (sym (take-append-drop n steps)) ∙ events_join (take n steps) (drop n steps))
    ∙ take_at (events_of (take n steps)) (events_of (drop n steps)) (length (events_of (take n steps))) refl)

front_short : (n : ℕ) (steps : List Note) → length (events_of (take n steps)) ≤ length (events_of steps)
front_short n steps =
    let whole = ap (λ (l : List Note). length (events_of l)) (sym (take-append-drop n steps)) ∙ ap length (events_join (take n steps) (drop n steps)) ∙ length-append (events_of (take n steps)) (events_of (drop n steps)) in
    omega (arith, whole)

pub cut_noted : (steps made shown : List Note) (a b : Option (List Event)) → IsCut steps made shown → Notes (events_of made) a b → NotesFirst (events_of steps) a b
cut_noted steps made shown a b cut seen =
    let n = cut.count in
    (length (events_of (take n steps)), front_short n steps, subst (λ (l : List Event). Notes l a b) (ap events_of cut.made_are ∙ front_events n steps) seen)

-- some of the first steps
pub first_noted : (steps : List Note) (a b : Option (List Event)) (k l : Trace) → TellsFirst steps a b k l → NotesFirst (events_of steps) a b
first_noted steps a b k l first = cut_noted steps first.made first.shown a b first.cut first.tells.seen
