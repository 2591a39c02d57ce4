-- What is said to be wanted is just what may stand next.
use Rattle.std.proofs.Common.{◌≡◌, ℕ, List, [], ◌∷◌, Option, Some, None, refl, sym, ap, ◌∙◌, subst, inl, inr}
use Rattle.std.specs.Prelude.{◌⊎◌, ◌↔◌}
use Rattle.ob_base.specs.Layout.{slot_cell}
use Rattle.ob_store.specs.declared.watch.Note.{Note}
use Rattle.ob_store.specs.declared.watch.Note.TheVariants as N
use Rattle.ob_schedule.specs.Holes.{Hole}
use Rattle.ob_schedule.specs.declared.line.Line.{Line}
use Rattle.ob_schedule.specs.declared.line.Line.TheVariants as L
use Rattle.ob_schedule.specs.declared.line.Wanted.{Wanted}
use Rattle.ob_schedule.specs.declared.line.Wanted.TheVariants as W
use Rattle.ob_schedule.specs.declared.want.Want.{Want}
use Rattle.ob_schedule.specs.declared.want.Want.TheVariants.{Fixed, Place, Record, Setting, Checkpoint}
use Rattle.ob_schedule.specs.Sides.{side_number}
use Rattle.ob_schedule.specs.Follow.{Follow, MayShow, MayLabel, TakesWant, TakesNote, Admits, started, opened}
use Rattle.ob_schedule.specs.Names.{Names, IsStop, RefusesLine, wanted_slot, wanted_label, wanted_want, wanted_at, wanted_next}

-- ---- what is taken is named

slot_named : (f : Follow) (h : Hole) (o : Option ℕ) (n : Note) (slot : ℕ) → n ≡ N.Read (slot_cell f.params (side_number (f.stands.homes h.bucket)) h.bucket slot) → MayShow f h o slot → Names f (wanted_slot f h o) (L.Note n)
slot_named f h (Some x) n slot is may = ap L.Note (is ∙ ap (λ (s : ℕ). N.Read (slot_cell f.params (side_number (f.stands.homes h.bucket)) h.bucket s)) may)
slot_named f h None n slot is may = (slot, record { within = may.0; fresh = may.1; is = ap L.Note is })

label_named : (f : Follow) (o : Option ℕ) (n : Note) (leaf : ℕ) → n ≡ N.Label leaf → MayLabel f o leaf → Names f (wanted_label o) (L.Note n)
label_named f (Some x) n leaf is may = ap L.Note (is ∙ ap N.Label may)
label_named f None n leaf is may = (leaf, may, ap L.Note is)

want_named : (f : Follow) (w : Want) (ws : List Want) (n : Note) (next : Follow) → TakesWant f w ws n next → Names f (wanted_want f w) (L.Note n)
want_named f (Fixed note change) ws n next t = ap L.Note t.0
want_named f (Place b i) ws n next (leaf, t) = label_named f (f.stands.labels b i) n leaf t.0.is t.0.may
want_named f (Record b) ws n next (inl (leaf, t)) = inl (leaf, t.within, ap L.Note t.is)
want_named f (Record b) ws n next (inr t) = inr (ap L.Note t.is)
want_named f (Setting r) ws n next (inl t) = inl (ap L.Note t.is)
want_named f (Setting r) ws n next (inr t) = inr (ap L.Note t.is)
want_named f Checkpoint ws n next (inl t) = inl (ap L.Note t.is)
want_named f Checkpoint ws n next (inr t) = inr (ap L.Note t.is)

pub note_named : (f : Follow) (hs : List Hole) (ws : List Want) (n : Note) (next : Follow) → TakesNote f hs ws n next → Names f (wanted_at f hs ws) (L.Note n)
note_named f (h ∷ hs) ws n next (slot, t) = slot_named f h (f.stands.slots h) n slot t.0.is t.0.may
note_named f [] (w ∷ ws) n next t = want_named f w ws n next t
note_named f [] [] n next t = t

-- ---- what is named is taken

same_note : (a b : Note) → L.Note a ≡ L.Note b → a ≡ b
same_note a b e = cc

slot_taken : (f : Follow) (h : Hole) (o : Option ℕ) (n : Note) → Names f (wanted_slot f h o) (L.Note n) → (slot : ℕ) × ((n ≡ N.Read (slot_cell f.params (side_number (f.stands.homes h.bucket)) h.bucket slot)) × MayShow f h o slot)
slot_taken f h (Some x) n named = (x, (same_note _ _ named, refl))
slot_taken f h None n (slot, named) = (slot, (same_note _ _ named.is, (named.within, named.fresh)))

label_taken : (f : Follow) (o : Option ℕ) (n : Note) → Names f (wanted_label o) (L.Note n) → (leaf : ℕ) × ((n ≡ N.Label leaf) × MayLabel f o leaf)
label_taken f (Some x) n named = (x, (same_note _ _ named, refl))
label_taken f None n (leaf, within, named) = (leaf, (same_note _ _ named, within))

want_taken : (f : Follow) (w : Want) (ws : List Want) (n : Note) → Names f (wanted_want f w) (L.Note n) → (next : Follow) × TakesWant f w ws n next
want_taken f (Fixed note change) ws n named = (_, (same_note _ _ named, refl))
want_taken f (Place b i) ws n named = let t = label_taken f (f.stands.labels b i) n named in (_, (t.0, (record { is = t.1.0; may = t.1.1 }, refl)))
want_taken f (Record b) ws n (inl (leaf, within, named)) = (_, inl (leaf, record { within = within; is = same_note _ _ named; then = refl }))
want_taken f (Record b) ws n (inr named) = (_, inr (record { is = same_note _ _ named; then = refl }))
want_taken f (Setting r) ws n (inl named) = (_, inl (record { is = same_note _ _ named; then = refl }))
want_taken f (Setting r) ws n (inr named) = (_, inr (record { is = same_note _ _ named; then = refl }))
want_taken f Checkpoint ws n (inl named) = (_, inl (record { is = same_note _ _ named; then = refl }))
want_taken f Checkpoint ws n (inr named) = (_, inr (record { is = same_note _ _ named; then = refl }))

pub note_taken : (f : Follow) (hs : List Hole) (ws : List Want) (n : Note) → Names f (wanted_at f hs ws) (L.Note n) → (next : Follow) × TakesNote f hs ws n next
note_taken f (h ∷ hs) ws n named = let t = slot_taken f h (f.stands.slots h) n named in (_, (t.0, (record { is = t.1.0; may = t.1.1 }, refl)))
note_taken f [] (w ∷ ws) n named = want_taken f w ws n named
note_taken f [] [] n named = absurd named

-- ---- both ways

bad_unnamed : (f : Follow) (w : Wanted) → Names f w L.Bad → ⊥
bad_unnamed f W.Start named = named
bad_unnamed f W.Label (leaf, within, named) = absurd (cc)
bad_unnamed f (W.Slot u) (slot, named) = let e : L.Bad ≡ _ = named.is in absurd (cc)
bad_unnamed f (W.Line n) named = absurd (cc)
bad_unnamed f (W.LabelOr c) (inl (leaf, within, named)) = absurd (cc)
bad_unnamed f (W.LabelOr c) (inr named) = absurd (cc)
bad_unnamed f (W.Either c d) (inl named) = absurd (cc)
bad_unnamed f (W.Either c d) (inr named) = absurd (cc)
bad_unnamed f (W.EitherWrite c d) (inl named) = absurd (cc)
bad_unnamed f (W.EitherWrite c d) (inr named) = absurd (cc)
bad_unnamed f W.End named = named

from_note : (f : Follow) (n : Note) → IsStop (L.Note n) ⊎ Names f (wanted_next f) (L.Note n) → Admits f (L.Note n)
from_note f n (inl stop) = absurd stop
from_note f n (inr named) = note_taken f f.holes f.wants n named

from_bad : (f : Follow) → IsStop L.Bad ⊎ Names f (wanted_next f) L.Bad → Admits f L.Bad
from_bad f (inl stop) = absurd stop
from_bad f (inr named) = absurd (bad_unnamed f (wanted_next f) named)

pub exact : (f : Follow) (l : Line) → Admits f l ↔ (IsStop l ⊎ Names f (wanted_next f) l)
exact f (L.Start p) = (λ a. inl tt, λ s. (started p, refl))
exact f (L.Open mirrored) = (λ a. inl tt, λ s. (opened mirrored f, refl))
exact f (L.Note n) = (λ a. inr (note_named f f.holes f.wants n a.0 a.1), from_note f n)
exact f L.Bad = (λ a. absurd a.1, from_bad f)

pub refuses : (f : Follow) (l : Line) (w : Wanted) → (Admits f l → ⊥) → w ≡ wanted_next f → RefusesLine f l w
refuses f l w never is = record { never = never; exact = λ m. subst (λ (v : Wanted). Admits f m ↔ (IsStop m ⊎ Names f v m)) (sym is) (exact f m) }
