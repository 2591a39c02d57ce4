-- What a line does to what is known is determined.
use Rattle.std.proofs.Common.{◌≡◌, ◌<◌, ℕ, List, [], ◌∷◌, sym, ap, ◌∙◌, arith, inl, inr}
use Rattle.std.specs.Int.{div_ceil}
use Rattle.ob_base.specs.declared.params.Params.{Params}
use Rattle.ob_base.specs.Layout.{checkpoint_cells, checkpoint_len, check_cell, slot_cell, log_cell}
use Rattle.ob_store.specs.declared.watch.Note.{Note}
use Rattle.ob_store.specs.declared.watch.Note.TheVariants as N
use Rattle.ob_schedule.specs.Holes.{Hole}
use Rattle.ob_schedule.specs.Schedule.{gate_cell, body_cell}
use Rattle.ob_schedule.specs.declared.line.Line.{Line}
use Rattle.ob_schedule.specs.declared.line.Line.TheVariants as L
use Rattle.ob_schedule.specs.declared.want.Side.{Side}
use Rattle.ob_schedule.specs.declared.want.Side.TheVariants.{Even, Odd}
use Rattle.ob_schedule.specs.declared.want.Want.{Want}
use Rattle.ob_schedule.specs.declared.want.Want.TheVariants.{Fixed, Place, Record, Setting, Checkpoint}
use Rattle.ob_schedule.specs.Sides.{other, side_number, register_region}
use Rattle.ob_schedule.specs.Standing.{with_slot}
use Rattle.ob_schedule.specs.Follow.{Follow, TakesWant, TakesNote, TakesLine, taken_up, shows_label, repeated_batch, next_side}

some_parts : (x : ℕ) → 0 < x → 0 < div_ceil x 96
some_parts x some = omega arith

pub some_checks : (p : Params) → 0 < checkpoint_cells p
unfolding checkpoint_cells checkpoint_len
some_checks p = some_parts (checkpoint_len p) (omega arith)

checks_apart : (p : Params) (e : Side) → check_cell p (side_number e) 0 ≡ check_cell p (side_number (other e)) 0 → ⊥
checks_apart p Even same = omega (arith, same, some_checks p)
checks_apart p Odd same = omega (arith, same, some_checks p)

slots_apart : (p : Params) (home u s t : ℕ) → slot_cell p home u s ≡ slot_cell p home u t → s ≡ t
slots_apart p home u s t same = omega (arith, same)

same_read : (c d : ℕ) (n : Note) → n ≡ N.Read c → n ≡ N.Read d → c ≡ d
same_read c d n a b = cc

same_write : (c d : ℕ) (n : Note) → n ≡ N.Write c → n ≡ N.Write d → c ≡ d
same_write c d n a b = cc

same_label : (x y : ℕ) (n : Note) → n ≡ N.Label x → n ≡ N.Label y → x ≡ y
same_label x y n a b = cc

label_or_write : (x c : ℕ) (n : Note) → n ≡ N.Label x → n ≡ N.Write c → ⊥
label_or_write x c n a b = cc

want_determined : (f : Follow) (w : Want) (ws : List Want) (n : Note) (g h : Follow) → TakesWant f w ws n g → TakesWant f w ws n h → g ≡ h
want_determined f (Fixed note change) ws n g h a b = a.1 ∙ sym b.1
want_determined f (Place batch place) ws n g h (x, a) (y, b) = a.1 ∙ ap (λ (leaf : ℕ). taken_up (shows_label (record f { wants = ws }) batch place leaf)) (same_label x y n a.0.is b.0.is) ∙ sym b.1
want_determined f (Record batch) ws n g h (inl (x, a)) (inl (y, b)) = a.then ∙ ap (λ (leaf : ℕ). taken_up (repeated_batch f batch ws leaf)) (same_label x y n a.is b.is) ∙ sym b.then
want_determined f (Record batch) ws n g h (inl (x, a)) (inr b) = absurd (label_or_write x (log_cell f.params (side_number (other f.stands.epoch)) batch 0) n a.is b.is)
want_determined f (Record batch) ws n g h (inr a) (inl (y, b)) = absurd (label_or_write y (log_cell f.params (side_number (other f.stands.epoch)) batch 0) n b.is a.is)
want_determined f (Record batch) ws n g h (inr a) (inr b) = a.then ∙ sym b.then
want_determined f (Setting r) ws n g h (inl a) (inl b) = a.then ∙ sym b.then
want_determined f (Setting r) ws n g h (inl a) (inr b) = absurd (omega (arith, same_write (gate_cell f.params (register_region r) (side_number (next_side f.stands r))) (body_cell f.params (register_region r) (side_number (next_side f.stands r))) n a.is b.is))
want_determined f (Setting r) ws n g h (inr a) (inl b) = absurd (omega (arith, same_write (gate_cell f.params (register_region r) (side_number (next_side f.stands r))) (body_cell f.params (register_region r) (side_number (next_side f.stands r))) n b.is a.is))
want_determined f (Setting r) ws n g h (inr a) (inr b) = a.then ∙ sym b.then
want_determined f Checkpoint ws n g h (inl a) (inl b) = a.then ∙ sym b.then
want_determined f Checkpoint ws n g h (inl a) (inr b) = absurd (checks_apart f.params f.stands.epoch (same_read _ _ n a.is b.is))
want_determined f Checkpoint ws n g h (inr a) (inl b) = absurd (checks_apart f.params f.stands.epoch (same_read _ _ n b.is a.is))
want_determined f Checkpoint ws n g h (inr a) (inr b) = a.then ∙ sym b.then

note_determined : (f : Follow) (hs : List Hole) (ws : List Want) (n : Note) (g h : Follow) → TakesNote f hs ws n g → TakesNote f hs ws n h → g ≡ h
note_determined f (hole ∷ hs) ws n g h (s, a) (t, b) =
    let home : ℕ = side_number (f.stands.homes hole.bucket) in
    let same : s ≡ t = slots_apart f.params home hole.bucket s t (same_read _ _ n a.0.is b.0.is) in
    a.1 ∙ ap (λ (slot : ℕ). taken_up (record f { stands = with_slot f.stands hole slot; holes = hs })) same ∙ sym b.1
note_determined f [] (w ∷ ws) n g h a b = want_determined f w ws n g h a b
note_determined f [] [] n g h a b = absurd a

pub determined : (f : Follow) (line : Line) (g h : Follow) → TakesLine f line g → TakesLine f line h → g ≡ h
determined f (L.Start p) g h a b = a ∙ sym b
determined f (L.Open mirrored) g h a b = a ∙ sym b
determined f (L.Note n) g h a b = note_determined f f.holes f.wants n g h a b
determined f L.Bad g h a b = absurd a
