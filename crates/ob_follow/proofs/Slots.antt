-- A slot that no read shows, and lines that are refused.
use Rattle.std.specs.Prelude.{◌≡◌, ◌<◌, ℕ, false, Option, Some, None}
use Rattle.std.proofs.Common.{ap, ◌∙◌, subst, arith}
use Rattle.ob_base.specs.Tree.{width}
use Rattle.ob_base.proofs.Bounds.{width_le}
use Rattle.ob_base.specs.Layout.{slot_cell}
use Rattle.ob_store.specs.declared.watch.Note.{Note}
use Rattle.ob_store.specs.declared.watch.Note.TheVariants as N
use Rattle.ob_schedule.specs.Holes.{Hole}
use Rattle.ob_schedule.specs.declared.line.Line.TheVariants as L
use Rattle.ob_schedule.specs.declared.line.Wanted.{Wanted}
use Rattle.ob_schedule.specs.Sides.{side_number}
use Rattle.ob_schedule.specs.Follow.{Follow, MayShow, ShowsSlot}
use Rattle.ob_schedule.specs.Names.{RefusesLine, wanted_next}
use Rattle.ob_schedule.proofs.Exact.{refuses}
use Rattle.ob_follow.specs.Plain.{Took}

pub none_some : (x : ℕ) → None ≡ Some x → ⊥
none_some x e = cc

same_cell : (a b : ℕ) → N.Read a ≡ N.Read b → a ≡ b
same_cell a b e = cc

pub not_in : (f : Follow) (h : Hole) (cell : ℕ) → f.stands.slots h ≡ None → ((slot : ℕ) → slot < width f.params → cell ≡ slot_cell f.params (side_number (f.stands.homes h.bucket)) h.bucket slot → ⊥)
    → (slot : ℕ) → ShowsSlot f h (N.Read cell) slot → ⊥
not_in f h cell none never slot shown =
    let may : MayShow f h None slot = subst (λ (o : Option ℕ). MayShow f h o slot) none shown.may in
    never slot may.0 (same_cell cell (slot_cell f.params (side_number (f.stands.homes h.bucket)) h.bucket slot) shown.is)

-- a slot that a read shows for the first time is one of the bucket's
pub few_slots : (f : Follow) (h : Hole) (note : Note) (slot : ℕ) → ShowsSlot f h note slot → f.stands.slots h ≡ None → slot < 64
few_slots f h note slot shown none =
    let may : MayShow f h None slot = subst (λ (o : Option ℕ). MayShow f h o slot) none shown.may in
    omega (arith, may.0, width_le f.params)

pub refuses_bad : (f : Follow) (wanted : Wanted) → wanted ≡ wanted_next f → RefusesLine f L.Bad wanted
refuses_bad f wanted is = refuses f L.Bad wanted (λ a. a.1) is

pub refuses_note : (old new : Follow) (note : Note) (wanted : Wanted) → Took old new note false → wanted ≡ wanted_next new → (new ≡ old) × RefusesLine old (L.Note note) wanted
refuses_note old new note wanted took is = (took.0, refuses old (L.Note note) wanted (λ a. took.1 a.0 a.1) (is ∙ ap wanted_next took.0))
