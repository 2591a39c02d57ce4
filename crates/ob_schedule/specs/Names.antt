-- What an auditor says is wanted, and which lines that names.
use Rattle.std.specs.Prelude.{◌≡◌, ◌<◌, ℕ, ◌^◌, false, ◌⊎◌, ◌↔◌, List, [], ◌∷◌, Option, Some, None}
use Rattle.ob_base.specs.Tree.{width}
use Rattle.ob_base.specs.Layout.{log_cell, check_cell, slot_cell}
use Rattle.ob_store.specs.declared.watch.Note.TheVariants as N
use Rattle.ob_schedule.specs.Holes.{Hole}
use Rattle.ob_schedule.specs.Schedule.{gate_cell, body_cell}
use Rattle.ob_schedule.specs.declared.line.Line.{Line}
use Rattle.ob_schedule.specs.declared.line.Line.TheVariants as L
use Rattle.ob_schedule.specs.declared.line.Wanted.{Wanted}
use Rattle.ob_schedule.specs.declared.line.Wanted.TheVariants as W
use Rattle.ob_schedule.specs.declared.want.Want.{Want}
use Rattle.ob_schedule.specs.declared.want.Want.TheVariants.{Fixed, Place, Record, Setting, Checkpoint}
use Rattle.ob_schedule.specs.Sides.{other, side_number, register_region}
use Rattle.ob_schedule.specs.Follow.{Follow, next_side, Admits}

abbrev pub NamesLabel : Follow → Line → Type 0
NamesLabel f line = (leaf : ℕ) × (leaf < 2 ^ f.params.levels) × (line ≡ L.Note (N.Label leaf))

pub record NamesSlot (f : Follow) (bucket : ℕ) (line : Line) (slot : ℕ) : Type 0 where
  pub within : slot < width f.params
  pub fresh : f.stands.used bucket slot ≡ false
  pub is : line ≡ L.Note (N.Read (slot_cell f.params (side_number (f.stands.homes bucket)) bucket slot))

-- the lines that are named
abbrev pub Names : Follow → Wanted → Line → Type 0
Names f W.Start line = ⊥
Names f W.Label line = NamesLabel f line
Names f (W.Slot bucket) line = (slot : ℕ) × NamesSlot f bucket line slot
Names f (W.Line note) line = line ≡ L.Note note
Names f (W.LabelOr cell) line = NamesLabel f line ⊎ (line ≡ L.Note (N.Write cell))
Names f (W.Either first second) line = (line ≡ L.Note (N.Read first)) ⊎ (line ≡ L.Note (N.Read second))
Names f (W.EitherWrite gate body) line = (line ≡ L.Note (N.Write gate)) ⊎ (line ≡ L.Note (N.Write body))
Names f W.End line = ⊥

-- a run or a format begins
abbrev pub IsStop : Line → Type 0
IsStop (L.Start p) = Unit {0}
IsStop (L.Open mirrored) = Unit {0}
IsStop (L.Note note) = ⊥
IsStop L.Bad = ⊥

-- The line may not stand next, and what is said to be wanted is just what may, beside a stop.
pub record RefusesLine (f : Follow) (line : Line) (wanted : Wanted) : Type 0 where
  pub never : Admits f line → ⊥
  pub exact : (l : Line) → Admits f l ↔ (IsStop l ⊎ Names f wanted l)

-- ---- what is said

abbrev pub wanted_slot : Follow → Hole → Option ℕ → Wanted
wanted_slot f h (Some slot) = W.Line (N.Read (slot_cell f.params (side_number (f.stands.homes h.bucket)) h.bucket slot))
wanted_slot f h None = W.Slot h.bucket

abbrev pub wanted_label : Option ℕ → Wanted
wanted_label (Some leaf) = W.Line (N.Label leaf)
wanted_label None = W.Label

abbrev pub wanted_want : Follow → Want → Wanted
wanted_want f (Fixed note change) = W.Line note
wanted_want f (Place batch place) = wanted_label (f.stands.labels batch place)
wanted_want f (Record batch) = W.LabelOr (log_cell f.params (side_number (other f.stands.epoch)) batch 0)
wanted_want f (Setting r) = W.EitherWrite (gate_cell f.params (register_region r) (side_number (next_side f.stands r))) (body_cell f.params (register_region r) (side_number (next_side f.stands r)))
wanted_want f Checkpoint = W.Either (check_cell f.params (side_number f.stands.epoch) 0) (check_cell f.params (side_number (other f.stands.epoch)) 0)

abbrev pub wanted_at : Follow → List Hole → List Want → Wanted
wanted_at f (h ∷ holes) wants = wanted_slot f h (f.stands.slots h)
wanted_at f [] (want ∷ wants) = wanted_want f want
wanted_at f [] [] = W.Start

abbrev pub wanted_next : Follow → Wanted
wanted_next f = wanted_at f f.holes f.wants
