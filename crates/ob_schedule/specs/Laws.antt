-- What is said of the definitions.
use Rattle.std.specs.Prelude.{◌≡◌, ◌⊎◌, ◌↔◌, ℕ, ◌+◌, Bool, true, false, List, [], ◌∷◌, ◌++◌}
use Rattle.ob_base.specs.declared.params.Params.{Params}
use Rattle.ob_base.specs.Layout.{GenerationTwin, EpochTwin}
use Rattle.ob_store.specs.declared.watch.Note.{Note}
use Rattle.ob_schedule.specs.Schedule.{Fills, set_twin, record_notes, format_notes, open_notes, first_reads, end_notes, hole_reads, gate_cell}
use Rattle.ob_schedule.specs.declared.line.Line.{Line}
use Rattle.ob_schedule.specs.declared.want.Side.{Side}
use Rattle.ob_schedule.specs.declared.want.Gate.{Gate}
use Rattle.ob_schedule.specs.declared.want.Gate.TheVariants.{Open, Closed, Unsure}
use Rattle.ob_schedule.specs.declared.want.Register.{Register}
use Rattle.ob_schedule.specs.declared.want.Want.{Want}
use Rattle.ob_schedule.specs.declared.want.Want.TheVariants.{Fixed, Place, Record, Setting, Checkpoint}
use Rattle.ob_schedule.specs.Sides.{side_number, register_region, other}
use Rattle.ob_schedule.specs.Standing.{StandingKnown, public_known}
use Rattle.ob_schedule.specs.Wants.{sets, record_wants, found_wants, register_wants, end_holes, end_wants}
use Rattle.ob_schedule.specs.Follow.{Follow, TakesLine, Admits, started}
use Rattle.ob_schedule.specs.Names.{Names, IsStop, wanted_next}

abbrev pub WantedIsExact : Type 0
WantedIsExact = (f : Follow) (line : Line) → Admits f line ↔ (IsStop line ⊎ Names f (wanted_next f) line)

-- the notes of wants that are fixed
abbrev pub fixed_notes : List Want → List Note
fixed_notes [] = []
fixed_notes (Fixed note change ∷ wants) = note ∷ fixed_notes wants
fixed_notes (Place batch place ∷ wants) = fixed_notes wants
fixed_notes (Record batch ∷ wants) = fixed_notes wants
fixed_notes (Setting r ∷ wants) = fixed_notes wants
fixed_notes (Checkpoint ∷ wants) = fixed_notes wants

-- a gate that is known to be open, or closed
abbrev pub IsGateKnown : Gate → Bool → Type 0
IsGateKnown Open is_open = is_open ≡ true
IsGateKnown Closed is_open = is_open ≡ false
IsGateKnown Unsure is_open = ⊥

pub record NotesAreScheduled : Type 0 where
  pub formats : (p : Params) → fixed_notes (started p).wants ≡ format_notes p
  pub records : (p : Params) (side : Side) (batch : ℕ) → fixed_notes (record_wants p side batch) ≡ record_notes p (side_number side) batch
  pub settings : (p : Params) (r : Register) (side : Side) (gate : Gate) (is_open : Bool) → IsGateKnown gate is_open → fixed_notes (sets p r side gate) ≡ set_twin p (register_region r) (side_number side) is_open
  -- an opening that repeats no batch, behind the head and the copy for a mirror
  pub opens : (p : Params) (mirrored : Bool) (s : StandingKnown) (f : Fills) (found : ℕ → Bool) → IsGateKnown s.generation_gate (found (gate_cell p GenerationTwin (side_number (other s.generation))))
      → fixed_notes (register_wants p mirrored ++ found_wants p s) ≡ first_reads p mirrored ++ open_notes p (public_known p s []) f found (side_number (other s.generation)) 0
  -- an end, whose lifts are the holes'
  pub ends : (p : Params) (s : StandingKnown) (leaves : List ℕ) (f : Fills) (found : ℕ → Bool) → IsGateKnown s.epoch_gate (found (gate_cell p EpochTwin (side_number s.epoch + 1)))
      → hole_reads p (public_known p s leaves) f (end_holes p s leaves) ++ fixed_notes (end_wants p s leaves) ≡ end_notes p (record (public_known p s leaves) { gates = found }) f

-- what is known behind a line is told by what was known before and the line
abbrev pub LineDetermines : Type 0
LineDetermines = (f : Follow) (line : Line) (g h : Follow) → TakesLine f line g → TakesLine f line h → g ≡ h
