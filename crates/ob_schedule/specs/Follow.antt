-- What is known behind some lines of a trace, and which line may stand next.
use Rattle.std.specs.Prelude.{◌≡◌, ◌<◌, ℕ, ◌+◌, ◌^◌, nat_lt, ◌==◌, Bool, true, false, ◌&&◌, ◌⊎◌, cond, List, [], ◌∷◌, ◌++◌, drop, Option, Some, None}
use Rattle.ob_base.specs.declared.params.Params.{Params}
use Rattle.ob_base.specs.Tree.{width}
use Rattle.ob_base.specs.Layout.{log_cell, check_cell, slot_cell}
use Rattle.ob_store.specs.declared.watch.Note.{Note}
use Rattle.ob_store.specs.declared.watch.Note.TheVariants.{Label, Read, Write}
use Rattle.ob_schedule.specs.Holes.{Hole, place_holes}
use Rattle.ob_schedule.specs.Schedule.{counts_now, format_notes, head_notes, gate_cell, body_cell}
use Rattle.ob_schedule.specs.declared.line.Line.{Line}
use Rattle.ob_schedule.specs.declared.line.Line.TheVariants as L
use Rattle.ob_schedule.specs.declared.want.Side.{Side}
use Rattle.ob_schedule.specs.declared.want.Gate.{Gate}
use Rattle.ob_schedule.specs.declared.want.Gate.TheVariants.{Open, Closed, Unsure}
use Rattle.ob_schedule.specs.declared.want.Register.{Register}
use Rattle.ob_schedule.specs.declared.want.Register.TheVariants.{Generation, Epoch}
use Rattle.ob_schedule.specs.declared.want.Change.{Change}
use Rattle.ob_schedule.specs.declared.want.Change.TheVariants.{Keeps, Formats, Settles, Doubts, Closes, SetsGeneration, EndsEpoch, MayLog, Logs}
use Rattle.ob_schedule.specs.declared.want.Want.{Want}
use Rattle.ob_schedule.specs.declared.want.Want.TheVariants.{Fixed, Place, Record, Setting, Checkpoint}
use Rattle.ob_schedule.specs.Sides.{other, side_number, register_region}
use Rattle.ob_schedule.specs.Standing.{StandingKnown, standing_formatted, public_known, with_label, with_slot, standing_ended}
use Rattle.ob_schedule.specs.Wants.{kept, setting, record_wants, places, found_wants, register_wants, end_wants, end_holes}

pub record Follow : Type 0 where
  pub params : Params
  pub formatted : Bool  -- the format is whole
  pub runs : Bool  -- a run goes on behind what is wanted of its present step
  pub stands : StandingKnown
  pub newer : Option StandingKnown  -- what stands if the last end's gate was opened
  pub chosen : Bool  -- this run has found that it was
  pub batch : ℕ  -- batches that this attempt has begun
  pub leaves : List ℕ  -- shown by this attempt
  pub holes : List Hole  -- slots that are wanted, before the rest
  pub wants : List Want  -- the rest of the present step

-- ---- a format, and what comes when a step is done

-- the last sync of a format makes it whole
abbrev pub format_wants : List Note → List Want
format_wants [] = []
format_wants (note ∷ []) = Fixed note Formats ∷ []
format_wants (note ∷ next ∷ notes) = Fixed note Keeps ∷ format_wants (next ∷ notes)

abbrev pub started : Params → Follow
started p =
    record {
      params = p;
      formatted = false;
      runs = false;
      stands = standing_formatted;
      newer = None;
      chosen = false;
      batch = 0;
      leaves = [];
      holes = [];
      wants = format_wants (format_notes p);
    }

-- Logged batches are repeated, one that may be logged is repeated or begun anew, others are begun; behind the last comes the end.
abbrev pub next_step : Follow → Follow
next_step f =
    let s : StandingKnown = f.stands in
    cond (nat_lt f.batch f.params.batches)
    (record f {
      batch = f.batch + 1;
      wants = cond (nat_lt f.batch s.logged) (places f.params f.batch)
          (cond ((f.batch == s.logged) && s.maybe) (Record f.batch ∷ []) (record_wants f.params (other s.epoch) f.batch ++ places f.params f.batch));
    })
    (record f { holes = end_holes f.params s f.leaves; wants = end_wants f.params s f.leaves })

abbrev pub on_from : List Hole → List Want → Bool → Follow → Follow
on_from [] [] true f = next_step f
on_from holes wants runs f = f

-- the next step is taken up as soon as nothing is wanted of the present one
abbrev pub taken_up : Follow → Follow
taken_up f = on_from f.holes f.wants f.runs f

-- behind a stop a run begins, with a mirror or without one; on a store that isn't whole it reads the head alone
abbrev pub opened_wants : Params → Bool → StandingKnown → Option StandingKnown → List Want
opened_wants p mirrored s None = register_wants p mirrored ++ found_wants p s
opened_wants p mirrored s (Some newer) = register_wants p mirrored ++ Checkpoint ∷ []

abbrev pub opened : Bool → Follow → Follow
opened mirrored f =
    cond f.formatted
    (record f { runs = true; chosen = false; batch = 0; leaves = []; holes = []; wants = opened_wants f.params mirrored f.stands f.newer })
    (record f { runs = false; holes = []; wants = kept head_notes })

-- ---- what a line does

abbrev pub newer_or_same : StandingKnown → Option StandingKnown → StandingKnown
newer_or_same s None = s
newer_or_same s (Some newer) = newer

abbrev pub with_gate : Register → Gate → StandingKnown → StandingKnown
with_gate Generation gate s = record s { generation_gate = gate }
with_gate Epoch gate s = record s { epoch_gate = gate }

abbrev pub changed : Change → Follow → Follow
changed Keeps f = f
changed Formats f = record f { formatted = true }
changed Settles f = record f { stands = cond f.chosen (newer_or_same f.stands f.newer) f.stands; newer = None; chosen = false; batch = 0; leaves = [] }
changed (Doubts r) f = record f { stands = with_gate r Unsure f.stands }
changed (Closes r) f = record f { stands = with_gate r Closed f.stands }
changed SetsGeneration f = record f { stands = record f.stands { generation = other f.stands.generation; generation_gate = Open } }
changed EndsEpoch f = record f { newer = Some (standing_ended f.params f.stands f.leaves); chosen = true }
changed MayLog f = record f { stands = record f.stands { maybe = true } }
changed Logs f = record f { stands = record f.stands { logged = f.batch; maybe = false } }

-- a place shows its label, and its slots are wanted
abbrev pub shows_label : Follow → ℕ → ℕ → ℕ → Follow
shows_label f batch place leaf =
    record f {
      stands = with_label f.stands batch place leaf;
      leaves = f.leaves ++ leaf ∷ [];
      holes = place_holes f.params (counts_now f.params (public_known f.params f.stands f.leaves)) leaf;
    }

abbrev pub next_side : StandingKnown → Register → Side
next_side s Generation = other s.generation
next_side s Epoch = other s.epoch

-- ---- which line may stand next

-- what was shown is shown again; else any slot that the version hasn't shown
abbrev pub MayShow : Follow → Hole → Option ℕ → ℕ → Type 0
MayShow f h (Some shown) slot = slot ≡ shown
MayShow f h None slot = (slot < width f.params) × (f.stands.used h.bucket slot ≡ false)

pub record ShowsSlot (f : Follow) (h : Hole) (note : Note) (slot : ℕ) : Type 0 where
  pub is : note ≡ Read (slot_cell f.params (side_number (f.stands.homes h.bucket)) h.bucket slot)
  pub may : MayShow f h (f.stands.slots h) slot

abbrev pub TakesSlot : Follow → Hole → List Hole → Note → Follow → ℕ → Type 0
TakesSlot f h holes note next slot = ShowsSlot f h note slot × (next ≡ taken_up (record f { stands = with_slot f.stands h slot; holes = holes }))

-- a place shows its label again; else any
abbrev pub MayLabel : Follow → Option ℕ → ℕ → Type 0
MayLabel f (Some shown) leaf = leaf ≡ shown
MayLabel f None leaf = leaf < 2 ^ f.params.levels

pub record ShowsLabel (f : Follow) (batch place : ℕ) (note : Note) (leaf : ℕ) : Type 0 where
  pub is : note ≡ Label leaf
  pub may : MayLabel f (f.stands.labels batch place) leaf

abbrev pub TakesLabel : Follow → ℕ → ℕ → List Want → Note → Follow → ℕ → Type 0
TakesLabel f batch place wants note next leaf = ShowsLabel f batch place note leaf × (next ≡ taken_up (shows_label (record f { wants = wants }) batch place leaf))

-- a batch that may be logged is: its first place shows a label, and the others follow
abbrev pub repeated_batch : Follow → ℕ → List Want → ℕ → Follow
repeated_batch f batch wants leaf =
    shows_label (record f { stands = record f.stands { logged = f.batch; maybe = false }; wants = wants ++ drop 1 (places f.params batch) }) batch 0 leaf

pub record RepeatsBatch (f : Follow) (batch : ℕ) (wants : List Want) (note : Note) (next : Follow) (leaf : ℕ) : Type 0 where
  pub within : leaf < 2 ^ f.params.levels
  pub is : note ≡ Label leaf
  pub then : next ≡ taken_up (repeated_batch f batch wants leaf)

-- it isn't, and is begun anew
pub record BeginsBatch (f : Follow) (batch : ℕ) (wants : List Want) (note : Note) (next : Follow) : Type 0 where
  pub is : note ≡ Write (log_cell f.params (side_number (other f.stands.epoch)) batch 0)
  pub then : next ≡ taken_up (record f { stands = record f.stands { maybe = false }; wants = wants ++ drop 1 (record_wants f.params (other f.stands.epoch) batch ++ places f.params batch) })

-- the gate is open, and is closed first
pub record ClosesFirst (f : Follow) (r : Register) (wants : List Want) (note : Note) (next : Follow) : Type 0 where
  pub is : note ≡ Write (gate_cell f.params (register_region r) (side_number (next_side f.stands r)))
  pub then : next ≡ taken_up (record f { wants = wants ++ drop 1 (setting f.params r (next_side f.stands r)) })

-- the gate is closed, and the body comes first
pub record BodyFirst (f : Follow) (r : Register) (wants : List Want) (note : Note) (next : Follow) : Type 0 where
  pub is : note ≡ Write (body_cell f.params (register_region r) (side_number (next_side f.stands r)))
  pub then : next ≡ taken_up (record f { stands = with_gate r Closed f.stands; wants = wants ++ drop 3 (setting f.params r (next_side f.stands r)) })

-- the run finds that the last end's gate wasn't opened, or that it was
pub record FindsOlder (f : Follow) (wants : List Want) (note : Note) (next : Follow) : Type 0 where
  pub is : note ≡ Read (check_cell f.params (side_number f.stands.epoch) 0)
  pub then : next ≡ taken_up (record f { wants = wants ++ drop 1 (found_wants f.params f.stands) })

pub record FindsNewer (f : Follow) (wants : List Want) (note : Note) (next : Follow) : Type 0 where
  pub is : note ≡ Read (check_cell f.params (side_number (other f.stands.epoch)) 0)
  pub then : next ≡ taken_up (record f { chosen = true; wants = wants ++ drop 1 (found_wants f.params (newer_or_same f.stands f.newer)) })

abbrev pub TakesWant : Follow → Want → List Want → Note → Follow → Type 0
TakesWant f (Fixed wanted change) wants note next = (note ≡ wanted) × (next ≡ taken_up (changed change (record f { wants = wants })))
TakesWant f (Place batch place) wants note next = (leaf : ℕ) × TakesLabel f batch place wants note next leaf
TakesWant f (Record batch) wants note next = ((leaf : ℕ) × RepeatsBatch f batch wants note next leaf) ⊎ BeginsBatch f batch wants note next
TakesWant f (Setting r) wants note next = ClosesFirst f r wants note next ⊎ BodyFirst f r wants note next
TakesWant f Checkpoint wants note next = FindsOlder f wants note next ⊎ FindsNewer f wants note next

abbrev pub TakesNote : Follow → List Hole → List Want → Note → Follow → Type 0
TakesNote f (h ∷ holes) wants note next = (slot : ℕ) × TakesSlot f h holes note next slot
TakesNote f [] (want ∷ wants) note next = TakesWant f want wants note next
TakesNote f [] [] note next = ⊥

abbrev pub TakesLine : Follow → Line → Follow → Type 0
TakesLine f (L.Start p) next = next ≡ started p
TakesLine f (L.Open mirrored) next = next ≡ opened mirrored f
TakesLine f (L.Note note) next = TakesNote f f.holes f.wants note next
TakesLine f L.Bad next = ⊥

-- the line may stand next
abbrev pub Admits : Follow → Line → Type 0
Admits f line = (next : Follow) × TakesLine f line next
