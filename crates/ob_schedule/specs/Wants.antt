-- The lists of what a run shows next, from the public schedule's own, each note with what it changes.
use Rattle.std.specs.Prelude.{ℕ, Bool, true, ◌+◌, List, [], ◌∷◌, ◌++◌, map, drop, filter}
use Rattle.ob_base.specs.declared.params.Params.{Params}
use Rattle.ob_base.specs.Tree.{below}
use Rattle.ob_base.specs.Layout.{GenerationTwin, EpochTwin, LogArea, log_cell, log_gate, record_cells}
use Rattle.ob_store.specs.declared.watch.Note.{Note}
use Rattle.ob_store.specs.declared.watch.Note.TheVariants.{Write, Sync}
use Rattle.ob_schedule.specs.Holes.{Hole, final_holes}
use Rattle.ob_schedule.specs.Paths.{by_falling_level}
use Rattle.ob_schedule.specs.Schedule.{region_cells, reads_of, writes_of, twin_gates, check_cells, log_gates, bucket_writes, set_twin, first_reads, is_lifted_by_end, counts_now}
use Rattle.ob_schedule.specs.declared.want.Side.{Side}
use Rattle.ob_schedule.specs.declared.want.Gate.{Gate}
use Rattle.ob_schedule.specs.declared.want.Gate.TheVariants.{Open, Closed, Unsure}
use Rattle.ob_schedule.specs.declared.want.Register.{Register}
use Rattle.ob_schedule.specs.declared.want.Register.TheVariants.{Generation, Epoch}
use Rattle.ob_schedule.specs.declared.want.Change.{Change}
use Rattle.ob_schedule.specs.declared.want.Change.TheVariants.{Keeps, Settles, Doubts, Closes, SetsGeneration, EndsEpoch, MayLog, Logs}
use Rattle.ob_schedule.specs.declared.want.Want.{Want}
use Rattle.ob_schedule.specs.declared.want.Want.TheVariants.{Fixed, Place, Setting}
use Rattle.ob_schedule.specs.Sides.{other, side_number, register_region}
use Rattle.ob_schedule.specs.Standing.{StandingKnown, public_known}

abbrev pub kept : List Note → List Want
kept notes = map (λ note. Fixed note Keeps) notes

-- notes, each with its change, and those behind with none
abbrev pub changing : List Note → List Change → List Want
changing [] changes = []
changing (note ∷ notes) [] = kept (note ∷ notes)
changing (note ∷ notes) (change ∷ changes) = Fixed note change ∷ changing notes changes

-- A gate that is being closed may be found in either state. The opening of the generation's counts as not made before its sync; that
-- of the epoch's may have been made.
abbrev pub set_changes : Register → List Change
set_changes Generation = Doubts Generation ∷ Closes Generation ∷ Keeps ∷ Keeps ∷ Keeps ∷ SetsGeneration ∷ []
set_changes Epoch = Doubts Epoch ∷ Closes Epoch ∷ Keeps ∷ Keeps ∷ EndsEpoch ∷ Settles ∷ []

-- a setting, whose gate is closed first
abbrev pub setting : Params → Register → Side → List Want
setting p r side = changing (set_twin p (register_region r) (side_number side) true) (set_changes r)

-- a setting, by what is known of its gate
abbrev pub sets : Params → Register → Side → Gate → List Want
sets p r side Open = setting p r side
sets p r side Closed = drop 2 (setting p r side)
sets p r side Unsure = Setting r ∷ []

abbrev pub record_wants : Params → Side → ℕ → List Want
record_wants p side batch =
    kept (writes_of (map (log_cell p (side_number side) batch) (below (record_cells p))))
    ++ (Fixed Sync Keeps ∷ Fixed (Write (log_gate p (side_number side) batch)) MayLog ∷ Fixed Sync Logs ∷ [])

abbrev pub places : Params → ℕ → List Want
places p batch = map (λ i. Place batch i) (below p.places)

-- behind the registers an opening reads the checkpoint and the next epoch's log area, and sets the next generation
abbrev pub found_wants : Params → StandingKnown → List Want
found_wants p s =
    kept (reads_of (check_cells p (side_number s.epoch)) ++ reads_of (region_cells p (LogArea (side_number (other s.epoch)))))
    ++ Fixed Sync Settles ∷ sets p Generation (other s.generation) s.generation_gate

abbrev pub register_wants : Params → Bool → List Want
register_wants p mirrored = kept (first_reads p mirrored ++ reads_of (region_cells p GenerationTwin ++ region_cells p EpochTwin))

-- the lifted ones of these buckets are written in their other home
abbrev pub writes_anew : Params → StandingKnown → List ℕ → List ℕ → List Note
writes_anew p s leaves us = bucket_writes p (λ u. side_number (other (s.homes u))) (filter (is_lifted_by_end p (public_known p s leaves)) us)

-- what an end writes behind its lifts
abbrev pub end_wants : Params → StandingKnown → List ℕ → List Want
end_wants p s leaves =
    kept (writes_anew p s leaves (by_falling_level (p.levels + 1)) ++ writes_of (check_cells p (side_number (other s.epoch))) ++ writes_of (log_gates p (side_number s.epoch)) ++ (Sync ∷ []))
    ++ sets p Epoch (other s.epoch) s.epoch_gate

abbrev pub end_holes : Params → StandingKnown → List ℕ → List Hole
end_holes p s leaves = final_holes p (counts_now p (public_known p s leaves)) s.counter

-- ---- parts of a format's notes

abbrev pub format_front : Params → List Note
format_front p = (Write 0 ∷ Sync ∷ []) ++ writes_of (twin_gates p) ++ writes_of (log_gates p 0 ++ log_gates p 1) ++ (Sync ∷ []) ++ set_twin p GenerationTwin 1 true

abbrev pub format_rest : Params → List Note
format_rest p = (Sync ∷ []) ++ set_twin p EpochTwin 0 true ++ (Write 0 ∷ [])
