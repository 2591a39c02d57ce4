-- What is wanted are the public schedule's notes.
use Rattle.std.proofs.Common.{◌≡◌, ℕ, ◌+◌, ◌-◌, ◌%◌, filter, Bool, List, [], ◌∷◌, ◌++◌, map, refl, sym, ap, ◌∙◌, append_assoc, append-nil}
use Rattle.ob_base.specs.declared.params.Params.{Params}
use Rattle.ob_base.specs.Tree.{below}
use Rattle.ob_base.specs.Layout.{GenerationTwin, EpochTwin, LogArea, log_cell, log_gate, record_cells}
use Rattle.ob_store.specs.declared.watch.Note.{Note}
use Rattle.ob_store.specs.declared.watch.Note.TheVariants.{Write, Sync}
use Rattle.ob_schedule.specs.Paths.{by_falling_level}
use Rattle.ob_schedule.specs.Schedule.{Fills, Public, set_twin, record_notes, open_notes, end_notes, first_reads, hole_reads, bucket_writes, is_lifted_by_end, log_gates, writes_of, reads_of, region_cells, check_cells, gate_cell}
use Rattle.ob_schedule.specs.declared.want.Side.{Side}
use Rattle.ob_schedule.specs.declared.want.Side.TheVariants.{Even, Odd}
use Rattle.ob_schedule.specs.declared.want.Gate.{Gate}
use Rattle.ob_schedule.specs.declared.want.Gate.TheVariants.{Open, Closed, Unsure}
use Rattle.ob_schedule.specs.declared.want.Register.{Register}
use Rattle.ob_schedule.specs.declared.want.Register.TheVariants.{Generation, Epoch}
use Rattle.ob_schedule.specs.declared.want.Change.TheVariants.{Keeps, Settles, MayLog, Logs}
use Rattle.ob_schedule.specs.declared.want.Want.{Want}
use Rattle.ob_schedule.specs.declared.want.Want.TheVariants.{Fixed, Place, Record, Setting, Checkpoint}
use Rattle.ob_schedule.specs.Sides.{side_number, register_region, other}
use Rattle.ob_schedule.specs.Standing.{StandingKnown, public_known}
use Rattle.ob_schedule.specs.Wants.{kept, sets, record_wants, found_wants, register_wants, writes_anew, end_holes, end_wants}
use Rattle.ob_schedule.specs.Follow.{format_wants}
use Rattle.ob_schedule.specs.Laws.{fixed_notes, IsGateKnown}

pub notes_append : (xs ys : List Want) → fixed_notes (xs ++ ys) ≡ fixed_notes xs ++ fixed_notes ys
notes_append [] ys = refl
notes_append (Fixed n c ∷ xs) ys = ap (λ (ns : List Note). n ∷ ns) (notes_append xs ys)
notes_append (Place b i ∷ xs) ys = notes_append xs ys
notes_append (Record b ∷ xs) ys = notes_append xs ys
notes_append (Setting r ∷ xs) ys = notes_append xs ys
notes_append (Checkpoint ∷ xs) ys = notes_append xs ys

pub notes_kept : (ns : List Note) → fixed_notes (kept ns) ≡ ns
notes_kept [] = refl
notes_kept (n ∷ ns) = ap (λ (ms : List Note). n ∷ ms) (notes_kept ns)

pub notes_format : (ns : List Note) → fixed_notes (format_wants ns) ≡ ns
notes_format [] = refl
notes_format (n ∷ []) = refl
notes_format (n ∷ m ∷ ns) = ap (λ (ms : List Note). n ∷ ms) (notes_format (m ∷ ns))

-- kept notes, and wants behind them
pub notes_behind : (ns : List Note) (ws : List Want) → fixed_notes (kept ns ++ ws) ≡ ns ++ fixed_notes ws
notes_behind ns ws = notes_append (kept ns) ws ∙ ap (λ (ms : List Note). ms ++ fixed_notes ws) (notes_kept ns)

pub notes_record : (p : Params) (side : Side) (batch : ℕ) → fixed_notes (record_wants p side batch) ≡ record_notes p (side_number side) batch
notes_record p side batch =
    notes_behind (writes_of (map (log_cell p (side_number side) batch) (below (record_cells p)))) (Fixed Sync Keeps ∷ Fixed (Write (log_gate p (side_number side) batch)) MayLog ∷ Fixed Sync Logs ∷ [])

pub notes_set : (p : Params) (r : Register) (side : Side) (gate : Gate) (is_open : Bool) → IsGateKnown gate is_open → fixed_notes (sets p r side gate) ≡ set_twin p (register_region r) (side_number side) is_open
notes_set p Generation side Open is_open known = ap (set_twin p GenerationTwin (side_number side)) (sym known)
notes_set p Epoch side Open is_open known = ap (set_twin p EpochTwin (side_number side)) (sym known)
notes_set p Generation side Closed is_open known = ap (set_twin p GenerationTwin (side_number side)) (sym known)
notes_set p Epoch side Closed is_open known = ap (set_twin p EpochTwin (side_number side)) (sym known)
notes_set p r side Unsure is_open known = absurd known

-- ---- an opening

tail_joined : (ns ws : List Note) → ns ++ Sync ∷ ws ≡ ((ns ++ (Sync ∷ [])) ++ ws) ++ []
tail_joined ns ws = sym (append-nil ((ns ++ (Sync ∷ [])) ++ ws) ∙ append_assoc ns (Sync ∷ []) ws)

-- the reads of a checkpoint and a log area, by their numbers
abbrev found_reads : Params → ℕ → ℕ → List Note
found_reads p check log = reads_of (check_cells p check) ++ reads_of (region_cells p (LogArea log))

by_sides : (p : Params) (epoch : Side) (ws : List Note) → found_reads p (side_number epoch) (side_number (other epoch)) ++ Sync ∷ ws ≡ ((found_reads p (side_number epoch % 2) ((side_number epoch + 1) % 2) ++ (Sync ∷ [])) ++ ws) ++ []
by_sides p Even ws = tail_joined (found_reads p 0 1) ws
by_sides p Odd ws = tail_joined (found_reads p 1 0) ws

pub notes_open : (p : Params) (mirrored : Bool) (s : StandingKnown) (f : Fills) (found : ℕ → Bool) → IsGateKnown s.generation_gate (found (gate_cell p GenerationTwin (side_number (other s.generation))))
    → fixed_notes (register_wants p mirrored ++ found_wants p s) ≡ first_reads p mirrored ++ open_notes p (public_known p s []) f found (side_number (other s.generation)) 0
notes_open p mirrored s f found known =
    let area : ℕ = side_number (other s.epoch) in
    let registers : List Note = reads_of (region_cells p GenerationTwin ++ region_cells p EpochTwin) in
    let set : List Note = set_twin p GenerationTwin (side_number (other s.generation)) (found (gate_cell p GenerationTwin (side_number (other s.generation)))) in
    let sets_notes : fixed_notes (sets p Generation (other s.generation) s.generation_gate) ≡ set =
    notes_set p Generation (other s.generation) s.generation_gate (found (gate_cell p GenerationTwin (side_number (other s.generation)))) known in
    let behind : fixed_notes (found_wants p s) ≡ _ =
    notes_behind (found_reads p (side_number s.epoch) area) (Fixed Sync Settles ∷ sets p Generation (other s.generation) s.generation_gate)
    ∙ ap (λ (ws : List Note). found_reads p (side_number s.epoch) area ++ Sync ∷ ws) sets_notes
    ∙ by_sides p s.epoch set in
    notes_behind (first_reads p mirrored ++ registers) (found_wants p s) ∙ ap (λ (ns : List Note). (first_reads p mirrored ++ registers) ++ ns) behind
    ∙ append_assoc (first_reads p mirrored) registers (((found_reads p (side_number s.epoch % 2) ((side_number s.epoch + 1) % 2) ++ (Sync ∷ [])) ++ set) ++ [])

-- ---- an end

-- the other home, by its number
other_home : (side : Side) → side_number (other side) ≡ 1 - side_number side
other_home Even = refl
other_home Odd = refl

-- what an end writes behind the buckets, by the epoch's number
abbrev end_tail : Params → List Note → ℕ → ℕ → ℕ → Bool → List Note
end_tail p front check log epoch is_open = (((front ++ writes_of (check_cells p check)) ++ writes_of (log_gates p log)) ++ (Sync ∷ [])) ++ set_twin p EpochTwin epoch is_open

by_epoch : (p : Params) (front : List Note) (epoch : Side) (is_open : Bool) → end_tail p front (side_number (other epoch)) (side_number epoch) (side_number (other epoch)) is_open ≡ end_tail p front ((side_number epoch + 1) % 2) ((side_number epoch + 1 + 1) % 2) (side_number epoch + 1) is_open
by_epoch p front Even is_open = refl
by_epoch p front Odd is_open = refl

pub notes_end : (p : Params) (s : StandingKnown) (leaves : List ℕ) (f : Fills) (found : ℕ → Bool) → IsGateKnown s.epoch_gate (found (gate_cell p EpochTwin (side_number s.epoch + 1)))
    → hole_reads p (public_known p s leaves) f (end_holes p s leaves) ++ fixed_notes (end_wants p s leaves) ≡ end_notes p (record (public_known p s leaves) { gates = found }) f
notes_end p s leaves f found known =
    let q : Public = public_known p s leaves in
    let h : List Note = hole_reads p q f (end_holes p s leaves) in
    let is_open : Bool = found (gate_cell p EpochTwin (side_number s.epoch + 1)) in
    let us : List ℕ = filter (is_lifted_by_end p q) (by_falling_level (p.levels + 1)) in
    let w : List Note = writes_anew p s leaves (by_falling_level (p.levels + 1)) in
    let c : List Note = writes_of (check_cells p (side_number (other s.epoch))) in
    let g : List Note = writes_of (log_gates p (side_number s.epoch)) in
    let t : List Note = set_twin p EpochTwin (side_number (other s.epoch)) is_open in
    let homes : w ≡ bucket_writes p (λ u. 1 - side_number (s.homes u)) us = ap (λ (home : ℕ → ℕ). bucket_writes p home us) (λ i u. other_home (s.homes u) i) in
    ap (λ (ns : List Note). h ++ ns) (notes_behind (((w ++ c) ++ g) ++ (Sync ∷ [])) (sets p Epoch (other s.epoch) s.epoch_gate) ∙ ap (λ (ns : List Note). (((w ++ c) ++ g) ++ (Sync ∷ [])) ++ ns) (notes_set p Epoch (other s.epoch) s.epoch_gate is_open known))
    ∙ ap (λ (ns : List Note). h ++ ((((ns ++ c) ++ g) ++ (Sync ∷ [])) ++ t)) homes
    ∙ ap (λ (ns : List Note). h ++ ns) (by_epoch p (bucket_writes p (λ u. 1 - side_number (s.homes u)) us) s.epoch is_open)
