-- A format's notes, part by part.
use Rattle.std.specs.Prelude.{◌≡◌, ℕ, true, List, [], ◌∷◌, ◌++◌, take, drop}
use Rattle.std.proofs.Common.{refl, sym, ap, ◌∙◌, append_assoc}
use Rattle.ob_base.specs.declared.params.Params.{Params}
use Rattle.ob_base.specs.Tree.{below, buckets}
use Rattle.ob_base.specs.Layout.{GenerationTwin, EpochTwin}
use Rattle.ob_store.specs.declared.watch.Note.{Note}
use Rattle.ob_store.specs.declared.watch.Note.TheVariants.{Write, Sync}
use Rattle.ob_schedule.specs.Schedule.{writes_of, log_gates, check_cells, bucket_writes, set_twin, format_notes}
use Rattle.ob_schedule.specs.declared.want.Change.TheVariants.{Keeps, Formats}
use Rattle.ob_schedule.specs.declared.want.Want.{Want}
use Rattle.ob_schedule.specs.declared.want.Want.TheVariants.{Fixed}
use Rattle.ob_schedule.specs.declared.want.Side.{Side}
use Rattle.ob_schedule.specs.declared.want.Register.{Register}
use Rattle.ob_schedule.specs.declared.want.Register.TheVariants.{Generation, Epoch}
use Rattle.ob_schedule.specs.Wants.{kept, setting, format_front}
use Rattle.ob_schedule.specs.Follow.{format_wants, started}

writes_joined : (xs ys : List ℕ) → writes_of (xs ++ ys) ≡ writes_of xs ++ writes_of ys
writes_joined [] ys = refl
writes_joined (x ∷ xs) ys = ap (λ (ns : List Note). Write x ∷ ns) (writes_joined xs ys)

abbrev pub first_notes : List Note
first_notes = Write 0 ∷ Sync ∷ Write 2 ∷ Write 4 ∷ Write 6 ∷ Write 8 ∷ []

-- what sets the generation's second place, behind a sync
abbrev pub set_generation : List Note
set_generation = Sync ∷ Write 4 ∷ Sync ∷ Write 3 ∷ Sync ∷ Write 4 ∷ Sync ∷ []

-- what sets the epoch's first place, behind a sync, and the head
abbrev pub set_epoch : List Note
set_epoch = Sync ∷ Write 6 ∷ Sync ∷ Write 5 ∷ Sync ∷ Write 6 ∷ Sync ∷ Write 0 ∷ []

pub front_made : (p : Params) → ((first_notes ++ writes_of (log_gates p 0)) ++ writes_of (log_gates p 1)) ++ set_generation ≡ format_front p
front_made p =
    sym (append_assoc ((first_notes ++ writes_of (log_gates p 0)) ++ writes_of (log_gates p 1)) (Sync ∷ []) (set_twin p GenerationTwin 1 true))
    ∙ ap (λ (ns : List Note). (ns ++ Sync ∷ []) ++ set_twin p GenerationTwin 1 true) (append_assoc first_notes (writes_of (log_gates p 0)) (writes_of (log_gates p 1)) ∙ ap (λ (ns : List Note). first_notes ++ ns) (sym (writes_joined (log_gates p 0) (log_gates p 1))))

pub format_made : (p : Params) → (((format_front p ++ bucket_writes p (λ u. 0) (below (buckets p))) ++ writes_of (check_cells p 0)) ++ set_epoch) ++ Sync ∷ [] ≡ format_notes p
format_made p =
    let body : List Note = (format_front p ++ bucket_writes p (λ u. 0) (below (buckets p))) ++ writes_of (check_cells p 0) in
    let set : List Note = set_twin p EpochTwin 0 true in
    append_assoc body set_epoch (Sync ∷ [])
    ∙ sym (append_assoc body (Sync ∷ []) (set ++ Write 0 ∷ Sync ∷ []))
    ∙ sym (append_assoc (body ++ Sync ∷ []) set (Write 0 ∷ Sync ∷ []))

-- the last sync makes a format whole
format_last : (notes : List Note) → format_wants (notes ++ Sync ∷ []) ≡ kept notes ++ Fixed Sync Formats ∷ []
format_last [] = refl
format_last (n ∷ []) = refl
format_last (n ∷ m ∷ notes) = ap (λ (ws : List Want). Fixed n Keeps ∷ ws) (format_last (m ∷ notes))

pub wants_made : (p : Params) (notes : List Note) → notes ++ Sync ∷ [] ≡ format_notes p → kept notes ++ Fixed Sync Formats ∷ [] ≡ (started p).wants
wants_made p notes e = sym (format_last notes) ∙ ap format_wants e

-- what sets a register whose gate is closed
pub rest_taken : (p : Params) (r : Register) (side : Side) → take 4 (drop 2 (setting p r side)) ≡ drop 2 (setting p r side)
rest_taken p Generation side = refl
rest_taken p Epoch side = refl
