-- How the row of an end closes.
use Rattle.std.specs.Prelude.{◌≡◌, ℕ, ◌+◌, ◌-◌, ◌%◌, List, [], ◌∷◌, ◌++◌, cond, filter, length, take}
use Rattle.std.proofs.Common.{append_assoc, arith, length-append, sym, ap, ◌∙◌}
use Rattle.std.proofs.lemmas.List.{take-append-le, take_all}
use Rattle.ob_base.specs.Layout.{EpochTwin}
use Rattle.ob_base.specs.declared.params.Params.{Params}
use Rattle.ob_schedule.specs.Paths.{by_falling_level}
use Rattle.ob_schedule.specs.Phases.{Phase, Syncs, Writes, end_phases, phases_of, shared}
use Rattle.ob_schedule.specs.Schedule.{Fills, Public, body_cell, bucket_writes, check_cells, end_lifts, end_notes, gate_cell, is_lifted_by_end, log_gates, writes_of, written_by_end}
use Rattle.ob_schedule.proofs.Phased.{phases_append}
use Rattle.ob_store.specs.declared.watch.Note.{Note}
use Rattle.ob_store.specs.declared.watch.Note.TheVariants.{Sync, Write}
use Rattle.ob_end.specs.Shown.{before_gate, up_to_gate}

-- as many of a row as its first part has
first_of : {X : Type 0} (xs ys : List X) (n : ℕ) → n ≡ length xs → take n (xs ++ ys) ≡ xs
first_of xs ys n many = take-append-le n xs ys (omega (arith, many)) ∙ take_all n xs (omega (arith, many))

pub before_end : {X : Type 0} (xs : List X) (x y : X) → before_gate (xs ++ x ∷ y ∷ []) ≡ xs
before_end xs x y = first_of xs (x ∷ y ∷ []) (length (xs ++ x ∷ y ∷ []) - 2) (omega (arith, length-append xs (x ∷ y ∷ [])))

pub up_end : {X : Type 0} (xs : List X) (x y : X) → up_to_gate (xs ++ x ∷ y ∷ []) ≡ xs ++ x ∷ []
up_end {X} xs x y =
    ap (λ (ns : List X). up_to_gate ns) (sym (append_assoc xs (x ∷ []) (y ∷ [])))
    ∙ first_of (xs ++ x ∷ []) (y ∷ []) (length ((xs ++ x ∷ []) ++ y ∷ []) - 1) (omega (arith, length-append (xs ++ x ∷ []) (y ∷ [])))

regroup : (b c g s l w t : List Note) → b ++ c ++ g ++ s ++ (l ++ (w ++ t)) ≡ (b ++ (c ++ (g ++ (s ++ (l ++ w))))) ++ t
regroup b c g s l w t = simp append_assoc

module _ (p : Params) (q : Public) (f : Fills) where
  -- the cell of the register's gate
  abbrev gate : ℕ
  gate = gate_cell p EpochTwin (q.epoch + 1)

  -- what comes between the lifts and the gate's write
  abbrev pub behind_lifts : List Note
  behind_lifts =
      let e = q.epoch + 1 in
      bucket_writes p (λ u. 1 - q.homes u) (filter (is_lifted_by_end p q) (by_falling_level (p.levels + 1)))
      ++ (writes_of (check_cells p (e % 2)) ++ (writes_of (log_gates p ((e + 1) % 2))
      ++ ((Sync ∷ []) ++ (cond (q.gates gate) (Write gate ∷ Sync ∷ []) [] ++ (Write (body_cell p EpochTwin e) ∷ Sync ∷ [])))))

  rest_closes : written_by_end p q ≡ behind_lifts ++ Write gate ∷ Sync ∷ []
  rest_closes =
      let e = q.epoch + 1 in
      regroup (bucket_writes p (λ u. 1 - q.homes u) (filter (is_lifted_by_end p q) (by_falling_level (p.levels + 1))))
      (writes_of (check_cells p (e % 2))) (writes_of (log_gates p ((e + 1) % 2))) (Sync ∷ []) (cond (q.gates gate) (Write gate ∷ Sync ∷ []) []) (Write (body_cell p EpochTwin e) ∷ Sync ∷ []) (Write gate ∷ Sync ∷ [])

  pub end_closes : end_notes p q f ≡ (end_lifts p q f ++ behind_lifts) ++ Write gate ∷ Sync ∷ []
  end_closes = ap (λ (ns : List Note). end_lifts p q f ++ ns) rest_closes ∙ sym (append_assoc (end_lifts p q f) behind_lifts (Write gate ∷ Sync ∷ []))

  -- and its phases
  pub phases_close : end_phases p q f ≡ (shared (end_lifts p q f) ∷ phases_of behind_lifts) ++ Writes (gate ∷ []) ∷ Syncs ∷ []
  phases_close = ap (λ (ps : List Phase). shared (end_lifts p q f) ∷ ps) (ap phases_of rest_closes ∙ phases_append behind_lifts (Write gate ∷ Sync ∷ []))

  pub before_phases : before_gate (end_phases p q f) ≡ shared (end_lifts p q f) ∷ phases_of behind_lifts
  before_phases = ap (λ (ps : List Phase). before_gate ps) phases_close ∙ before_end (shared (end_lifts p q f) ∷ phases_of behind_lifts) (Writes (gate ∷ [])) Syncs

  pub before_closes : before_gate (end_notes p q f) ≡ end_lifts p q f ++ behind_lifts
  before_closes = ap (λ (ns : List Note). before_gate ns) end_closes ∙ before_end (end_lifts p q f ++ behind_lifts) (Write gate) Sync

  -- up to the gate's write
  pub up_closes : up_to_gate (end_notes p q f) ≡ before_gate (end_notes p q f) ++ Write gate ∷ []
  up_closes =
      ap (λ (ns : List Note). up_to_gate ns) end_closes ∙ up_end (end_lifts p q f ++ behind_lifts) (Write gate) Sync
      ∙ ap (λ (ns : List Note). ns ++ Write gate ∷ []) (sym before_closes)

  pub all_closes : end_notes p q f ≡ before_gate (end_notes p q f) ++ Write gate ∷ Sync ∷ []
  all_closes = end_closes ∙ ap (λ (ns : List Note). ns ++ Write gate ∷ Sync ∷ []) (sym before_closes)
