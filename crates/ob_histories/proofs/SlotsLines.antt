-- Of lines that are admitted each slot is its version's, by some fills; so they are histories.
use Rattle.std.specs.Prelude.{◌≡◌, ◌⊎◌, ℕ, List, [], ◌∷◌, ◌++◌}
use Rattle.std.specs.List.{flat_map}
use Rattle.std.proofs.Common.{refl, ap, subst, inl, inr, arith}
use Rattle.ob_base.specs.declared.params.Params.{Params}
use Rattle.ob_store.specs.declared.watch.Note.{Note}
use Rattle.ob_schedule.specs.Schedule.{format_notes}
use Rattle.ob_schedule.specs.declared.line.Line.{Line}
use Rattle.ob_schedule.specs.declared.line.Line.TheVariants as L
use Rattle.ob_schedule.specs.Standing.{StandingKnown}
use Rattle.ob_schedule.specs.Follow.{Follow, opened, started, format_wants}
use Rattle.ob_histories.specs.Filled.{epoch_behind, TakesFilled, TakesLabelled, HasNoStart}
use Rattle.ob_histories.specs.Histories.{IsHistory, IsCutHistory, AreHistories}
use Rattle.ob_histories.specs.Laws.{TakesLines, AdmittedAreHistories}
use Rattle.ob_histories.proofs.Admitting.{formatted_stands}
use Rattle.ob_histories.proofs.FrontsRuns.{filled_are_all}
use Rattle.ob_histories.proofs.Labels.{Leaves, InRange, opening_stands, labels_are}
use Rattle.ob_histories.proofs.Slots.{Slots, AreSlots, AgreeSlots, first_slots, first_are, fills_by}
use Rattle.ob_histories.proofs.SlotsKnown.{OnlyKept, fills, Slotted, opening_slotted}
use Rattle.ob_histories.proofs.SlotsSteps.{one_step}

only_kept : (notes : List Note) → OnlyKept (format_wants notes)
only_kept [] = tt
only_kept (note ∷ []) = (tt, tt)
only_kept (note ∷ next ∷ notes) = (tt, only_kept (next ∷ notes))

module _ (p : Params) (leaf : Leaves) (within : InRange p leaf) where
  record Passed (slots : Slots) (epoch : ℕ) (k : Follow) (lines : List Line) : Type 0 where
    last : Slots
    are : AreSlots p leaf within last
    agree : AgreeSlots p leaf within slots last epoch k.stands
    filled : TakesFilled p (fills p leaf within last) epoch k lines

  pass : (slots : Slots) (epoch : ℕ) (k : Follow) (lines : List Line) → AreSlots p leaf within slots → Slotted p leaf within slots epoch k → TakesLabelled leaf epoch k lines → Passed slots epoch k lines
  pass slots epoch k [] are is labelled = record { last = slots; are = are; agree = record { old = λ u v n few other. refl; present = λ u n used. refl }; filled = tt }
  pass slots epoch k (L.Start q ∷ lines) are is labelled = absurd labelled
  pass slots epoch k (L.Bad ∷ lines) are is labelled = absurd labelled
  pass slots epoch k (L.Open mirrored ∷ lines) are is labelled =
      let rest = pass slots epoch (opened mirrored k) lines are (opening_slotted p leaf within slots epoch mirrored k is) labelled in
      record { last = rest.last; are = rest.are; agree = subst (λ (s : StandingKnown). AgreeSlots p leaf within slots rest.last epoch s) (opening_stands p mirrored k) rest.agree; filled = rest.filled }
  pass slots epoch k (L.Note note ∷ lines) are is (next, (takes, (given, labelled))) =
      let s = one_step p leaf within slots epoch k note next are is given takes in
      let rest = pass s.then (epoch_behind k epoch) next lines s.are s.known labelled in
      let back = s.back rest.last rest.agree in
      record { last = rest.last; are = rest.are; agree = back.0; filled = (next, takes, back.1, rest.filled) }

  started_slotted : Slotted p leaf within (first_slots p leaf within) 0 (started p)
  started_slotted = record {
    params = refl;
    few = omega arith;
    holds = (formatted_stands p (fills p leaf within (first_slots p leaf within))).0;
    marked = λ h x shown. absurd (cc);
    newer = tt;
    holes = tt;
    wants = only_kept (format_notes p);
  }

  slots_are : (lines : List Line) → TakesLabelled leaf 0 (started p) lines → IsHistory p (L.Start p ∷ lines) ⊎ IsCutHistory p (L.Start p ∷ lines)
  slots_are lines labelled = go (filled_are_all p (fills p leaf within passed.last) lines (fills_by p leaf within passed.last passed.are) passed.filled)
    where
      passed : Passed (first_slots p leaf within) 0 (started p) lines
      passed = pass (first_slots p leaf within) 0 (started p) lines (first_are p leaf within) started_slotted labelled

      go : ((h : IsHistory p (L.Start p ∷ lines)) × (h.fills ≡ fills p leaf within passed.last)) ⊎ IsCutHistory p (L.Start p ∷ lines) → IsHistory p (L.Start p ∷ lines) ⊎ IsCutHistory p (L.Start p ∷ lines)
      go (inl history) = inl history.0
      go (inr cut) = inr cut

-- ---- from one format to the next

one_history : (p : Params) (lines : List Line) (last : Follow) → HasNoStart lines → TakesLines (started p) lines last → IsHistory p (L.Start p ∷ lines) ⊎ IsCutHistory p (L.Start p ∷ lines)
one_history p lines last none takes = (let labels = labels_are p lines last none takes in slots_are p labels.0 labels.1 lines labels.2)

-- lines up to the next format, and the histories behind them
record Blocks (known : Follow) (lines : List Line) : Type 0 where
  front : List Line
  histories : List (List Line)
  are : lines ≡ front ++ flat_map (λ history. history) histories
  none : HasNoStart front
  then : Follow
  takes : TakesLines known front then
  told : AreHistories histories

blocks_of : (known last : Follow) (lines : List Line) → TakesLines known lines last → Blocks known lines
blocks_of known last [] takes = record { front = []; histories = []; are = refl; none = tt; then = known; takes = refl; told = tt }
blocks_of known last (L.Bad ∷ lines) (next, takes, more) = absurd takes
blocks_of known last (L.Open mirrored ∷ lines) (next, takes, more) =
    let rest = blocks_of next last lines more in
    record { front = L.Open mirrored ∷ rest.front; histories = rest.histories; are = ap (λ (ls : List Line). L.Open mirrored ∷ ls) rest.are; none = rest.none; then = rest.then; takes = (next, takes, rest.takes); told = rest.told }
blocks_of known last (L.Note note ∷ lines) (next, takes, more) =
    let rest = blocks_of next last lines more in
    record { front = L.Note note ∷ rest.front; histories = rest.histories; are = ap (λ (ls : List Line). L.Note note ∷ ls) rest.are; none = rest.none; then = rest.then; takes = (next, takes, rest.takes); told = rest.told }
blocks_of known last (L.Start p ∷ lines) (next, takes, more) =
    let rest = blocks_of (started p) last lines (subst (λ (g : Follow). TakesLines g lines last) takes more) in
    record {
      front = [];
      histories = (L.Start p ∷ rest.front) ∷ rest.histories;
      are = ap (λ (ls : List Line). L.Start p ∷ ls) rest.are;
      none = tt;
      then = known;
      takes = refl;
      told = ((p, one_history p rest.front rest.then rest.none rest.takes), rest.told);
    }

pub admitted_are : AdmittedAreHistories
admitted_are [] admitted = ([], (refl, tt))
admitted_are (L.Open mirrored ∷ lines) admitted = absurd admitted
admitted_are (L.Note note ∷ lines) admitted = absurd admitted
admitted_are (L.Bad ∷ lines) admitted = absurd admitted
admitted_are (L.Start p ∷ lines) (last, takes) =
    let rest = blocks_of (started p) last lines takes in
    ((L.Start p ∷ rest.front) ∷ rest.histories, (ap (λ (ls : List Line). L.Start p ∷ ls) rest.are, ((p, one_history p rest.front rest.then rest.none rest.takes), rest.told)))
