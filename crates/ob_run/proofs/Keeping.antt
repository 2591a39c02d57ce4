-- Each client's act in a whole history is a step by what it is to do.
use Rattle.std.proofs.Common.{◌≡◌, ◌∙◌, ◌==◌, ℕ, zero, suc, Bool, true, false, if◌then◌else◌, Contains, List, [], ◌∷◌, ◌++◌, slice_get, Some, refl, sym, ap, subst, inl, inr, eq-eqb}
use Rattle.std.proofs.lemmas.List.{append-nil, append_assoc}
use Rattle.ob_desk.specs.Desk.{DeskState}
use Rattle.ob_session.specs.Clients.{said_by}
use Rattle.ob_turn.specs.declared.turn.Entry.{Entry}
use Rattle.ob_turn.specs.History.{entries_of, LeadsByTurns}
use Rattle.ob_hall.specs.Turns.{client_numbers, IsTurn}
use Rattle.ob_hall.specs.Passes.{Steps, IsNew, calls_in}
use Rattle.ob_hall.specs.Laws.{AreOwnCalls}
use Rattle.ob_hall.specs.Driving.{StepRule, AreSteps}
use Rattle.ob_hall.proofs.Chaining.{calls_append}
use Rattle.ob_session.proofs.Saying.{said_append}
use Rattle.ob_conduct.specs.Acts.{Act}
use Rattle.ob_conduct.specs.Rounds.{TurnRule, plan_rule, KeepRule}
use Rattle.ob_conduct.proofs.Turning.{keeps_append, keeps_driven}
use Rattle.ob_run.specs.Woven.{IsEntryOf, AreWoven}
use Rattle.ob_run.proofs.WovenRun.{turn_driven, entry_turn}

-- ---- entries

pub of_append : (by : ℕ) (xs ys : List (Entry Steps)) → entries_of by (xs ++ ys) ≡ entries_of by xs ++ entries_of by ys
of_append by [] ys = refl
of_append by (e ∷ xs) ys = one (by == e.by) (of_append by xs ys)
  where
    one : (b : Bool) → entries_of by (xs ++ ys) ≡ entries_of by xs ++ entries_of by ys → (if b then e ∷ entries_of by (xs ++ ys) else entries_of by (xs ++ ys)) ≡ (if b then e ∷ entries_of by xs else entries_of by xs) ++ entries_of by ys
    one true same = ap (λ (l : List (Entry Steps)). e ∷ l) same
    one false same = same

of_own : (e : Entry Steps) (es : List (Entry Steps)) → entries_of e.by (e ∷ es) ≡ e ∷ entries_of e.by es
of_own e es = ap (λ (b : Bool). if b then e ∷ entries_of e.by es else entries_of e.by es) (eq-eqb e.by e.by refl)

-- the front of a legal history is legal
front_legal : (x : DeskState) (xs ys : List (Entry Steps)) (y : DeskState) → LeadsByTurns IsTurn x (xs ++ ys) y → (z : DeskState) × LeadsByTurns IsTurn x xs z
front_legal x [] ys y led = (x, refl)
front_legal x (e ∷ xs) ys y (z, turn, rest) = let (w, first) = front_legal z xs ys y rest in (w, (z, turn, first))

-- a step behind others is one behind what they said
step_at : (rule : StepRule) (number : ℕ) (said : Steps) (xs : List (Entry Steps)) (e : Entry Steps) (ys : List (Entry Steps)) → AreSteps rule number said (xs ++ e ∷ ys) → rule number (said ++ said_by number (calls_in xs)) (calls_in (e ∷ []))
step_at rule number said [] e ys steps = subst (λ (s : Steps). rule number s (calls_in (e ∷ []))) (sym (append-nil said)) steps.0
step_at rule number said (x ∷ xs) e ys steps =
    subst (λ (s : Steps). rule number s (calls_in (e ∷ [])))
    (append_assoc said (said_by number (calls_in (x ∷ []))) (said_by number (calls_in xs)) ∙ ap (λ (s : Steps). said ++ s) (sym (said_append number (calls_in (x ∷ [])) (calls_in xs)) ∙ ap (said_by number) (sym (calls_append (x ∷ []) xs))))
    (step_at rule number (said ++ said_by number (calls_in (x ∷ []))) xs e ys steps.1)

-- ---- the whole history

module _ {Plan : Type 0} (turn : Plan → TurnRule) (seats : List (ℕ × Plan)) (opened d : DeskState) (log : List (Entry Steps)) (own_calls : AreOwnCalls) (new : IsNew opened) (led : LeadsByTurns IsTurn opened log d) where
  abbrev numbers : List ℕ
  numbers = client_numbers opened

  -- the client at this place has a seat, and its entries are steps by its plan
  pub record IsPlanned (at number : ℕ) : Type 0 where
    pub plan : Plan
    pub seat : Contains seats (number, plan)
    pub steps : AreSteps (turn plan) number [] (entries_of (suc at) log)

  module _ (planned : (at number : ℕ) → slice_get numbers at ≡ Some number → IsPlanned at number) where
    -- an entry of a client's
    said_keeps : (before : List (Entry Steps)) (e : Entry Steps) (rest : List (Entry Steps)) (at number : ℕ) → log ≡ before ++ e ∷ rest → e.by ≡ suc at → slice_get numbers at ≡ Some number
        → plan_rule turn seats number (said_by number (calls_in before)) (calls_in (e ∷ []))
    said_keeps before e rest at number log_is by named =
        let p = planned at number named in
        let (z, front) = front_legal opened before (e ∷ rest) d (subst (λ (l : List (Entry Steps)). LeadsByTurns IsTurn opened l d) log_is led) in
        let mine : entries_of (suc at) (e ∷ rest) ≡ e ∷ entries_of (suc at) rest = subst (λ (n : ℕ). entries_of n (e ∷ rest) ≡ e ∷ entries_of n rest) by (of_own e rest) in
        let steps : AreSteps (turn p.plan) number [] (entries_of (suc at) before ++ e ∷ entries_of (suc at) rest) = subst (AreSteps (turn p.plan) number [])
        (ap (entries_of (suc at)) log_is ∙ (of_append (suc at) before (e ∷ rest) ∙ ap (λ (l : List (Entry Steps)). entries_of (suc at) before ++ l) mine)) p.steps in
        (p.plan, p.seat, subst (λ (s : Steps). turn p.plan number s (calls_in (e ∷ []))) (sym (own_calls opened z before at number new front named).0) (step_at (turn p.plan) number [] (entries_of (suc at) before) e (entries_of (suc at) rest) steps))

    -- one entry's acts
    one_keeps : (before : List (Entry Steps)) (e : Entry Steps) (rest : List (Entry Steps)) (by : ℕ) (mine these : List Act) → log ≡ before ++ e ∷ rest → e.by ≡ by → IsEntryOf numbers by (calls_in (e ∷ [])) mine these → KeepRule (plan_rule turn seats) (calls_in before) these
    one_keeps before e rest zero mine these log_is by (one, is, same) = subst (KeepRule (plan_rule turn seats) (calls_in before)) (sym same) (keeps_driven (plan_rule turn seats) (calls_in before) mine (turn_driven mine one))
    one_keeps before e rest (suc i) mine these log_is by (none, inr (nobody, quiet, same)) = subst (KeepRule (plan_rule turn seats) (calls_in before)) (sym same) tt
    one_keeps before e rest (suc i) mine these log_is by (none, inl (number, named, same)) = subst (KeepRule (plan_rule turn seats) (calls_in before)) (sym same) (said_keeps before e rest i number log_is by named, tt)

    keeps_from : (before rest : List (Entry Steps)) (own acts : List Act) → log ≡ before ++ rest → AreWoven numbers rest own acts → KeepRule (plan_rule turn seats) (calls_in before) acts
    keeps_from before [] own acts log_is (none, same) = subst (KeepRule (plan_rule turn seats) (calls_in before)) (sym same) tt
    keeps_from before (e ∷ rest) own acts log_is (mine, more, these, behind, own_is, acts_are, entry, woven) = subst (KeepRule (plan_rule turn seats) (calls_in before)) (sym acts_are)
        (keeps_append (plan_rule turn seats) (calls_in before) these behind (one_keeps before e rest e.by mine these log_is refl entry)
        (subst (λ (s : Steps). KeepRule (plan_rule turn seats) s behind)
        (calls_append before (e ∷ []) ∙ ap (λ (s : Steps). calls_in before ++ s) (sym (entry_turn numbers e.by (calls_in (e ∷ [])) mine these entry).history_is))
        (keeps_from (before ++ e ∷ []) rest more behind (log_is ∙ sym (append_assoc before (e ∷ []) rest)) woven)))

    pub keeps : (own acts : List Act) → AreWoven numbers log own acts → KeepRule (plan_rule turn seats) [] acts
    keeps own acts woven = keeps_from [] log own acts refl woven
