-- A runner's steps, in turns of its client's pass.
use Rattle.std.proofs.Common.{◌≡◌, ◌⊎◌, ⊎_elim, ◌+◌, ℕ, List, [], ◌∷◌, ◌++◌, length, length-append, arith, sym, ap, subst, ◌∙◌, append_assoc, append-nil}
use Rattle.std.specs.List.{All}
use Rattle.std.proofs.lemmas.List.Elements.{All-append}
use Rattle.ob_desk.specs.Desk.{DeskState}
use Rattle.ob_session.specs.Steps as steps
use Rattle.ob_session.specs.Steps.{IsOwn}
use Rattle.ob_session.specs.Clients.{said_by}
use Rattle.ob_session.proofs.Saying.{said_append}
use Rattle.ob_turn.specs.declared.turn.Entry.{Entry}
use Rattle.ob_turn.specs.History.{entry}
use Rattle.ob_turn.specs.TurnRule.{left}
use Rattle.ob_hall.specs.Passes.{Steps, Hall, Pass, pass_place, history_of, entries_by, calls_in, own_calls, said_of, EntersTurn, LeavesTurn, IsTurnBehind, IsBehind}
use Rattle.ob_hall.specs.Calling.{IsReady, TellsCalls}
use Rattle.ob_hall.specs.Driving.{TurnSays, DriveSays, StepRule, MakesStep, AreSteps, MakesSteps}
use Rattle.ob_hall.proofs.Making.{one_turn}
use Rattle.ob_hall.proofs.Turning.{are_by}
use Rattle.ob_hall.proofs.Chaining.{calls_append, makes_join, said_more}

-- What a client said is longer by the calls of its turn.
pub said_after : (hall : Hall) (before mid after : Pass) (d new : DeskState) (calls : Steps) → IsReady hall before → EntersTurn hall before mid d → steps.Leads d calls new → All (IsOwn before.client) calls → LeavesTurn mid after calls
    → said_of after ≡ said_of before ++ said_by before.client calls
said_after hall before mid after d new calls ready entered led own l =
    said_more hall before after calls (one_turn hall before mid after d new calls ready.own entered led (are_by hall before mid d ready entered calls own) l)

-- The entry of its turn is the last of so many as it was told at the turn's beginning.
pub stands_behind : (told : ℕ) (mid after : Pass) (count : ℕ) (calls : Steps) → IsTurnBehind told mid count → LeavesTurn mid after calls → IsBehind told after count
stands_behind told mid after count calls b l =
    let one : Entry Steps = entry (pass_place mid) (mid.seat.me.0.noted ++ calls ∷ []) in
    let seen : history_of after ≡ history_of mid ++ one ∷ [] = λ i. (l.ends.knows i).0.seen in
    let longer : length (history_of mid ++ one ∷ []) ≡ length (history_of mid) + 1 = length-append (history_of mid) (one ∷ []) in
    let place : length (history_of after) ≡ count = ap length seen ∙ (longer ∙ omega (arith, b.1)) in
    (omega (arith, b.0, place), place)

pub drive_begins : (hall : Hall) (before now : Pass) → TellsCalls hall before now (TurnSays before.client (said_of before)) → TellsCalls hall before now (DriveSays before.client)
drive_begins hall before now t = record { calls = t.calls; says = t.says.0; made = t.made }

pub drive_goes_on : (hall : Hall) (before now after : Pass) → TellsCalls hall before now (DriveSays before.client) → TellsCalls hall now after (TurnSays now.client (said_of now)) → TellsCalls hall before after (DriveSays before.client)
drive_goes_on hall before now after t u = record {
  calls = t.calls ++ u.calls;
  says = All-append (IsOwn before.client) t.calls u.calls t.says (subst (λ (n : ℕ). All (IsOwn n) u.calls) t.made.client u.says.0);
  made = makes_join hall before now after t.calls u.calls t.made u.made;
}

-- no turn was taken yet, or some
abbrev pub IsDriven : Hall → Pass → Pass → Type 0
IsDriven hall before now = (now ≡ before) ⊎ TellsCalls hall before now (DriveSays before.client)

pub driven_on : (hall : Hall) (before now after : Pass) → IsDriven hall before now → TellsCalls hall now after (TurnSays now.client (said_of now)) → TellsCalls hall before after (DriveSays before.client)
driven_on hall before now after driven u = ⊎_elim
    (λ same. drive_begins hall before after (subst (λ (p : Pass). TellsCalls hall p after (TurnSays p.client (said_of p))) same u))
    (λ t. drive_goes_on hall before now after t u)
    driven

-- ---- the steps of a pass, by what its runner is to do

-- the entry of its turn is one step
pub makes_step : (rule : StepRule) (hall : Hall) (before mid after : Pass) (d : DeskState) (calls : Steps) → EntersTurn hall before mid d → LeavesTurn mid after calls → rule before.client (said_of before) calls → MakesStep rule before after
makes_step rule hall before mid after d calls e l keeps = record {
  step = entry (pass_place before) (calls ∷ []);
  made = λ i. (((λ j. (l.ends.knows j).0) ∙ (λ j. left (e.enters.knows j) calls)) i).mine;
  keeps = subst (rule before.client (said_of before)) (sym (append-nil (calls ++ []) ∙ append-nil calls)) keeps;
}

steps-snoc : (rule : StepRule) (client : ℕ) (said : Steps) (steps : List (Entry Steps)) (step : Entry Steps) → AreSteps rule client said steps → rule client (said ++ said_by client (calls_in steps)) (calls_in (step ∷ [])) → AreSteps rule client said (steps ++ step ∷ [])
steps-snoc rule client said [] step are keeps = (subst (λ (s : Steps). rule client s (calls_in (step ∷ []))) (append-nil said) keeps, tt)
steps-snoc rule client said (e ∷ es) step (first, rest) keeps =
    let all : said ++ said_by client (calls_in (e ∷ es)) ≡ (said ++ said_by client (calls_in (e ∷ []))) ++ said_by client (calls_in es) =
    ap (λ (s : Steps). said ++ s) (ap (said_by client) (calls_append (e ∷ []) es) ∙ said_append client (calls_in (e ∷ [])) (calls_in es)) ∙ sym (append_assoc said (said_by client (calls_in (e ∷ []))) (said_by client (calls_in es))) in
    (first, steps-snoc rule client (said ++ said_by client (calls_in (e ∷ []))) es step rest (subst (λ (s : Steps). rule client s (calls_in (step ∷ []))) all keeps))

pub no_steps : (rule : StepRule) (pass : Pass) → MakesSteps rule pass pass
no_steps rule pass = record { new = []; made = sym (append-nil (entries_by pass)); keep = tt }

pub steps_begin : (rule : StepRule) (before now : Pass) → MakesStep rule before now → MakesSteps rule before now
steps_begin rule before now m = record { new = m.step ∷ []; made = m.made; keep = (m.keeps, tt) }

pub steps_go_on : (rule : StepRule) (before now after : Pass) → now.client ≡ before.client → MakesSteps rule before now → MakesStep rule now after → MakesSteps rule before after
steps_go_on rule before now after client m n = record {
  new = m.new ++ n.step ∷ [];
  made = n.made ∙ (ap (λ (es : List (Entry Steps)). es ++ n.step ∷ []) m.made ∙ append_assoc (entries_by before) m.new (n.step ∷ []));
  keep = steps-snoc rule before.client (said_of before) m.new n.step m.keep
      (subst (λ (s : Steps). rule before.client s (calls_in (n.step ∷ []))) said (subst (λ (number : ℕ). rule number (said_of now) (calls_in (n.step ∷ []))) client n.keeps));
}
  where
    said : said_of now ≡ said_of before ++ said_by before.client (calls_in m.new)
    said = ap (λ (number : ℕ). said_by number (own_calls now)) client
        ∙ (ap (λ (es : List (Entry Steps)). said_by before.client (calls_in es)) m.made
        ∙ (ap (said_by before.client) (calls_append (entries_by before) m.new) ∙ said_append before.client (own_calls before) (calls_in m.new)))
