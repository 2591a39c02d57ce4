-- Steps of a pass, behind others.
use Rattle.std.proofs.Common.{◌≡◌, ◌∙◌, ℕ, List, [], ◌∷◌, ◌++◌, sym, ap, subst, append_assoc, append-nil}
use Rattle.ob_session.specs.Clients.{said_by}
use Rattle.ob_session.proofs.Saying.{said_append}
use Rattle.ob_turn.specs.declared.turn.Entry.{Entry}
use Rattle.ob_hall.specs.Passes.{Steps, Pass, entries_by, calls_in, own_calls, said_of}
use Rattle.ob_hall.specs.Driving.{StepRule, AreSteps, MakesSteps}
use Rattle.ob_hall.proofs.Chaining.{calls_append}

steps-append : (rule : StepRule) (client : ℕ) (said : Steps) (xs ys : List (Entry Steps)) → AreSteps rule client said xs → AreSteps rule client (said ++ said_by client (calls_in xs)) ys → AreSteps rule client said (xs ++ ys)
steps-append rule client said [] ys are then = subst (λ (s : Steps). AreSteps rule client s ys) (append-nil said) then
steps-append rule client said (x ∷ xs) ys (first, rest) then =
    let all : said ++ said_by client (calls_in (x ∷ xs)) ≡ (said ++ said_by client (calls_in (x ∷ []))) ++ said_by client (calls_in xs) =
    ap (λ (s : Steps). said ++ s) (ap (said_by client) (calls_append (x ∷ []) xs) ∙ said_append client (calls_in (x ∷ [])) (calls_in xs)) ∙ sym (append_assoc said (said_by client (calls_in (x ∷ []))) (said_by client (calls_in xs))) in
    (first, steps-append rule client (said ++ said_by client (calls_in (x ∷ []))) xs ys rest (subst (λ (s : Steps). AreSteps rule client s ys) all then))

pub steps_join : (rule : StepRule) (before now after : Pass) → now.client ≡ before.client → MakesSteps rule before now → MakesSteps rule now after → MakesSteps rule before after
steps_join rule before now after client m n = record {
  new = m.new ++ n.new;
  made = n.made ∙ (ap (λ (es : List (Entry Steps)). es ++ n.new) m.made ∙ append_assoc (entries_by before) m.new n.new);
  keep = steps-append rule before.client (said_of before) m.new n.new m.keep
      (subst (λ (s : Steps). AreSteps rule before.client s n.new) said (subst (λ (number : ℕ). AreSteps rule number (said_of now) n.new) client n.keep));
}
  where
    said : said_of now ≡ said_of before ++ said_by before.client (calls_in m.new)
    said = ap (λ (number : ℕ). said_by number (own_calls now)) client
        ∙ (ap (λ (es : List (Entry Steps)). said_by before.client (calls_in es)) m.made
        ∙ (ap (said_by before.client) (calls_append (entries_by before) m.new) ∙ said_append before.client (own_calls before) (calls_in m.new)))
