-- Runners that are made one behind the other.
use Rattle.std.proofs.Common.{◌≡◌, ◌<◌, ◌+◌, ℕ, List, [], ◌∷◌, ◌++◌, length, take, get_or, sym, ap, subst, ◌∙◌}
use Rattle.std.proofs.lemmas.List.{take_more, map-append}
use Rattle.std.proofs.lemmas.List.Elements.{All-push}
use Rattle.ob_script.specs.Script.{Scripts, asks_by}
use Rattle.ob_runner.specs.declared.runner.ScriptRunner.{ScriptRunner}
use Rattle.ob_runner.specs.RunnerViews.{client_of, bound_of, plan_of, MayHaveMade}
use Rattle.ob_runner.specs.Runners.{IsNewOf, AreRunnersOf}

-- one more
pub runner_more : (scripts : Scripts) (clients : List ℕ) (i client : ℕ) (old now : List ScriptRunner) (r : ScriptRunner) → i < length clients → client ≡ get_or clients i 0
    → client_of r ≡ client → bound_of r ≡ scripts.keys → plan_of r ≡ asks_by client scripts.txns → MayHaveMade r []
    → now ≡ old ++ r ∷ [] → AreRunnersOf scripts (take i clients) old → AreRunnersOf scripts (take (i + 1) clients) now
runner_more scripts clients i client old now r lt named one bound plan fits pushed made =
    let is_new : IsNewOf scripts r = record { bound = bound; plan = plan ∙ ap (λ (c : ℕ). asks_by c scripts.txns) (sym one); fits = fits } in
    subst (λ (rs : List ScriptRunner). AreRunnersOf scripts (take (i + 1) clients) rs) (sym pushed) (record {
      clients_are = map-append (λ s. client_of s) old (r ∷ []) ∙ (λ j. made.clients_are j ++ (one ∙ named) j ∷ []) ∙ sym (take_more clients i 0 lt);
      new = All-push (IsNewOf scripts) old r made.new is_new;
    })
