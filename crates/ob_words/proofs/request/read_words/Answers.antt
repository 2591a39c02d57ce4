use Rattle.std.proofs.Common.{◌≢◌, ◌∙◌, ap, sym, map, List, [], Option, inl, inr}
use Rattle.std.specs.Prelude.{option_and_then}
use Rattle.clap.specs.Words.{App, Row, Text, fault_of, is_simple, is_simple_and_free, subcommand_of}
use Rattle.ob_words.specs.Commands.{program}
use Rattle.ob_words.specs.Reading.{Asked, asked_command}
use Rattle.ob_words.proofs.Built.{is_simple_program}
use Rattle.ob_words.proofs.Asks.{among_some, is_simple_alone, passes_asks}
use Rattle.ob_words.proofs.Passed.{read_is, refused_is}
use Rattle.ob_words.proofs.request.read_words.Goals as goal

abbrev reads_by : Option (Text × List Row) → Option Asked
reads_by o = option_and_then (λ p. asked_command p.0 p.1) o

pub returns-in-Some : goal.returns-in-Some
returns-in-Some c =
    let app = c.in-Ok.ensures.app in
    let none = c.in-Ok-try_get_matches_from.ensures.kinds (ap is_simple_and_free app ∙ is_simple_program) in
    let met = c.in-Ok-try_get_matches_from.ensures.matches (ap is_simple app ∙ is_simple_alone) in
    let stops = met.1 ∙ ap (λ (a : App). subcommand_of a (map (λ w. w.now) c.args.words.now)) app in
    let passes = sym (ap (λ (a : App). fault_of a (map (λ w. w.now) c.args.words.now)) app) ∙ none in
    record {
      asked = read_is (map (λ w. w.now) c.args.words.now) _ passes (ap reads_by (sym stops) ∙ sym c.in-Some.ensures);
      faults = passes;
    }

pub returns-in-Ok-try_get_matches_from : goal.returns-in-Ok-try_get_matches_from
returns-in-Ok-try_get_matches_from c =
    let app = c.in-Ok.ensures.app in
    let none = c.in-Ok-try_get_matches_from.ensures.kinds (ap is_simple_and_free app ∙ is_simple_program) in
    let met = c.in-Ok-try_get_matches_from.ensures.matches (ap is_simple app ∙ is_simple_alone) in
    let stops = met.1 ∙ ap (λ (a : App). subcommand_of a (map (λ w. w.now) c.args.words.now)) app in
    let passed = sym (ap (λ (a : App). fault_of a (map (λ w. w.now) c.args.words.now)) app) ∙ none in
    absurd (passes_asks (map (λ w. w.now) c.args.words.now) passed (ap reads_by (sym stops) ∙ sym c.in-None.ensures))

pub returns : goal.returns
returns c =
    let app = c.in-Ok.ensures.app in
    let fails = c.in-Err.ensures.kinds (ap is_simple_and_free app ∙ is_simple_program) in
    let same = ap (λ (a : App). fault_of a (map (λ w. w.now) c.args.words.now)) app in
    elim c.cause_of.ensures [
      | inl memory ↦ record { asked = inl memory.1; faults = inl memory.1 }
      | inr usage ↦ elim fails [
        | inl memory ↦ absurd (usage.0 memory)
        | inr among ↦
            let refused : fault_of program (map (λ w. w.now) c.args.words.now) ≢ [] = λ e. among_some _ _ among (same ∙ e) in
            record { asked = inr (usage.1, refused_is _ refused); faults = inr refused }
      ]
    ]
