-- Words of a command, one behind the other.
use Rattle.std.proofs.Common.{◌≡◌, ℕ, ◌+◌, ◌<◌, ◌≤◌, ◌++◌, List, [], ◌∷◌, length, map, take, get_or, sym, ap, ◌∙◌}
use Rattle.std.proofs.lemmas.List.{take_more, take_all, map-append}
use Rattle.clap.specs.Walk.{Rule, Text}
use Rattle.clap.specs.Simple.{App, new_shape, with_rule}
use Rattle.ob_words.specs.Commands.{rule_for}
use Rattle.ob_words.specs.declared.commands.Word.{Word}

abbrev pub command_with : Text → List Rule → App
command_with name rules = record { top = record (new_shape name) { rules = rules }; subs = [] }

-- one more
pub one_more : (name : Text) (now next : App) (words : List Word) (i : ℕ) (word : Word) → i < length words
    → now ≡ command_with name (map rule_for (take i words)) → next ≡ with_rule now (rule_for (get_or words i word))
    → next ≡ command_with name (map rule_for (take (i + 1) words))
one_more name now next words i word lt was is =
    let all : map rule_for (take (i + 1) words) ≡ map rule_for (take i words) ++ rule_for (get_or words i word) ∷ [] =
    ap (λ (l : List Word). map rule_for l) (take_more words i word lt) ∙ map-append rule_for (take i words) (get_or words i word ∷ []) in
    is ∙ ap (λ (a : App). with_rule a (rule_for (get_or words i word))) was ∙ ap (λ (rules : List Rule). command_with name rules) (sym all)

-- and all of them
pub all_words : (name : Text) (now : App) (words : List Word) (i : ℕ) → length words ≤ i → now ≡ command_with name (map rule_for (take i words)) → now ≡ command_with name (map rule_for words)
all_words name now words i le was = was ∙ ap (λ (l : List Word). command_with name (map rule_for l)) (take_all i words le)
