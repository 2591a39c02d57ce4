-- What words with and without a fault ask for.
use Rattle.std.proofs.Common.{◌≡◌, List, [], ◌∷◌, Option, None, refl, ap, ◌∙◌}
use Rattle.clap.specs.Walk.{Text}
use Rattle.clap.specs.Kinds.{Kinds}
use Rattle.clap.specs.Faults.{fault_of}
use Rattle.ob_words.specs.Commands.{program}
use Rattle.ob_words.specs.Reading.{Asked, asked_at_all, asked_by, unless_refused}

-- words without a fault ask for what is read of them
pub read_is : (words : List Text) (asked : Option Asked) → fault_of program words ≡ [] → asked_at_all words ≡ asked → asked_by words ≡ asked
unfolding asked_by
read_is words asked passes read = ap (λ k. unless_refused k (asked_at_all words)) passes ∙ read

refused_at : (kinds : Kinds) (asked : Option Asked) → (kinds ≡ [] → ⊥) → unless_refused kinds asked ≡ None
refused_at [] asked fails = absurd (fails refl)
refused_at (kind ∷ kinds) asked fails = refl

-- and words with one ask for nothing
pub refused_is : (words : List Text) → (fault_of program words ≡ [] → ⊥) → asked_by words ≡ None
unfolding asked_by
refused_is words fails = refused_at (fault_of program words) (asked_at_all words) fails
