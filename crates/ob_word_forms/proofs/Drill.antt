-- The form of `drill` passes, and is read as it says.
use Rattle.std.proofs.Common.{◌≡◌, false, List, [], ◌∷◌, refl, ap, ◌∙◌, codes}
use Rattle.std.specs.List.{fold}
use Rattle.clap.specs.Walk.{Held, Row, Text, idle, nothing_held, rows_after, walk_from, walked, with_default}
use Rattle.clap.specs.Kinds.{or_else}
use Rattle.clap.specs.Faults.{check_fault, defaults_fault, level_fault}
use Rattle.clap.proofs.OnLiterals.{clap_on_literals}
use Rattle.ob_word_forms.specs.Forms.{IsPlain}
use Rattle.ob_words.proofs.Built.{drill_built, operand_at}
use Rattle.ob_word_forms.proofs.Rows.{given_row}
use Rattle.ob_word_forms.proofs.Levels.{level_is, rows_are}
use Rattle.ob_word_forms.proofs.PlainWords.{at}
use Rattle.ob_word_forms.proofs.Steps.{Goes, IsOperand, Ready, goes_none, operand_goes, operand_ready, operand_walked, pending_held}

abbrev pub count_row : Text → List Row
count_row count = given_row (operand_at 1 (codes "COUNT")) (count ∷ []) ∷ []

place : IsOperand drill_built (codes "COUNT") 1 2
place = record { again = refl; at_place = refl; found = refl; next = refl }

none_ready : Ready drill_built nothing_held []
none_ready = record { settles = refl; passes = refl }

abbrev pub counted : Text → Held
counted count = pending_held [] (codes "COUNT") count

count_ready : (count : Text) → Ready drill_built (counted count) (count_row count)
count_ready count = operand_ready drill_built (codes "COUNT") count 1 2 [] place refl

count_goes : (count : Text) → IsPlain count → Goes drill_built (walk_from nothing_held) (count ∷ []) (at (counted count) idle 2)
count_goes count plain = operand_goes drill_built (codes "COUNT") count nothing_held 1 2 [] [] (at (counted count) idle 2) place none_ready refl plain (goes_none drill_built (at (counted count) idle 2))

-- where its walk stands behind the count
pub count_walked : (count : Text) → IsPlain count → walked drill_built.rules [] (walk_from nothing_held) count ≡ at (counted count) idle 2
count_walked count plain = operand_walked drill_built (codes "COUNT") count nothing_held 1 2 [] place none_ready refl plain

drill_defaults : (count : Text) → defaults_fault (count_row count) drill_built.rules ≡ []
unfolding clap_on_literals
drill_defaults count = refl

drill_checked : (count : Text) → check_fault drill_built (fold with_default (count_row count) drill_built.rules) false ≡ []
drill_checked count = refl

drill_finished : (count : Text) → fold with_default (count_row count) drill_built.rules ≡ count_row count
drill_finished count = refl

pub drill_passes : (count : Text) → IsPlain count → level_fault drill_built [] nothing_held (count ∷ []) false [] ≡ []
drill_passes count plain =
    level_is drill_built (count ∷ []) (counted count) (count_row count) 2 refl (count_goes count plain) (count_ready count)
    ∙ ap (λ k. or_else k (check_fault drill_built (fold with_default (count_row count) drill_built.rules) false)) (drill_defaults count)
    ∙ drill_checked count

pub drill_reads : (count : Text) → IsPlain count → rows_after drill_built.rules [] (count ∷ []) ≡ count_row count
drill_reads count plain = rows_are drill_built (count ∷ []) (counted count) (count_row count) 2 (count_goes count plain) (count_ready count) ∙ drill_finished count
