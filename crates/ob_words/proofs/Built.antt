-- The commands as a parse builds them.
use Rattle.std.proofs.Common.{◌≡◌, ℕ, true, List, [], ◌∷◌, Some, refl, codes}
use Rattle.clap.specs.Walk.{Rule, Text}
use Rattle.clap.specs.Simple.{App, Shape, built}
use Rattle.clap.specs.Faults.{is_simple_and_free}
use Rattle.clap.specs.declared.builder.ArgAction.TheVariants.{Set}
use Rattle.clap.specs.declared.builder.ValueParser.TheVariants as vp
use Rattle.clap.proofs.OnLiterals.{clap_on_literals}
use Rattle.ob_words.specs.Commands.{operand, option, flag, format_shape, run_shape, audit_shape, drill_shape, program}

abbrev pub one_value : Rule → Rule
one_value r = record r { action = Some Set; parser = Some vp.String; range = Some (record { start_inclusive = 1; end_inclusive = 1 }) }

abbrev pub operand_at : ℕ → Text → Rule
operand_at i id = record (one_value (operand id)) { index = Some i }

abbrev pub built_option : Text → Rule
built_option id = one_value (option id)

abbrev pub built_flag : Text → Rule
built_flag id = record (flag id) {
  defaults = codes "false" ∷ [];
  missing = codes "true" ∷ [];
  parser = Some vp.Bool;
  range = Some (record { start_inclusive = 0; end_inclusive = 0 });
}

abbrev pub built_sub : Shape → List Rule → Shape
built_sub s rules = record s {
  rules = rules;
  no_binary_name = true;
  disable_help_flag = true;
  disable_help_subcommand = true;
  is_built = true;
}

abbrev pub run_rules : List Rule
run_rules = operand_at 1 (codes "STORE") ∷ operand_at 2 (codes "KEYS") ∷ built_option (codes "lanes")
    ∷ built_option (codes "mirror") ∷ built_option (codes "reads") ∷ built_option (codes "writes") ∷ built_option (codes "trace") ∷ built_flag (codes "turns") ∷ []

abbrev pub format_rules : List Rule
format_rules = operand_at 1 (codes "STORE") ∷ operand_at 2 (codes "KEYS") ∷ operand_at 3 (codes "N")
    ∷ operand_at 4 (codes "L") ∷ operand_at 5 (codes "Z") ∷ operand_at 6 (codes "S") ∷ operand_at 7 (codes "R")
    ∷ operand_at 8 (codes "BR") ∷ operand_at 9 (codes "BW") ∷ operand_at 10 (codes "E") ∷ operand_at 11 (codes "T")
    ∷ built_option (codes "trace") ∷ []

abbrev pub run_built : Shape
run_built = built_sub run_shape run_rules

abbrev pub format_built : Shape
format_built = built_sub format_shape format_rules

abbrev pub audit_built : Shape
audit_built = built_sub audit_shape []

abbrev pub drill_built : Shape
drill_built = built_sub drill_shape (operand_at 1 (codes "COUNT") ∷ [])

abbrev pub top_built : Shape
top_built = record program.top { is_built = true }

abbrev pub program_built : App
program_built = record { top = top_built; subs = format_built ∷ run_built ∷ audit_built ∷ drill_built ∷ [] }

pub is_built : built program ≡ program_built
unfolding clap_on_literals
is_built = refl

pub is_simple_program : is_simple_and_free program ≡ true
unfolding clap_on_literals
is_simple_program = refl
