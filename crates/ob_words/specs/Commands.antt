-- The commands of the program, as a parse of their words has them.
use Rattle.std.specs.Prelude.{true, false, List, [], ◌∷◌, Some, codes, map}
use Rattle.clap.specs.Walk.{Rule, Text}
use Rattle.clap.specs.Simple.{App, Shape, new_rule, new_shape}
use Rattle.clap.specs.declared.builder.ArgAction.TheVariants.{SetTrue}
use Rattle.ob_words.specs.declared.commands.Word.{Word}
use Rattle.ob_words.specs.declared.commands.Word.TheVariants.{Operand, Valued, Flag}

-- a word that has to be there, a value behind `--id`, and `--id` alone
abbrev pub operand : Text → Rule
operand id = record (new_rule id) { required = true }

abbrev pub option : Text → Rule
option id = record (new_rule id) { long = Some id }

abbrev pub flag : Text → Rule
flag id = record (new_rule id) { long = Some id; action = Some SetTrue }

-- what a word of a command is to the parse
abbrev pub rule_for : Word → Rule
rule_for (Operand id) = operand id.now
rule_for (Valued id) = option id.now
rule_for (Flag id) = flag id.now

-- a command of this name, whose words are these
abbrev pub shape_for : Text → List Word → Shape
shape_for name words = record (new_shape name) { rules = map rule_for words }

-- `format STORE KEYS N L Z S R BR BW E T [--trace FILE]`
abbrev pub format_shape : Shape
format_shape = record (new_shape (codes "format")) {
  rules = operand (codes "STORE") ∷ operand (codes "KEYS") ∷ operand (codes "N") ∷ operand (codes "L")
      ∷ operand (codes "Z") ∷ operand (codes "S") ∷ operand (codes "R") ∷ operand (codes "BR")
      ∷ operand (codes "BW") ∷ operand (codes "E") ∷ operand (codes "T") ∷ option (codes "trace") ∷ [];
}

-- `run STORE KEYS [--lanes K] [--mirror FILE] [--reads Q] [--writes W] [--trace FILE] [--turns]`
abbrev pub run_shape : Shape
run_shape = record (new_shape (codes "run")) {
  rules = operand (codes "STORE") ∷ operand (codes "KEYS") ∷ option (codes "lanes") ∷ option (codes "mirror")
      ∷ option (codes "reads") ∷ option (codes "writes") ∷ option (codes "trace") ∷ flag (codes "turns") ∷ [];
}

-- `audit`
abbrev pub audit_shape : Shape
audit_shape = new_shape (codes "audit")

-- `drill COUNT`
abbrev pub drill_shape : Shape
drill_shape = record (new_shape (codes "drill")) { rules = operand (codes "COUNT") ∷ [] }

-- the first word names a command, and no word asks for help
abbrev pub bare_shape : Shape
bare_shape = record (new_shape (codes "obladi")) {
  no_binary_name = true;
  disable_help_flag = true;
  disable_help_subcommand = true;
  subcommand_required = true;
}

abbrev pub bare_app : App
bare_app = record { top = bare_shape; subs = [] }

-- the program
abbrev pub program : App
program = record { top = record bare_shape { is_leaf = false }; subs = format_shape ∷ run_shape ∷ audit_shape ∷ drill_shape ∷ [] }
