-- Rules that the numbers in plain bytes obey, in the order in which they are tested, and what is told of one that is broken.
use Rattle.std.specs.Prelude.{ℕ, ◌+◌, ◌/◌, Bool, List, [], ◌∷◌, Option, Some, None, if◌then◌else◌}
use Rattle.ob_base.specs.declared.fault.Damaged.{Damaged}
use Rattle.ob_base.specs.declared.fault.Check.TheVariants.{Epoch, Form}
use Rattle.ob_cells.specs.Numbers.{told_number}

-- A rule for a number, where the numbers before it obey theirs.
pub record Rule : Type 0 where
  -- the place of its first byte
  pub place : ℕ
  -- the number that stands there
  pub kept : ℕ
  -- whether it obeys
  pub obeys : Bool
  -- the least number that would
  pub least : ℕ

-- the first of these that is broken
abbrev pub first_broken : List Rule → Option Rule
first_broken [] = None
first_broken (rule ∷ rules) = if rule.obeys then first_broken rules else Some rule

-- the first of two parts' broken rules
abbrev pub or_rule : Option Rule → Option Rule → Option Rule
or_rule None other = other
or_rule (Some rule) other = Some rule

-- What is told of it, where the bytes are those of a run from a cell on: the cell with the number's first byte, the number, and
-- the least one.
abbrev pub rule_damage : ℕ → Rule → Damaged
rule_damage base rule = record { cell = base + rule.place / 96; check = Form; kept = told_number rule.kept; computed = told_number rule.least }

-- what is told of the first rule that is broken
abbrev pub told_of : ℕ → Option Rule → Option Damaged
told_of base None = None
told_of base (Some rule) = Some (rule_damage base rule)

abbrev pub form_damage : ℕ → List Rule → Option Damaged
form_damage base rules = told_of base (first_broken rules)

-- what is told of another epoch than the wanted one
abbrev pub epoch_damage : ℕ → ℕ → ℕ → Damaged
epoch_damage cell kept wanted = record { cell = cell; check = Epoch; kept = told_number kept; computed = told_number wanted }
