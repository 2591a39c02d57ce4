-- Private: marks of numbers, and rules as the code tells them.
use Rattle.std.specs.Prelude.{◌≡◌, ◌<◌, ℕ, ◌^◌, Bool, true, false, List, length, slice_index_or, Option, Some, None}
use Rattle.ob_base.specs.declared.params.Params.{Params}
use Rattle.ob_check.specs.Fields.{is_present, leaf_in}
use Rattle.ob_cells.specs.Rules.{Rule}
use Rattle.ob_check.specs.Rules.{is_among}
use Rattle.ob_check.specs.declared.broken.Broken.{Broken}

-- of the numbers below n just those of the list are marked
pub record AreMarked (n : ℕ) (marks : List Bool) (xs : List ℕ) : Type 0 where
  pub many : length marks ≡ n
  pub each : (k : ℕ) → k < n → slice_index_or marks k false ≡ is_among xs k

-- the rule that a broken number breaks
abbrev pub rule_of : Option Broken → Option Rule
rule_of None = None
rule_of (Some b) = Some (record { place = b.place; kept = b.kept; obeys = false; least = b.least })

-- each present key has a leaf
abbrev pub HaveLeaves : Params → List ℕ → Type 0
HaveLeaves p bytes = (k : ℕ) → k < p.keys → is_present bytes k ≡ true → leaf_in bytes k < 2 ^ p.levels
