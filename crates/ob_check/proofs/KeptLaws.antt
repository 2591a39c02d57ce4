-- What follows where the rules are kept.
use Rattle.std.specs.Prelude.{◌≡◌, ℕ, ◌^◌, Bool, true, false, not, ◌||◌, List, [], ◌∷◌, None}
use Rattle.std.specs.List.{flat_map}
use Rattle.std.proofs.Common.{refl}
use Rattle.ob_base.specs.declared.params.Params.{Params}
use Rattle.ob_base.specs.Tree.{below}
use Rattle.ob_tables.proofs.RowLaws.{lt_from}
use Rattle.ob_check.specs.Fields.{is_present, leaf_in}
use Rattle.ob_cells.specs.Rules.{first_broken}
use Rattle.ob_check.specs.Rules.{entry_rules, present_rule, leaf_rule}
use Rattle.ob_check.specs.Marks.{HaveLeaves}
use Rattle.ob_check.proofs.RuleLaws.{parts_at, one_kept}

or_so : (a b : Bool) → a ≡ true → (not a || b) ≡ true → b ≡ true
or_so true b e h = h
or_so false true e h = refl
or_so false false e h = e

pub have_leaves : (p : Params) (bytes : List ℕ) → first_broken (flat_map (entry_rules p bytes) (below p.keys)) ≡ None → HaveLeaves p bytes
have_leaves p bytes kept = λ k lt here.
    let one = one_kept (present_rule bytes k) (leaf_rule p bytes k ∷ []) (parts_at (entry_rules p bytes) p.keys k lt kept) in
    let two = one_kept (leaf_rule p bytes k) [] one.1 in
    lt_from (leaf_in bytes k) (2 ^ p.levels) (or_so (is_present bytes k) _ here two.0)
