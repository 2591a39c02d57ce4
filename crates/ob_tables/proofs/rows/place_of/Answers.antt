use Rattle.std.proofs.Common.{ℕ, List, [], ap, ◌∙◌}
use Rattle.std.proofs.lemmas.List.{get_or_default}
use Rattle.ob_tables.proofs.RowLaws.{absent}
use Rattle.ob_tables.proofs.rows.place_of.Goals as goal

pub returns-in_default : goal.returns-in_default
returns-in_default c = (
  absent c.args.k c.args.rows.now c.lesser-i.result c.requires c.lesser-i.ensures
      (λ lt e. c.if-row-k.false (ap (λ (row : ℕ × List ℕ). row.0) (c.in-Some.ensures.lookup.1 ∙ get_or_default c.args.rows.now c.lesser-i.result c.in-Some.row.now (0, []) lt) ∙ e)),
  c.lesser-i.ensures,
)
