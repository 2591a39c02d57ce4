use Rattle.std.proofs.Common.{◌∙◌, refl, rules}
use Rattle.ob_drill.proofs.Gathering.{none_next, some_next}
use Rattle.ob_drill.proofs.rows.Rows.put.Goals as goal

pub returns-clause-more : goal.returns-clause-more
returns-clause-more c = λ value is has. some_next value c.args.key c.in-Some.value c.args.self.now _ (is ∙ c.in-Some.is) c.in_ok-put_row.ensures refl has

pub returns-in_default-clause-more : goal.returns-in_default-clause-more
returns-in_default-clause-more c = λ value is has. none_next value c.args.key _ c.args.self.now (search rules) is has
