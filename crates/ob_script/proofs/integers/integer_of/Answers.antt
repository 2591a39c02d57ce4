use Rattle.std.proofs.Common.{ap, ◌∙◌}
use Rattle.ob_script.specs.Integers.{integer_of}
use Rattle.ob_script.proofs.Amounts.{integer_only, if_spelled}
use Rattle.ob_script.proofs.integers.integer_of.Goals as goal

pub returns-clause-found : goal.returns-clause-found
returns-clause-found c = if_spelled c.args.bytes.now c.read_integer.result c.read_integer.ensures

pub returns-clause-only : goal.returns-clause-only
returns-clause-only c = λ z fits is. c.read_integer.ensures ∙ ap integer_of is ∙ integer_only z fits
