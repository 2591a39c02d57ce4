use Rattle.std.proofs.Common.{◌∙◌, arith}
use Rattle.ob_script.proofs.Lines.{line_only, if_found}
use Rattle.ob_script.proofs.reading.line_of.Goals as goal

pub returns-clause-found : goal.returns-clause-found
returns-clause-found c = if_found c.args.keys c.args.text.now c.line_read.result c.line_read.ensures

pub returns-clause-only : goal.returns-clause-only
returns-clause-only c = λ line range spelled. c.line_read.ensures ∙ line_only c.args.keys line c.args.text.now (omega arith) range spelled
