use Rattle.std.proofs.Common.{sym, arith, length-take}
use Rattle.std.proofs.lemmas.List.{take_all}
use Rattle.ob_script.specs.Script.{limit}
use Rattle.ob_script.proofs.parsing.front.Goals as goal

pub slice_bounds-result-end : goal.slice_bounds-result-end
slice_bounds-result-end c = omega (arith, length-take limit c.args.bytes.now)

pub returns-then-bytes-le-LIMIT : goal.returns-then-bytes-le-LIMIT
returns-then-bytes-le-LIMIT c = sym (take_all limit c.args.bytes.now c.if-bytes-le-LIMIT.true)
