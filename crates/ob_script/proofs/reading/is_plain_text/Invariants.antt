use Rattle.std.proofs.Common.{◌≡◌, drop}
use Rattle.std.specs.List.{list_all}
use Rattle.ob_script.specs.Script.{is_plain}
use Rattle.ob_script.proofs.reading.is_plain_text.Given as goal

abbrev pub invariant-loop-b : goal.invariant-loop-b
invariant-loop-b l = list_all is_plain l.bytes ≡ list_all is_plain (drop l.b-index l.bytes)
