use Rattle.std.proofs.Common.{◌≡◌, take, drop, ◌++◌}
use Rattle.std.specs.Prelude.{option_map}
use Rattle.ob_script.specs.Reading.{cut}
use Rattle.ob_script.proofs.reading.cut.Given as goal

-- the front so far goes before what the rest gives
abbrev pub invariant-loop-i : goal.invariant-loop-i
invariant-loop-i l = cut l.at l.bytes ≡ option_map (λ p. (take l.i l.bytes ++ p.0, p.1)) (cut l.at (drop l.i l.bytes))
