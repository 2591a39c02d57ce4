use Rattle.std.proofs.Common.{◌≡◌, take, drop, ◌++◌}
use Rattle.std.specs.Prelude.{option_map}
use Rattle.ob_audit.specs.Reading.{cut_at}
use Rattle.ob_audit.proofs.numbers.cut_at.Given as goal

-- the front so far goes before what the rest gives
abbrev pub invariant-loop-i : goal.invariant-loop-i
invariant-loop-i l = cut_at l.at l.bytes ≡ option_map (λ p. (take l.i l.bytes ++ p.0, p.1)) (cut_at l.at (drop l.i l.bytes))
