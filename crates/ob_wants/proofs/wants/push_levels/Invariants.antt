use Rattle.std.specs.Prelude.{◌≡◌, ◌++◌, ◌+◌, ℕ}
use Rattle.ob_schedule.specs.Paths.{by_falling_level}
use Rattle.ob_schedule.specs.Wants.{kept}
use Rattle.ob_wants.specs.Marked.{writes_marked}
use Rattle.ob_wants.specs.Shown.{standing_of}
use Rattle.ob_wants.proofs.wants.push_levels.Given as goal

abbrev pub invariant-loop-i : goal.invariant-loop-i
invariant-loop-i l = (rest : ℕ) → l.i + rest ≡ l.p.levels + 1 → l.wants ++ kept (writes_marked l.p (standing_of l.standing) l.lifted (by_falling_level rest)) ≡ l.initial.wants ++ kept (writes_marked l.p (standing_of l.standing) l.lifted (by_falling_level (l.p.levels + 1)))
