use Rattle.std.specs.Prelude.{◌≡◌, ◌++◌, ◌-◌}
use Rattle.std.specs.List.{range_with_len}
use Rattle.ob_schedule.specs.Wants.{kept}
use Rattle.ob_wants.specs.Marked.{writes_marked}
use Rattle.ob_wants.specs.Shown.{standing_of}
use Rattle.ob_wants.proofs.wants.push_level.Given as goal

abbrev pub invariant-loop-i : goal.invariant-loop-i
invariant-loop-i l = l.wants ≡ l.initial.wants ++ kept (writes_marked l.p (standing_of l.standing) l.lifted (range_with_len (l.many - 1) l.i))
