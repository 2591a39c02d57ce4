use Rattle.std.proofs.Common.{◌≡◌, ◌++◌, take}
use Rattle.ob_schedule.specs.Wants.{kept}
use Rattle.ob_wants.proofs.notes.push_kept.Given as goal

abbrev pub invariant-loop-note : goal.invariant-loop-note
invariant-loop-note l = l.wants ≡ l.initial.wants ++ kept (take l.note-index l.notes)
