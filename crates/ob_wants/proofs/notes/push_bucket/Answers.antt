use Rattle.std.specs.Prelude.{ℕ, List}
use Rattle.std.proofs.Common.{ap}
use Rattle.ob_base.specs.Tree.{width}
use Rattle.ob_schedule.specs.Schedule.{writes_of}
use Rattle.ob_schedule.specs.Sides.{side_number}
use Rattle.ob_wants.proofs.Pushed.{same_notes, slots_run}
use Rattle.ob_wants.proofs.notes.push_bucket.Goals as goal

pub returns : goal.returns
returns c = same_notes c.push_writes.result _ c.args.wants.now _ _ (ap (λ (cs : List ℕ). writes_of cs) (slots_run c.args.p.now (side_number c.args.home) c.args.bucket (width c.args.p.now) c.cell_at.result c.cell_at.ensures.cell)) c.push_writes.ensures
