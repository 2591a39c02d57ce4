use Rattle.std.specs.Prelude.{ℕ, List}
use Rattle.std.proofs.Common.{ap}
use Rattle.ob_schedule.specs.Schedule.{writes_of}
use Rattle.ob_schedule.specs.Sides.{side_number}
use Rattle.ob_wants.proofs.Pushed.{same_notes, record_run}
use Rattle.ob_wants.proofs.notes.push_body.Goals as goal

pub returns : goal.returns
returns c = same_notes c.push_writes.result _ c.args.wants.now _ _ (ap (λ (cs : List ℕ). writes_of cs) (record_run c.args.p.now (side_number c.args.side) c.args.batch c.record_cells.result c.record_at.result c.record_at.ensures.cell c.record_cells.ensures.cells)) c.push_writes.ensures
