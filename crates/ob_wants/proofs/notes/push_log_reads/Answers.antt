use Rattle.std.specs.Prelude.{ℕ, List}
use Rattle.std.proofs.Common.{ap}
use Rattle.ob_schedule.specs.Schedule.{reads_of}
use Rattle.ob_schedule.specs.Sides.{side_number}
use Rattle.ob_wants.proofs.Pushed.{same_notes, area_run}
use Rattle.ob_wants.proofs.notes.push_log_reads.Goals as goal

pub returns : goal.returns
returns c = same_notes c.push_reads.result _ c.args.wants.now _ _ (ap (λ (cs : List ℕ). reads_of cs) (area_run c.args.p.now (side_number c.args.side) c.area_len.result c.record_at.result c.record_at.ensures.cell c.area_len.ensures.cells)) c.push_reads.ensures
