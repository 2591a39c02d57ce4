use Rattle.std.proofs.Common.{refl}
use Rattle.ob_wants.proofs.Pushed.{same_notes, homes_run}
use Rattle.ob_wants.proofs.notes.push_homes.Goals as goal

pub returns : goal.returns
returns c = same_notes c.push_writes.result _ c.args.wants.now _ _ (homes_run c.args.p.now c.cell_at.result c.buckets.result _ c.cell_at.ensures.cell c.buckets.ensures.buckets refl) c.push_writes.ensures
