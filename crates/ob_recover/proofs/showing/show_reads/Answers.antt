use Rattle.ob_recover.proofs.ShowLaws.{shows_next}
use Rattle.ob_recover.proofs.showing.show_reads.Goals as goal

pub loop-i-preserved : goal.loop-i-preserved
loop-i-preserved g c = shows_next c.args.jobs.now c.loop-i.i _ _ _ c.loop-i-test.true c.loop-i.invariant c.note.ensures
