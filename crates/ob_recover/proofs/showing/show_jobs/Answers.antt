use Rattle.ob_recover.proofs.ShowLaws.{place_next}
use Rattle.ob_recover.proofs.showing.show_jobs.Goals as goal

pub loop-i-preserved : goal.loop-i-preserved
loop-i-preserved g c = place_next c.args.jobs.now c.loop-i.i _ _ _ c.loop-i.invariant c.show_place.ensures

pub loop-i-init : goal.loop-i-init
loop-i-init g c = c.show_front.ensures
