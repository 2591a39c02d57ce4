use Rattle.ob_recover.proofs.ShowLaws.{place_got}
use Rattle.ob_recover.proofs.showing.place_of.Goals as goal

pub returns : goal.returns
returns c = place_got c.args.jobs.now c.args.i c.places.result.now c.requires c.places.ensures
