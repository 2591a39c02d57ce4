use Rattle.ob_recover.proofs.ShowLaws.{place_shown}
use Rattle.ob_recover.proofs.showing.show_place.Goals as goal

pub returns : goal.returns
returns g c = place_shown c.args.jobs.now c.args.i c.place_of-place.result c.end_of-end.result c.jobs.result.now _ _ _ c.place_of-place.ensures c.end_of-end.ensures c.jobs.ensures c.note.ensures c.show_reads.ensures
