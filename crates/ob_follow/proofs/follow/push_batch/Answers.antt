use Rattle.std.proofs.Common.{refl}
use Rattle.ob_schedule.specs.Wants.{record_wants, places}
use Rattle.ob_follow.proofs.Steps.{both_put}
use Rattle.ob_follow.proofs.follow.push_batch.Goals as goal

pub returns : goal.returns
returns c = both_put c.push_places.result c.args.wants.now _ _ (record_wants c.args.p.now c.args.side c.args.batch) _ (places c.args.p.now c.args.batch) c.in_ok-push_record.ensures refl c.push_places.ensures
