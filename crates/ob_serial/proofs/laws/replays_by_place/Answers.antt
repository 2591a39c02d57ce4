use Rattle.ob_serial.proofs.Runs.{by_place, from_places}
use Rattle.ob_serial.proofs.laws.replays_by_place.Goals as goal

pub returns : goal.returns
returns c = λ cmp m ops. (λ r. by_place cmp m ops r, λ f. from_places cmp m ops f)
