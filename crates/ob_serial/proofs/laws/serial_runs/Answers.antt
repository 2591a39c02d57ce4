use Rattle.ob_serial.proofs.Runs.{one_last, goes_on, splits}
use Rattle.ob_serial.proofs.laws.serial_runs.Goals as goal

pub returns-clause-one_result : goal.returns-clause-one_result
returns-clause-one_result c = λ cmp first ts a b x y. one_last cmp first ts a b x y

pub returns-clause-append : goal.returns-clause-append
returns-clause-append c = λ cmp first ts us last. (λ run. splits cmp first ts us last run, λ both. goes_on cmp first ts us both.0 last both.1 both.2)
