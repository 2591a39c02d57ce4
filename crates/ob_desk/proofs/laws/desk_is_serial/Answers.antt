use Rattle.ob_desk.proofs.Runs as runs
use Rattle.ob_desk.proofs.laws.desk_is_serial.Goals as goal

pub returns-clause-replays : goal.returns-clause-replays
returns-clause-replays c = runs.desk_replays

pub returns-clause-serial : goal.returns-clause-serial
returns-clause-serial c = runs.desk_is_serial
