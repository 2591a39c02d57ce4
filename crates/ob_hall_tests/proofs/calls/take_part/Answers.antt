use Rattle.std.proofs.Common.{arith}
use Rattle.ob_hall_tests.proofs.Passes.{is_first, is_fresh, driver_done, client_done, untouched}
use Rattle.ob_hall_tests.proofs.calls.take_part.Goals as goal

pub hold_a_turn-requires : goal.hold_a_turn-requires
hold_a_turn-requires g c = is_first c.args.hall.now c.args.k c.args.pass.now c.if-k-eq0.true c.requires

pub stop_once_asked-requires : goal.stop_once_asked-requires
stop_once_asked-requires g c = is_first c.args.hall.now c.args.k c.args.pass.now c.if-k-eq0.true c.requires

pub follow-requires-clause-ready : goal.follow-requires-clause-ready
follow-requires-clause-ready g c = (is_fresh c.args.hall.now c.args.k c.args.pass.now (omega (arith, c.if-k-eq0.false)) c.requires).ready

pub follow-requires-clause-between : goal.follow-requires-clause-between
follow-requires-clause-between g c = (is_fresh c.args.hall.now c.args.k c.args.pass.now (omega (arith, c.if-k-eq0.false)) c.requires).between

pub follow-requires-clause-keys : goal.follow-requires-clause-keys
follow-requires-clause-keys g c = (is_fresh c.args.hall.now c.args.k c.args.pass.now (omega (arith, c.if-k-eq0.false)) c.requires).keys

pub returns-in-Durable : goal.returns-in-Durable
returns-in-Durable g c = driver_done c.args.hall.now c.args.k c.hold_a_turn.new.pass c.if-k-eq0.true c.hold_a_turn.ensures

pub returns-in-GetWaits : goal.returns-in-GetWaits
returns-in-GetWaits g c = driver_done c.args.hall.now c.args.k c.stop_once_asked.new.pass c.if-k-eq0.true c.stop_once_asked.ensures

pub returns-in_default : goal.returns-in_default
returns-in_default g c =
    driver_done c.args.hall.now c.args.k c.args.pass.now c.if-k-eq0.true (untouched c.args.hall.now c.args.pass.now (is_first c.args.hall.now c.args.k c.args.pass.now c.if-k-eq0.true c.requires))

pub returns-then-matches : goal.returns-then-matches
returns-then-matches g c = client_done c.args.hall.now c.args.k c.drive.new.pass (omega (arith, c.if-k-eq0.false)) c.drive.ensures.ready

pub returns-else-k-eq1 : goal.returns-else-k-eq1
returns-else-k-eq1 g c = client_done c.args.hall.now c.args.k c.follow.new.pass (omega (arith, c.if-k-eq0.false)) c.follow.ensures.ready
