use denote.Param.Send.{sendable}
use Rattle.std.proofs.Crossing.{crosses}
use Rattle.atomic_table.proofs.shared.Seat.TheSendSync as seat_law
use Rattle.ob_turn.proofs.bell.Bell.TheSendSync as bell_law
use Rattle.ob_hall.proofs.hall.Held.TheSendSync as held_law
use Rattle.ob_hall.proofs.Sent.{pass_sent, hall_shared, both_shared}
use Rattle.ob_session_tests.proofs.sessions.Clock.TheSendSync as clock_law
use Rattle.ob_session_tests.proofs.sessions.run_beside.Goals as goal

pub join-result-requires-send-F : goal.join-result-requires-send-F
join-result-requires-send-F g c κs within =
    search (sendable, crosses, held_law.the_send, pass_sent, seat_law.the_send, clock_law.the_sync, both_shared, hall_shared, bell_law.the_sync) depth 40
