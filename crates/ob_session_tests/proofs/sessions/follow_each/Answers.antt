use denote.Param.Send.{sendable}
use Rattle.std.proofs.Common.{sym, subst}
use Rattle.std.proofs.Crossing.{crosses}
use Rattle.atomic_table.proofs.shared.Seat.TheSendSync as seat_law
use Rattle.ob_turn.proofs.bell.Bell.TheSendSync as bell_law
use Rattle.ob_hall.proofs.hall.Held.TheSendSync as held_law
use Rattle.ob_hall.specs.Passes.{Pass}
use Rattle.ob_hall.proofs.Sent.{pass_sent, hall_shared, both_shared}
use Rattle.ob_session_tests.proofs.sessions.Clock.TheSendSync as clock_law
use Rattle.ob_session_tests.specs.Sessions.{IsSession}
use Rattle.ob_session_tests.proofs.sessions.follow_each.Goals as goal

pub for_each_mut-requires-send-T : goal.for_each_mut-requires-send-T
for_each_mut-requires-send-T g c κs = search (sendable, held_law.the_send, pass_sent, seat_law.the_send) depth 40

pub for_each_mut-requires-sync-F : goal.for_each_mut-requires-sync-F
for_each_mut-requires-sync-F g c κs within = search (sendable, crosses, clock_law.the_sync, both_shared, hall_shared, bell_law.the_sync) depth 40

pub for_each_mut-requires-clause-accepts : goal.for_each_mut-requires-clause-accepts
for_each_mut-requires-clause-accepts g c κs within = λ i p low is. subst (λ (q : Pass). IsSession c.args.hall.now q) (sym is) (c.requires i p.now low)
