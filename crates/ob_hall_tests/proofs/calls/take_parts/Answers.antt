use denote.Param.Send.{sendable}
use Rattle.std.proofs.Crossing.{crosses}
use Rattle.std.proofs.Common.{◌<◌, slice_index_or, subst}
use Rattle.ob_hall.specs.Passes.{Pass}
use Rattle.atomic_table.proofs.shared.Seat.TheSendSync as seat_law
use Rattle.ob_hall.proofs.hall.Held.TheSendSync as held_law
use Rattle.ob_turn.proofs.bell.Bell.TheSendSync as bell_law
use Rattle.ob_hall.proofs.Sent.{pass_sent, hall_shared, both_shared}
use Rattle.ob_hall_tests.specs.Halls.{HasWorked}
use Rattle.ob_hall_tests.proofs.calls.Work.TheSendSync as work_law
use Rattle.ob_hall_tests.proofs.Passes.{all_done}
use Rattle.ob_hall_tests.proofs.calls.take_parts.Goals as goal

pub for_each_mut-requires-send-T : goal.for_each_mut-requires-send-T
for_each_mut-requires-send-T g c κs within = search (sendable, held_law.the_send, pass_sent, seat_law.the_send) depth 40

pub for_each_mut-requires-sync-F : goal.for_each_mut-requires-sync-F
for_each_mut-requires-sync-F g c κs within = search (sendable, crosses, work_law.the_sync, both_shared, hall_shared, bell_law.the_sync) depth 40

pub returns : goal.returns
returns g c = all_done c.args.hall.now c.args.passes.now c.for_each_mut.new.s c.requires c.for_each_mut.auto.s
    (λ k d lt. let change = (c.for_each_mut.ensures k d (subst (λ n. k < n) c.for_each_mut.auto.s lt)).1 in subst (λ (p : Pass). HasWorked c.args.hall.now k p) {y = slice_index_or c.for_each_mut.new.s k d} change.left change.call)
