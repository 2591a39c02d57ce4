use denote.Exit.{no}
use denote.Param.{param}
use denote.Param.Send.{param_send, arg_send, shr_send}
use denote.Ref.{ShrRef}
use Rattle.std.specs.contracts.sync.atomic.AtomicBool as AtomicBool
use Rattle.ob_threads.proofs.Sent.{four_sent, client_row, client_sent, back_sent, back_row, hall_row, whole_hall_shared, flag_shared}
use Rattle.ob_threads.proofs.starting.launch.Goals as goal

pub spawn_with-requires-send-F : goal.spawn_with-requires-send-F
spawn_with-requires-send-F g c κs within = param_send 2 _
    (arg_send _ no _
    (four_sent _ (ShrRef _ _ (param 2 g.row.R)) (ShrRef _ _ hall_row) (ShrRef _ _ AtomicBool.the_row) (client_row (param 1 g.row.U))
    (shr_send _ _ (param 2 g.row.R) c.type_bounds.sync-R) (shr_send _ _ hall_row whole_hall_shared) (shr_send _ _ AtomicBool.the_row flag_shared) (client_sent (param 1 g.row.U) c.type_bounds.send-U)))

pub spawn_with-requires-send-T : goal.spawn_with-requires-send-T
spawn_with-requires-send-T g c κs within = param_send 3 _ (arg_send _ no (back_row (param 1 g.row.U)) (back_sent (param 1 g.row.U) c.type_bounds.send-U))
