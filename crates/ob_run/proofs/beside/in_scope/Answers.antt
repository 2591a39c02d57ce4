use denote.Exit.{no}
use denote.Param.{param}
use denote.Param.Send.{param_send, param_sync, arg_send, arg_sync}
use Rattle.ob_run.proofs.beside.in_scope.Goals as goal

pub scoped-requires : goal.scoped-requires
scoped-requires g c =
    record {
      at = λ scope. (
        (
          c.requires.params,
          c.requires.first,
          c.requires.clients,
          c.requires.none,
          c.requires.room,
          c.requires.driver,
          c.requires.whole,
          param_send 0 _ (arg_send _ no (param 0 g.row.U) c.type_bounds.send-U),
          param_sync 1 _ (arg_sync _ no (param 1 g.row.R) c.type_bounds.sync-R),
        ),
        (param_send 0 _ (arg_send _ no (param 0 g.row.U) c.type_bounds.send-U), param_sync 1 _ (arg_sync _ no (param 1 g.row.R) c.type_bounds.sync-R)),
      );
    }
