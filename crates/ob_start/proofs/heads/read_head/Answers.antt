use Rattle.std.proofs.Common.{[], ◌∷◌}
use Rattle.ob_store.specs.declared.watch.Note.TheVariants.{Read}
use Rattle.ob_start.proofs.Noted.{reads_own}
use Rattle.ob_store.specs.Calls.{IsFailed, IsStoreFault}
use Rattle.ob_store.proofs.Serving.{serves_err}
use Rattle.ob_store.proofs.Keeping.{serves_own}
use Rattle.ob_start.proofs.heads.read_head.Goals as goal

pub returns-in-Ok-clause-does : goal.returns-in-Ok-clause-does
returns-in-Ok-clause-does g c = reads_own (Read 0 ∷ []) _ _ _ _ c.open_head.result c.open_head.ensures.own c.in-Ok.ensures.does.all

pub returns-in-Ok-clause-serves : goal.returns-in-Ok-clause-serves
returns-in-Ok-clause-serves g c =
    let read = c.read_cell.ensures.serves in
    serves_own _ _ c.open_head.result c.open_head.ensures.own read.goes read.out c.in-Ok.ensures.serves.tells

pub returns-in-Err-clause-serves : goal.returns-in-Err-clause-serves
returns-in-Err-clause-serves g c = serves_err IsFailed IsStoreFault _ _ _ _ (λ told. tt) c.in-Err.ensures.serves
