use Rattle.std.proofs.Common.{refl}
use Rattle.ob_mem.proofs.Keeping.{noted_call}
use Rattle.ob_mem.proofs.log.Log.note.Goals as goal

pub returns-in-Ok-clause-notes : goal.returns-in-Ok-clause-notes
returns-in-Ok-clause-notes c = noted_call _ _ _ _ c.args.event refl c.in-Ok.ensures.items
