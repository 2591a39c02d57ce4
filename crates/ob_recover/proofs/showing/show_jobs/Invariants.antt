use Rattle.ob_store.specs.Lines.{Shows}
use Rattle.ob_recover.specs.Shows.{placed_notes}
use Rattle.ob_recover.proofs.showing.show_jobs.Given as goal

abbrev pub invariant-loop-i : goal.invariant-loop-i
invariant-loop-i g l = Shows (placed_notes l.jobs l.i) (g.W.Watch.trace l.fn.watch) (g.W.Watch.trace l.watch)
