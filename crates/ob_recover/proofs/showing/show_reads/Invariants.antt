use Rattle.std.proofs.Common.{map, take}
use Rattle.ob_store.specs.declared.watch.Note.TheVariants as note
use Rattle.ob_store.specs.Lines.{Shows}
use Rattle.ob_recover.proofs.showing.show_reads.Given as goal

abbrev pub invariant-loop-i : goal.invariant-loop-i
invariant-loop-i g l = Shows (map (λ j. note.Read j.cell) (take l.i l.jobs)) (g.W.Watch.trace l.initial.watch) (g.W.Watch.trace l.watch)
