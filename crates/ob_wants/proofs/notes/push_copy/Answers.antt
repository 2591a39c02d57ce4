use Rattle.std.proofs.Common.{List, ◌++◌, ◌∙◌, ap, sym}
use Rattle.std.proofs.lemmas.List.{map-append}
use Rattle.std.proofs.lemmas.Result.{on_ok_weaker}
use Rattle.ob_base.specs.Layout.{EpochTwin, ring_cells}
use Rattle.ob_base.specs.Tree.{below}
use Rattle.ob_store.specs.declared.watch.Note.{Note}
use Rattle.ob_store.specs.declared.watch.Note.TheVariants.{Read}
use Rattle.ob_schedule.specs.Schedule.{reads_of, region_cells}
use Rattle.ob_schedule.specs.Wants.{kept}
use Rattle.ob_wants.proofs.Pushed.{then_kept, same_notes}
use Rattle.ob_wants.proofs.notes.push_copy.Goals as goal

pub returns : goal.returns
returns c =
    let p = c.args.p.now in
    let old = c.args.wants.now in
    let register = region_cells p EpochTwin in
    let all = same_notes c.push_reads-2.result _ _ _ _ (ap (λ n. reads_of (below n)) c.ring_cells.ensures.cells) c.push_reads-2.ensures in
    on_ok_weaker c.push_reads-2.result (λ told. then_kept old _ _ (reads_of register) (reads_of (below (ring_cells p))) c.in_ok-push_reads.ensures told ∙ ap (λ (ns : List Note). old ++ kept ns) (sym (map-append (λ cell. Read cell) register (below (ring_cells p))))) all
