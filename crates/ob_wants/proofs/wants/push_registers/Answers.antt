use Rattle.std.proofs.Common.{◌++◌, true, false, ◌≡◌}
use Rattle.std.proofs.lemmas.Result.{on_ok_weaker}
use Rattle.ob_base.specs.Layout.{GenerationTwin, EpochTwin}
use Rattle.ob_schedule.specs.Schedule.{copy_notes, first_reads, head_notes, reads_of, region_cells}
use Rattle.ob_wants.proofs.Pushed.{then_kept}
use Rattle.ob_wants.proofs.wants.push_registers.Goals as goal

pub returns-in_ok-push_copy : goal.returns-in_ok-push_copy
returns-in_ok-push_copy c =
    let p = c.args.p.now in
    let old = c.args.wants.now in
    let begun = then_kept old _ _ head_notes (copy_notes p) c.in_ok-push_reads.ensures c.in_ok-push_copy.ensures in
    let is : c.args.mirrored ≡ true = c.if-mirrored.true in
    rw is (on_ok_weaker c.push_reads-then-mirrored.result (λ told. then_kept old _ _ (first_reads p true) (reads_of (region_cells p GenerationTwin ++ region_cells p EpochTwin)) begun told) c.push_reads-then-mirrored.ensures)

pub returns-else-mirrored : goal.returns-else-mirrored
returns-else-mirrored c = let is : c.args.mirrored ≡ false = c.if-mirrored.false in rw is c.push_reads-else-mirrored.ensures
