use Rattle.std.proofs.Common.{◌≡◌, ◌+◌, subst, arith}
use Rattle.ob_store.specs.Told.{Tells}
use Rattle.ob_store.proofs.Doing.{does_all, does_err, tells_none}
use Rattle.ob_store.proofs.Serving.{rose_later}
use Rattle.ob_mirror.specs.Joins.{reads_from}
use Rattle.ob_mirror.proofs.EachRead.{first_reads, reads_next}
use Rattle.ob_mirror.proofs.reading.read_each.Goals as goal

pub loop-cell-init : goal.loop-cell-init
loop-cell-init g c = record { reads = tells_none _ _; later = omega arith }

pub returns-in-Err-clause-later : goal.returns-in-Err-clause-later
returns-in-Err-clause-later g c = let was = c.loop-cell.invariant.later in let on = c.read_noted.ensures.cause.later in omega (arith, was, on)

pub returns-in-Err-clause-does : goal.returns-in-Err-clause-does
returns-in-Err-clause-does g c =
    does_err _ _ _ _ (reads_from c.args.base c.args.count) _
    (first_reads c.args.base c.args.count (c.loop-cell.cell + 1) _ _ _ _ (omega (arith, c.loop-cell-test.true)) (reads_next c.args.base c.loop-cell.cell _ _ _ _ _ _ c.loop-cell.invariant.reads c.read_noted.ensures.told))

pub returns-in-Err-clause-cause : goal.returns-in-Err-clause-cause
returns-in-Err-clause-cause g c = rose_later _ _ _ c.loop-cell.invariant.later c.in-Err.ensures.cause.failed

pub loop-cell-preserved : goal.loop-cell-preserved
loop-cell-preserved g c =
    let so_far = c.loop-cell.invariant in
    record {
      reads = reads_next c.args.base c.loop-cell.cell _ _ _ _ _ _ so_far.reads c.read_noted.ensures.told;
      later = (let was = so_far.later in let on = c.read_noted.ensures.cause.later in omega (arith, was, on));
    }

pub returns-clause-later : goal.returns-clause-later
returns-clause-later g c = c.loop-cell.invariant.later

pub returns-clause-does : goal.returns-clause-does
returns-clause-does g c =
    let whole : c.loop-cell.cell ≡ c.args.count = omega (arith, c.loop-cell-test.false, c.loop-cell.auto.cell-end) in
    does_all _ _ _ _ (reads_from c.args.base c.args.count) tt
    (subst (λ n. Tells (reads_from c.args.base n) (reads_from c.args.base n) (g.A.Store.lane_seen c.args.lane.now) (g.A.Store.lane_seen c.loop-cell.lane) (g.W.Watch.trace c.args.watch.now) (g.W.Watch.trace c.loop-cell.watch)) whole
    c.loop-cell.invariant.reads)
