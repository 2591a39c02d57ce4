use Rattle.std.proofs.Common.{rules, ◌≡◌, ◌+◌, inl, inr, subst, arith}
use Rattle.ob_store.specs.declared.event.Event.TheVariants.{Write}
use Rattle.ob_store.specs.Calls.{Notes}
use Rattle.ob_store.specs.Told.{Tells}
use Rattle.ob_store.proofs.Doing.{does_all, does_err, tells_none}
use Rattle.ob_store.proofs.Serving.{goes_then, rose_later}
use Rattle.ob_mirror.specs.Joins.{cell_writes, reads_from}
use Rattle.ob_mirror.proofs.Copying.{copied_one, copying_none, elsewhere_one, passes_one, row_first, row_next}
use Rattle.ob_mirror.proofs.EachRead.{copied_next, first_reads}
use Rattle.ob_mirror.proofs.joining.copy_cells.Goals as goal

pub loop-cell-init : goal.loop-cell-init
loop-cell-init g c = record {
  copying = copying_none c.args.cells (g.A.Store.disk c.args.first.now) (g.B.Store.disk c.args.second.now) (search rules);
  reads = tells_none _ _;
  later = omega arith;
}

-- ---- a read was refused

pub returns-in-Err-clause-later : goal.returns-in-Err-clause-later
returns-in-Err-clause-later g c = let was = c.loop-cell.invariant.later in let on = c.read_noted.ensures.cause.later in omega (arith, was, on)

pub returns-in-Err-clause-reads : goal.returns-in-Err-clause-reads
returns-in-Err-clause-reads g c =
    does_err _ _ _ _ (reads_from 0 c.args.cells) _
    (first_reads 0 c.args.cells (c.loop-cell.cell + 1) _ _ _ _ (omega (arith, c.loop-cell-test.true)) (copied_next c.loop-cell.cell _ _ _ _ _ _ c.loop-cell.invariant.reads c.read_noted.ensures.told))

pub returns-in-Err-clause-writes : goal.returns-in-Err-clause-writes
returns-in-Err-clause-writes g c = row_first (λ k. Write k) c.args.cells c.loop-cell.cell _ _ (omega (arith, c.loop-cell-test.true)) c.loop-cell.invariant.copying.writes

pub returns-in-Err-clause-goes : goal.returns-in-Err-clause-goes
returns-in-Err-clause-goes g c = c.loop-cell.invariant.copying.goes

pub returns-in-Err-clause-out : goal.returns-in-Err-clause-out
returns-in-Err-clause-out g c = c.loop-cell.invariant.copying.out

pub returns-in-Err-clause-rest : goal.returns-in-Err-clause-rest
returns-in-Err-clause-rest g c = c.loop-cell.invariant.copying.elsewhere

pub returns-in-Err-clause-passes : goal.returns-in-Err-clause-passes
returns-in-Err-clause-passes g c = c.loop-cell.invariant.copying.passes

pub returns-in-Err-clause-cause : goal.returns-in-Err-clause-cause
returns-in-Err-clause-cause g c = inl (rose_later _ _ _ c.loop-cell.invariant.later c.in-Err.ensures.cause.failed)

-- ---- a write was refused

pub write-requires : goal.write-requires
write-requires g c = c.loop-cell.invariant.copying.out

pub returns-in-Err-write-clause-later : goal.returns-in-Err-write-clause-later
returns-in-Err-write-clause-later g c = let was = c.loop-cell.invariant.later in let on = c.read_noted.ensures.cause.later in omega (arith, was, on)

pub returns-in-Err-write-clause-reads : goal.returns-in-Err-write-clause-reads
returns-in-Err-write-clause-reads g c =
    does_err _ _ _ _ (reads_from 0 c.args.cells) _
    (first_reads 0 c.args.cells (c.loop-cell.cell + 1) _ _ _ _ (omega (arith, c.loop-cell-test.true)) (copied_next c.loop-cell.cell _ _ _ _ _ _ c.loop-cell.invariant.reads c.read_noted.ensures.told))

pub returns-in-Err-write-clause-writes : goal.returns-in-Err-write-clause-writes
returns-in-Err-write-clause-writes g c =
    row_first (λ k. Write k) c.args.cells (c.loop-cell.cell + 1) _ _ (omega (arith, c.loop-cell-test.true)) (row_next (λ k. Write k) c.loop-cell.cell _ _ _ c.loop-cell.invariant.copying.writes c.write.ensures.seen)

pub returns-in-Err-write-clause-goes : goal.returns-in-Err-write-clause-goes
returns-in-Err-write-clause-goes g c = goes_then (g.B.Store.disk c.args.second.now) (g.B.Store.disk c.loop-cell.second) (g.B.Store.disk c.write.new.self) c.loop-cell.invariant.copying.goes c.write.ensures.serves.goes

pub returns-in-Err-write-clause-out : goal.returns-in-Err-write-clause-out
returns-in-Err-write-clause-out g c = let none = c.loop-cell.invariant.copying.out in let still = c.write.ensures.serves.out in omega (arith, none, still)

pub returns-in-Err-write-clause-rest : goal.returns-in-Err-write-clause-rest
returns-in-Err-write-clause-rest g c =
    elsewhere_one c.args.cells c.loop-cell.cell (g.A.Store.disk c.args.first.now) (g.B.Store.disk c.args.second.now) (g.B.Store.disk c.loop-cell.second) (g.B.Store.disk c.write.new.self)
    c.loop-cell-test.true c.loop-cell.invariant.copying c.write.ensures.rest

pub returns-in-Err-write-clause-passes : goal.returns-in-Err-write-clause-passes
returns-in-Err-write-clause-passes g c =
    let e = c.write.ensures in
    passes_one c.args.cells c.loop-cell.cell (g.A.Store.disk c.args.first.now) (g.B.Store.disk c.args.second.now) (g.B.Store.disk c.loop-cell.second) (g.B.Store.disk c.write.new.self)
    c.loop-cell-test.true c.loop-cell.invariant.copying e.serves.goes e.crash e.time e.rest

pub returns-in-Err-write-clause-cause : goal.returns-in-Err-write-clause-cause
returns-in-Err-write-clause-cause g c = inr (rose_later _ _ _ c.loop-cell.invariant.copying.goes.faults (c.in-Err-write.ensures.serves.cause tt))

-- ---- a cell was copied

pub loop-cell-preserved : goal.loop-cell-preserved
loop-cell-preserved g c =
    let e = c.in-Ok-write.ensures in
    let so_far = c.loop-cell.invariant in
    record {
      copying = copied_one c.args.cells c.loop-cell.cell (g.A.Store.disk c.args.first.now) (g.B.Store.disk c.args.second.now) (g.B.Store.disk c.loop-cell.second) (g.B.Store.disk c.write.new.self)
          c.loop-cell-test.true so_far.copying _ c.in-Ok.ensures.bytes e.serves e.written e.rest e.crash e.time e.seen;
      reads = copied_next c.loop-cell.cell _ _ _ _ _ _ so_far.reads c.read_noted.ensures.told;
      later = (let was = so_far.later in let on = c.read_noted.ensures.cause.later in omega (arith, was, on));
    }

-- ---- all were copied

pub returns-clause-later : goal.returns-clause-later
returns-clause-later g c = c.loop-cell.invariant.later

pub returns-clause-reads : goal.returns-clause-reads
returns-clause-reads g c =
    let whole : c.loop-cell.cell ≡ c.args.cells = omega (arith, c.loop-cell-test.false, c.loop-cell.auto.cell-end) in
    does_all _ _ _ _ (reads_from 0 c.args.cells) tt
    (subst (λ n. Tells (reads_from 0 n) (reads_from 0 n) (g.A.Store.lane_seen c.args.lane.now) (g.A.Store.lane_seen c.loop-cell.lane) (g.W.Watch.trace c.args.watch.now) (g.W.Watch.trace c.loop-cell.watch)) whole c.loop-cell.invariant.reads)

pub returns-clause-writes : goal.returns-clause-writes
returns-clause-writes g c =
    let whole : c.loop-cell.cell ≡ c.args.cells = omega (arith, c.loop-cell-test.false, c.loop-cell.auto.cell-end) in
    subst (λ n. Notes (cell_writes n) (g.B.Store.disk c.args.second.now).seen (g.B.Store.disk c.loop-cell.second).seen) whole c.loop-cell.invariant.copying.writes

pub returns-clause-goes : goal.returns-clause-goes
returns-clause-goes g c = c.loop-cell.invariant.copying.goes

pub returns-clause-out : goal.returns-clause-out
returns-clause-out g c = c.loop-cell.invariant.copying.out

pub returns-clause-tells : goal.returns-clause-tells
returns-clause-tells g c = c.loop-cell.invariant.copying.tells

pub returns-clause-rest : goal.returns-clause-rest
returns-clause-rest g c = c.loop-cell.invariant.copying.elsewhere

pub returns-clause-passes : goal.returns-clause-passes
returns-clause-passes g c = c.loop-cell.invariant.copying.passes

pub returns-clause-copied : goal.returns-clause-copied
returns-clause-copied g c =
    let whole : c.loop-cell.cell ≡ c.args.cells = omega (arith, c.loop-cell-test.false, c.loop-cell.auto.cell-end) in
    λ one two k lt. c.loop-cell.invariant.copying.here one two k (omega (arith, whole, lt))
