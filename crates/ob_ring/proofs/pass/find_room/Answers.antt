use Rattle.std.proofs.Common.{◌≡◌, arith, sym, ◌∙◌, false, slice_index_or}
use Rattle.ob_tables.specs.Buckets.{is_lifted}
use Rattle.ob_ring.specs.Loops.{roomy}
use Rattle.ob_ring.proofs.Seeks.{sought_yes, sought_no, sought_end, room_is, no_room, not_lifted}
use Rattle.ob_ring.proofs.pass.find_room.Goals as goal
use Rattle.ob_ring.proofs.pass.find_room.Goals.{else-is_lifted-via-then-is_lifted+else-get-p, else-is_lifted-via-else-is_lifted}

pub returns-then-get-p-clause-found : goal.returns-then-get-p-clause-found
returns-then-get-p-clause-found g c =
    (sought_yes c.args.p.now (roomy c.args.p.now c.args.metas.now c.args.index.now) c.args.leaf c.loop-up.up c.args.steps.now c.loop-up.steps c.loop-up.invariant c.bucket_of-bucket.result (omega (arith, c.loop-up-test.true)) c.bucket_of-bucket.ensures.bucket
    (room_is c.args.p.now (λ u. is_lifted c.args.metas.now u) (λ u. slice_index_or c.args.index.now u 0) c.bucket_of-bucket.result (sym c.is_lifted.ensures ∙ c.if-is_lifted.true) (omega (arith, c.get.ensures, c.if-get-p.true)))).0

pub returns-then-get-p-clause-cost : goal.returns-then-get-p-clause-cost
returns-then-get-p-clause-cost g c =
    omega (
      arith,
      c.tick.ensures,
      c.tick-then-get-p.ensures,
      (sought_yes c.args.p.now (roomy c.args.p.now c.args.metas.now c.args.index.now) c.args.leaf c.loop-up.up c.args.steps.now c.loop-up.steps c.loop-up.invariant c.bucket_of-bucket.result (omega (arith, c.loop-up-test.true)) c.bucket_of-bucket.ensures.bucket
          (room_is c.args.p.now (λ u. is_lifted c.args.metas.now u) (λ u. slice_index_or c.args.index.now u 0) c.bucket_of-bucket.result (sym c.is_lifted.ensures ∙ c.if-is_lifted.true) (omega (arith, c.get.ensures, c.if-get-p.true)))).1,
    )

pub loop-up-preserved : goal.loop-up-preserved
loop-up-preserved g c =
    let off : roomy c.args.p.now c.args.metas.now c.args.index.now c.bucket_of-bucket.result ≡ false = elim c.else-is_lifted.branch [
      | else-is_lifted-via-then-is_lifted+else-get-p w ↦ no_room c.args.p.now (λ u. is_lifted c.args.metas.now u) (λ u. slice_index_or c.args.index.now u 0) c.bucket_of-bucket.result (omega (arith, w.get.ensures, w.if-get-p.false))
      | else-is_lifted-via-else-is_lifted w ↦ not_lifted c.args.p.now (λ u. is_lifted c.args.metas.now u) (λ u. slice_index_or c.args.index.now u 0) c.bucket_of-bucket.result (sym c.is_lifted.ensures ∙ w.if-is_lifted.false)
    ] in
    rw c.tick.ensures (sought_no c.args.p.now (roomy c.args.p.now c.args.metas.now c.args.index.now) c.args.leaf c.loop-up.up c.args.steps.now c.loop-up.steps c.loop-up.invariant c.bucket_of-bucket.result (omega (arith, c.loop-up-test.true)) c.bucket_of-bucket.ensures.bucket off)

pub returns-clause-found : goal.returns-clause-found
returns-clause-found g c = (sought_end c.args.p.now (roomy c.args.p.now c.args.metas.now c.args.index.now) c.args.leaf c.loop-up.up c.args.steps.now c.loop-up.steps c.loop-up.invariant (omega (arith, c.loop-up-test.false, c.loop-up.auto.up-end))).0

pub returns-clause-cost : goal.returns-clause-cost
returns-clause-cost g c = (sought_end c.args.p.now (roomy c.args.p.now c.args.metas.now c.args.index.now) c.args.leaf c.loop-up.up c.args.steps.now c.loop-up.steps c.loop-up.invariant (omega (arith, c.loop-up-test.false, c.loop-up.auto.up-end))).1
