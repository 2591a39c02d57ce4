use Rattle.std.proofs.Common.{ℕ, List, [], ◌++◌, length, sym, ◌∙◌}
use Rattle.std.specs.List.{filter, range_with_len}
use Rattle.ob_ring.specs.Order.{is_live, is_spare}
use Rattle.ob_ring.proofs.Pushes.{kept_same, kept_more}
use Rattle.ob_ring.proofs.order.lift_order.Goals as goal
use Rattle.ob_ring.proofs.order.lift_order.Goals.{then-is_live, else-is_live, then-is_spare, else-is_spare}

pub loop-j-preserved : goal.loop-j-preserved
loop-j-preserved c = elim c.if-is_live.branch [
  | then-is_live w ↦ rw (w.out-is, w.n-is) (record {
    long = w.push_below-n.ensures.long ∙ c.loop-j.invariant.long;
    held = kept_more w.push_below-n.new.out w.push_below-n.result (length c.args.keys.now) c.loop-j.j [] (is_live c.args.keys.now) (sym c.is_live.ensures ∙ w.if-is_live.true)
        (w.push_below-n.ensures.pushed (filter (is_live c.args.keys.now) (range_with_len 0 c.loop-j.j)) c.loop-j.invariant.held);
  })
  | else-is_live w ↦ rw (w.out-is, w.n-is) (record {
    long = c.loop-j.invariant.long;
    held = kept_same c.loop-j.out c.loop-j.n (length c.args.keys.now) c.loop-j.j [] (is_live c.args.keys.now) (sym c.is_live.ensures ∙ w.if-is_live.false) c.loop-j.invariant.held;
  })
]

pub loop-i-preserved : goal.loop-i-preserved
loop-i-preserved c =
    let before : List ℕ = filter (is_live c.args.keys.now) (range_with_len 0 (length c.args.used.now)) in
    elim c.if-is_spare.branch [
      | then-is_spare w ↦ rw (w.out-is, w.n-is) (record {
        long = w.push_below-n-then-is_spare.ensures.long ∙ c.loop-i.invariant.long;
        held = kept_more w.push_below-n-then-is_spare.new.out w.push_below-n-then-is_spare.result (length c.args.keys.now) c.loop-i.i before (is_spare c.args.keys.now c.args.used.now) (sym c.is_spare.ensures ∙ w.if-is_spare.true)
            (w.push_below-n-then-is_spare.ensures.pushed (before ++ filter (is_spare c.args.keys.now c.args.used.now) (range_with_len 0 c.loop-i.i)) c.loop-i.invariant.held);
      })
      | else-is_spare w ↦ rw (w.out-is, w.n-is) (record {
        long = c.loop-i.invariant.long;
        held = kept_same c.loop-i.out c.loop-i.n (length c.args.keys.now) c.loop-i.i before (is_spare c.args.keys.now c.args.used.now) (sym c.is_spare.ensures ∙ w.if-is_spare.false) c.loop-i.invariant.held;
      })
    ]
