use Rattle.std.proofs.Common.{◌≡◌, ◌∙◌, ◌++◌, ◌∷◌, ◌+◌, [], ℕ, List, sym, ap, subst, take, drop}
use Rattle.std.proofs.lemmas.List.{take_more}
use Rattle.std.specs.Ordering.{nat_cmp}
use Rattle.ob_base.specs.declared.op.Op.{Op}
use Rattle.ob_serial.specs.Serial.{Replays}
use Rattle.ob_serial.proofs.Runs.{op_more, op_stops, rejoined}
use Rattle.ob_plain_serial.proofs.plain.replay_ops.Goals as goal

pub loop-op-preserved : goal.loop-op-preserved
loop-op-preserved c =
    let more = take_more c.args.ops.now c.loop-op.op-index c.op-item.result c.loop-op-test.true in
    let did = rw c.if-not-branch.false at c.in_ok-replay_op.ensures in
    let all = op_more nat_cmp _ _ _ _ _ c.loop-op.invariant.replays c.loop-op.invariant.after_is did.0 did.1 in
    rw (more, sym c.op-item.is) (record { replays = all.0; after_is = all.1 })

pub returns-then-not-branch : goal.returns-then-not-branch
returns-then-not-branch c =
    let ops = c.args.ops.now in
    let i = c.loop-op.op-index in
    let op = c.op-item.result in
    let stuck = rw c.if-not-branch.true at c.in_ok-replay_op.ensures in
    let more : take (i + 1) ops ≡ take i ops ++ op ∷ [] = take_more ops i op c.loop-op-test.true ∙ ap (λ (x : Op ℕ). take i ops ++ x ∷ []) (sym c.op-item.is) in
    λ r. op_stops nat_cmp _ _ (take i ops) (drop (i + 1) ops) op c.loop-op.invariant.after_is stuck
    (subst (λ (o : List (Op ℕ)). Replays nat_cmp c.args.values.now o) (sym (rejoined ops i _ more)) r)
