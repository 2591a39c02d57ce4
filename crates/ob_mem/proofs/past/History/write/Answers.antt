use Rattle.std.proofs.Common.{◌≤◌, length, arith}
use Rattle.ob_mem.proofs.Calls.{kept_write, kept_past}
use Rattle.ob_mem.proofs.past.History.write.Goals as goal

pub invariant_of-self-then-cell-len : goal.invariant_of-self-then-cell-len
invariant_of-self-then-cell-len c = kept_write _ _ _ _ _ _ c.self.invariant c.in_ok-push.ensures.items

pub invariant_of-self-else-cell-len : goal.invariant_of-self-else-cell-len
invariant_of-self-else-cell-len c =
    let out : length c.self.inside.cells.items ≤ c.args.cell = omega arith in
    kept_past _ _ _ _ _ _ c.self.invariant out c.in_ok-push.ensures.items
