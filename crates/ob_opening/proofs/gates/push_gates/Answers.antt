use Rattle.std.proofs.Common.{◌++◌, ◌∷◌, [], ℕ, List, map, ap, sym, ◌∙◌, append_assoc, arith}
use Rattle.std.proofs.lemmas.List.FromFn.{map-range_with_len_more}
use Rattle.ob_base.specs.Tree.{below}
use Rattle.ob_base.specs.Layout.{log_gate}
use Rattle.ob_opening.proofs.gates.push_gates.Goals as goal

pub loop-batch-preserved : goal.loop-batch-preserved
loop-batch-preserved c =
    let p = c.args.p.now in
    let n = c.loop-batch.batch in
    let front = c.args.gates.now.items in
    let made = map (λ b. log_gate p c.args.area b) (below n) in
    c.in_ok-push.ensures.items
    ∙ ap (λ (l : List ℕ). l ++ c.log_gate.result ∷ []) c.loop-batch.invariant
    ∙ append_assoc front made (c.log_gate.result ∷ [])
    ∙ ap (λ (l : List ℕ). front ++ l) (ap (λ (x : ℕ). made ++ x ∷ []) c.log_gate.ensures.cell ∙ sym (map-range_with_len_more (λ b. log_gate p c.args.area b) 0 n n (omega arith)))
