use Rattle.std.proofs.Common.{◌==◌, ◌<◌, ◌&&◌, not, cond, false, length, take, get_or, nat_eq, sym, ap, ◌∙◌, arith}
use Rattle.std.specs.List.{list_any}
use Rattle.std.proofs.lemmas.List.Folds.{list_any_more}
use Rattle.ob_queue.proofs.Once.{forgets}
use Rattle.ob_queue.proofs.key_list.forget.Goals as goal

pub loop-i-preserved : goal.loop-i-preserved
loop-i-preserved c =
    let keys = c.args.keys.now in
    let i = c.loop-i.i in
    let x = get_or keys i 0 in
    let l : i < length keys = omega arith in
    λ k. c.remove.ensures.updates.0 k
    ∙ (ap (λ b. cond (nat_eq x k) false b) (c.loop-i.invariant k)
    ∙ (forgets (list_any (λ j. j == k) (take i keys)) (list_any (nat_eq k) c.args.known.now.keys) (x == k)
    ∙ ap (λ b. not b && list_any (nat_eq k) c.args.known.now.keys) (sym (list_any_more (λ j. j == k) keys i 0 l))))
