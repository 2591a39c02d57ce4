use Rattle.std.proofs.Common.{List, ◌∷◌, [], ◌++◌, get_or, sym, ap, ◌∙◌, arith}
use Rattle.std.proofs.lemmas.Result.{IfOk-from_err}
use Rattle.std.proofs.lemmas.List.{map_more}
use Rattle.ob_desk.specs.Desk.{Client, new_client}
use Rattle.ob_desk.proofs.roll.enrol.Goals as goal

pub returns-in_err-push : goal.returns-in_err-push
returns-in_err-push c = IfOk-from_err c.from_residual.result _ c.from_residual.ensures.0

pub loop-number-preserved : goal.loop-number-preserved
loop-number-preserved c =
    let numbers = c.args.numbers.now in
    let i = c.loop-number.number-index in
    c.in_ok-push.ensures.items ∙ (ap (λ (cs : List Client). cs ++ new_client (get_or numbers i 0) ∷ []) c.loop-number.invariant ∙ sym (map_more new_client numbers i 0 (omega arith)))
