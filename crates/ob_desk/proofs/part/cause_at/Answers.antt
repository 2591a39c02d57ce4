use Rattle.std.proofs.Common.{◌-◌, option_and_then, sym, ap, ◌∙◌, arith}
use Rattle.std.proofs.lemmas.Grind.{common_steps}
use Rattle.std.proofs.lemmas.Option.{slice_get-get_or}
use Rattle.ob_order.proofs.Steps.{at_before, past_last}
use Rattle.ob_desk.specs.Desk.{Holder, new_holder}
use Rattle.ob_desk.proofs.part.cause_at.Goals as goal

pub returns-then-t-eq0 : goal.returns-then-t-eq0
returns-then-t-eq0 c = grind (arith, common_steps, past_last)

pub returns : goal.returns
returns c =
    let holders = c.args.holders.now in
    sym (ap (option_and_then (λ (h : Holder). h.cause)) (at_before holders c.args.t (omega arith) ∙ slice_get-get_or holders (c.args.t - 1) (new_holder 0) (omega arith)))
