use Rattle.std.proofs.Common.{◌-◌, Option, false, option_map, unwrap_or, sym, ap, ◌∙◌, arith}
use Rattle.std.proofs.lemmas.Grind.{common_steps}
use Rattle.std.proofs.lemmas.Option.{slice_get-get_or}
use Rattle.ob_order.proofs.Steps.{at_before, past_last}
use Rattle.ob_desk.specs.Desk.{Holder, new_holder}
use Rattle.ob_desk.proofs.part.has_asked.Goals as goal

pub returns-then-t-eq0 : goal.returns-then-t-eq0
returns-then-t-eq0 c = grind (arith, common_steps, past_last)

pub returns : goal.returns
returns c =
    let holders = c.args.holders.now in
    sym (ap (λ (o : Option Holder). unwrap_or (option_map (λ h. h.asked) o) false) (at_before holders c.args.t (omega arith) ∙ slice_get-get_or holders (c.args.t - 1) (new_holder 0) (omega arith)))
