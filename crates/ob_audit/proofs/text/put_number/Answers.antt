use Rattle.std.proofs.Common.{◌≡◌, ◌∙◌, decimal}
use Rattle.ob_audit.proofs.Puts.{front_same, front_of_first, front_of_both, all_of_both}
use Rattle.ob_audit.proofs.text.put_number.Goals as goal

pub returns-clause-front : goal.returns-clause-front
returns-clause-front g c =
    let text : c.as_bytes.result.now ≡ decimal c.args.number = c.as_bytes.ensures.value ∙ c.format.ensures.text in
    front_of_both _ _ _ c.args.before.now (decimal c.args.number) c.in_ok-put_all.ensures.all (front_same _ _ _ _ text c.put_all-2.ensures.front)

pub returns-in_err-put_all-clause-front : goal.returns-in_err-put_all-clause-front
returns-in_err-put_all-clause-front g c = front_of_first _ _ c.args.before.now (decimal c.args.number) c.in_err-put_all.ensures.front

pub returns-clause-all : goal.returns-clause-all
returns-clause-all g c =
    let text : c.as_bytes.result.now ≡ decimal c.args.number = c.as_bytes.ensures.value ∙ c.format.ensures.text in
    all_of_both c.put_all-2.result _ _ _ c.args.before.now (decimal c.args.number) c.in_ok-put_all.ensures.all (rw text at c.put_all-2.ensures.all)
