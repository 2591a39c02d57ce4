use Rattle.std.proofs.Common.{◌∷◌, []}
use Rattle.ob_audit.specs.Verdict.{wanted_text}
use Rattle.ob_audit.proofs.Puts.{front_of_first, front_of_both, all_of_both}
use Rattle.ob_audit.proofs.text.end_wanted.Goals as goal

pub returns-in_err-put_wanted-clause-front : goal.returns-in_err-put_wanted-clause-front
returns-in_err-put_wanted-clause-front g c = front_of_first _ _ (wanted_text c.args.wanted) (10 ∷ []) c.in_err-put_wanted.ensures.front

pub returns-clause-front : goal.returns-clause-front
returns-clause-front g c = front_of_both _ _ _ (wanted_text c.args.wanted) (10 ∷ []) c.in_ok-put_wanted.ensures.all c.put_all.ensures.front

pub returns-clause-all : goal.returns-clause-all
returns-clause-all g c = all_of_both c.put_all.result _ _ _ (wanted_text c.args.wanted) (10 ∷ []) c.in_ok-put_wanted.ensures.all c.put_all.ensures.all
