use Rattle.std.proofs.Common.{◌++◌, ◌∷◌, [], codes}
use Rattle.ob_audit.specs.Verdict.{wanted_text}
use Rattle.ob_audit.proofs.Puts.{front_of_first, front_of_both, all_of_both}
use Rattle.ob_audit.proofs.text.put_behind.Goals as goal

pub returns-in_err-put_all-clause-front : goal.returns-in_err-put_all-clause-front
returns-in_err-put_all-clause-front g c = front_of_first _ _ (codes " wanted ") (wanted_text c.args.wanted ++ 10 ∷ []) c.in_err-put_all.ensures.front

pub returns-clause-front : goal.returns-clause-front
returns-clause-front g c = front_of_both _ _ _ (codes " wanted ") (wanted_text c.args.wanted ++ 10 ∷ []) c.in_ok-put_all.ensures.all c.end_wanted.ensures.front

pub returns-clause-all : goal.returns-clause-all
returns-clause-all g c = all_of_both c.end_wanted.result _ _ _ (codes " wanted ") (wanted_text c.args.wanted ++ 10 ∷ []) c.in_ok-put_all.ensures.all c.end_wanted.ensures.all
