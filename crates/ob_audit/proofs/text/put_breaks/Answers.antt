use Rattle.std.proofs.Common.{◌++◌, ◌∷◌, [], decimal, codes}
use Rattle.ob_audit.specs.Verdict.{wanted_text}
use Rattle.ob_audit.proofs.Puts.{front_of_first, front_of_both, all_of_both}
use Rattle.ob_audit.proofs.text.put_breaks.Goals as goal

pub returns-in_err-put_number-clause-front : goal.returns-in_err-put_number-clause-front
returns-in_err-put_number-clause-front g c = front_of_first _ _ (codes "breaks line " ++ decimal c.args.line) (codes " wanted " ++ (wanted_text c.args.wanted ++ 10 ∷ [])) c.in_err-put_number.ensures.front

pub returns-clause-front : goal.returns-clause-front
returns-clause-front g c = front_of_both _ _ _ (codes "breaks line " ++ decimal c.args.line) (codes " wanted " ++ (wanted_text c.args.wanted ++ 10 ∷ [])) c.in_ok-put_number.ensures.all c.put_behind.ensures.front

pub returns-clause-all : goal.returns-clause-all
returns-clause-all g c =
    all_of_both c.put_behind.result _ _ _ (codes "breaks line " ++ decimal c.args.line) (codes " wanted " ++ (wanted_text c.args.wanted ++ 10 ∷ [])) c.in_ok-put_number.ensures.all c.put_behind.ensures.all
