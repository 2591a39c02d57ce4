use Rattle.std.proofs.Common.{◌++◌, decimal}
use Rattle.ob_audit.proofs.Puts.{front_of_first, front_of_both, all_of_both}
use Rattle.ob_audit.proofs.text.put_two.Goals as goal

pub returns-in_err-put_number-clause-front : goal.returns-in_err-put_number-clause-front
returns-in_err-put_number-clause-front g c = front_of_first _ _ (c.args.one.now ++ decimal c.args.first) (c.args.or.now ++ decimal c.args.second) c.in_err-put_number.ensures.front

pub returns-clause-front : goal.returns-clause-front
returns-clause-front g c = front_of_both _ _ _ (c.args.one.now ++ decimal c.args.first) (c.args.or.now ++ decimal c.args.second) c.in_ok-put_number.ensures.all c.put_number-2.ensures.front

pub returns-clause-all : goal.returns-clause-all
returns-clause-all g c = all_of_both c.put_number-2.result _ _ _ (c.args.one.now ++ decimal c.args.first) (c.args.or.now ++ decimal c.args.second) c.in_ok-put_number.ensures.all c.put_number-2.ensures.all
