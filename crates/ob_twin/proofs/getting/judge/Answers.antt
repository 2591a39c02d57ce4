use Rattle.std.proofs.Common.{◌+◌, Ok, Option, ℕ, sym, subst, arith}
use Rattle.ob_twin.specs.Reading.{IsRead}
use Rattle.ob_twin.proofs.Judging.{err_zero, err_one, both_read}
use Rattle.ob_twin.proofs.getting.judge.Goals as goal

pub returns-in-Err-clause-read : goal.returns-in-Err-clause-read
returns-in-Err-clause-read g c = λ image bz gz bo go.
    err_zero (g.T.Stamper.tag c.args.stamper.now) c.args.first c.args.first (c.args.first + 2) image _ _ _ _ (omega arith) (omega arith) bz gz bo go c.in-Err.damaged c.in-Err.ensures

pub returns-in-Err-number_in-clause-read : goal.returns-in-Err-number_in-clause-read
returns-in-Err-number_in-clause-read g c = λ image bz gz bo go.
    err_one (g.T.Stamper.tag c.args.stamper.now) c.args.first c.args.first (c.args.first + 2) image _ _ _ _ (omega arith) (omega arith) bz gz bo go c.in-Ok.zero c.in-Err-number_in.damaged c.in-Ok.ensures c.in-Err-number_in.ensures

pub returns-clause-read : goal.returns-clause-read
returns-clause-read g c = λ image bz gz bo go.
    subst (λ (o : Option ℕ). IsRead (g.T.Stamper.tag c.args.stamper.now) c.args.first image (Ok o)) (sym c.greater.ensures)
    (both_read (g.T.Stamper.tag c.args.stamper.now) c.args.first c.args.first (c.args.first + 2) image _ _ _ _ (omega arith) (omega arith) bz gz bo go c.in-Ok.zero c.in-Ok-number_in.one c.in-Ok.ensures c.in-Ok-number_in.ensures)
