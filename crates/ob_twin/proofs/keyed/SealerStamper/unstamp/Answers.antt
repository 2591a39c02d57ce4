use Rattle.std.proofs.Common.{rules, length, ◌≡◌}
use Rattle.ob_twin.proofs.Tags.{plain_is, wrong_is, if_ok_so, if_err_so}
use Rattle.ob_twin.proofs.keyed.SealerStamper.unstamp.Goals as goal

pub returns-clause-plain : goal.returns-clause-plain
returns-clause-plain c =
    let whole : length c.args.bytes.now ≡ 128 = search rules in
    if_ok_so _ _ c.unstamp.result (λ plain is. plain_is c.args.self.now.keys c.args.cell c.args.bytes.now plain whole is) c.unstamp.ensures.spelled

pub returns-clause-damaged : goal.returns-clause-damaged
returns-clause-damaged c =
    let whole : length c.args.bytes.now ≡ 128 = search rules in
    if_err_so _ _ c.unstamp.result (λ d wrong. wrong_is c.args.self.now.keys c.args.cell c.args.bytes.now d whole wrong) c.unstamp.ensures.damaged
