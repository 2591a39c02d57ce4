use Rattle.std.proofs.Common.{arith, ◌∙◌, sym}
use Rattle.ob_claims.proofs.ClaimSteps.{looks, takes}
use Rattle.ob_claims.proofs.Rounds.{all_found, all_found_before}
use Rattle.ob_claims.proofs.claims.Claims.next.Goals as goal

pub load-requires : goal.load-requires
load-requires c = (c.requires.own.table, omega (arith, c.args.self.now.one), looks _ _ _ _ _ c.requires.own.some_part)

pub fetch_add-number-requires : goal.fetch_add-number-requires
fetch_add-number-requires c = (c.load.ensures.0 ∙ c.requires.own.table, omega (arith, c.args.self.now.one), takes _ _ _ _ _ (c.load.ensures.2.may (omega (arith, c.if-load-end.false, c.args.round.now.small))))

pub returns-then-load-end-clause-all_claimed : goal.returns-then-load-end-clause-all_claimed
returns-then-load-end-clause-all_claimed c = λ every place lt. all_found _ _ _ place _ _ (λ i. (c.load.ensures.2.knows i).0.claimed) (c.load.ensures.2.all (every ∙ sym c.requires.own.seats)) c.if-load-end.true lt

pub returns-then-number-end-clause-all_claimed : goal.returns-then-number-end-clause-all_claimed
returns-then-number-end-clause-all_claimed c =
    let sees = c.load.ensures.2.knows in
    let takes = c.fetch_add-number.ensures.2 in
    λ every place lt. all_found_before _ _ _ place _ _ (λ i. (takes.knows i).0.claimed) (takes.all ((λ i. (sees i).0.parts) ∙ every ∙ sym c.requires.own.seats ∙ (λ i. (sym sees i).0.seats))) c.if-number-end.true lt
