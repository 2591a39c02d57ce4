use Rattle.std.proofs.Common.{refl, sym, subst, arith}
use Rattle.std.proofs.lemmas.Map.Keys.{le_from_not_gt, ge_from_not_lt}
use Rattle.std.specs.Option.{IsSome}
use Rattle.ob_order.proofs.Newest.{by_option}
use Rattle.ob_key_versions.specs.Chains.{link_in}
use Rattle.ob_key_versions.proofs.Compares.{not_gt_from_le}
use Rattle.ob_key_versions.proofs.chain.Chain.newest.Goals as goal

pub returns-in-Some : goal.returns-in-Some
returns-in-Some c =
    let r = c.range.ensures.in_range tt in
    let here = r.3 _ _ c.in-Some.ensures.steps in
    let top = r.4 _ _ c.in-Some.ensures.steps in (
      le_from_not_gt c.in-Some.at.now c.args.t here.0.1,
      here.1,
      λ q above within. by_option (link_in c.args.self.now q)
          (λ none. none)
          (λ l is. let below = ge_from_not_lt c.in-Some.at.now q (top q (tt, not_gt_from_le q c.args.t within) (subst (λ o. IsSome o) (sym is) refl)) in absurd (omega (arith, above, below))),
    )
