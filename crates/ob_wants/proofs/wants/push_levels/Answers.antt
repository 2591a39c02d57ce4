use Rattle.std.proofs.Common.{◌≡◌, ◌-◌, ◌^◌, ◌∙◌, ℕ, arith, suc, sym, ap, append-nil}
use Rattle.ob_wants.specs.Shown.{standing_of}
use Rattle.ob_wants.proofs.Lists.{anew_level}
use Rattle.ob_wants.proofs.wants.push_levels.Goals as goal

pub loop-i-preserved : goal.loop-i-preserved
loop-i-preserved c = λ rest e.
    (let level : c.args.p.now.levels - c.loop-i.i ≡ rest = omega arith in
    anew_level c.args.p.now (standing_of c.args.standing.now) c.args.lifted.now c.loop-i.wants _ rest c.many_on-many.result (c.many_on-many.ensures.many ∙ ap (λ (l : ℕ). 2 ^ l) level) c.in_ok-push_level.ensures ∙ c.loop-i.invariant (suc rest) (omega arith))

pub returns : goal.returns
returns c = sym (append-nil c.loop-i.wants) ∙ c.loop-i.invariant 0 (omega arith)
