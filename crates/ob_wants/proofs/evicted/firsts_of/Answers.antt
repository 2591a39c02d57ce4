use Rattle.std.specs.Prelude.{cond}
use Rattle.std.proofs.Common.{List, ℕ, [], ◌∷◌, ◌++◌, get_or, ◌∙◌, sym, ap, arith}
use Rattle.std.proofs.lemmas.List.{take_all}
use Rattle.ob_schedule.specs.Paths.{is_one_of}
use Rattle.ob_schedule.specs.Holes.{firsts}
use Rattle.ob_wants.proofs.Firsts.{firsts_more}
use Rattle.ob_wants.proofs.evicted.firsts_of.Goals as goal

pub loop-u-init : goal.loop-u-init
loop-u-init c = c.new-out.ensures.items

pub returns : goal.returns
returns c = c.loop-u.invariant ∙ ap firsts (take_all c.loop-u.u-index c.args.list.now (omega (arith, c.loop-u-test.false)))

pub loop-u-preserved : goal.loop-u-preserved
loop-u-preserved c =
    let list = c.args.list.now in
    let i = c.loop-u.u-index in
    let one : ℕ = get_or list i 0 in
    c.in_ok-push_first.ensures
    ∙ ap (λ (us : List ℕ). cond (is_one_of us one) us (us ++ one ∷ [])) c.loop-u.invariant
    ∙ sym (firsts_more list i (omega arith))
