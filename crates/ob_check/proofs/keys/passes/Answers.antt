use Rattle.std.proofs.Common.{arith, ◌≡◌, ◌≢◌, ◌∙◌, ◌+◌, ◌-◌, ◌==◌, ⊎_elim, ap, sym}
use Rattle.std.proofs.lemmas.Bool.{cases_eq, ne_eqb, eq-eqb}
use Rattle.ob_base.specs.Tree.{bucket_of}
use Rattle.ob_check.proofs.Ranges.{any_at, any_never}
use Rattle.ob_check.proofs.keys.passes.Goals as goal

pub loop-above-init : goal.loop-above-init
loop-above-init c = λ level low high. absurd (omega arith)

pub returns-then-bucket_of-u : goal.returns-then-bucket_of-u
returns-then-bucket_of-u c =
    let level = c.args.p.now.levels - c.loop-above.above in
    sym (any_at (λ level. bucket_of c.args.p.now level c.args.leaf) (λ v. v == c.args.u) (c.args.p.now.levels + 1) level (omega (arith, c.loop-above-test.true))
    (eq-eqb (bucket_of c.args.p.now level c.args.leaf) c.args.u (sym c.bucket_of.ensures.bucket ∙ c.if-bucket_of-u.true)))

pub loop-above-preserved : goal.loop-above-preserved
loop-above-preserved c = λ level low high.
    ⊎_elim
    (λ (here : level ≡ c.args.p.now.levels - c.loop-above.above). λ e. c.if-bucket_of-u.false (c.bucket_of.ensures.bucket ∙ ap (λ n. bucket_of c.args.p.now n c.args.leaf) (sym here) ∙ e))
    (λ (other : level ≢ c.args.p.now.levels - c.loop-above.above). c.loop-above.invariant level low (omega (arith, c.loop-above-test.true)))
    (cases_eq level (c.args.p.now.levels - c.loop-above.above))

pub returns : goal.returns
returns c = sym (any_never (λ level. bucket_of c.args.p.now level c.args.leaf) (λ v. v == c.args.u) (c.args.p.now.levels + 1)
    (λ level lt. ne_eqb (bucket_of c.args.p.now level c.args.leaf) c.args.u (c.loop-above.invariant level (omega arith) (omega (arith, c.loop-above-test.false, c.loop-above.auto.above-end)))))
