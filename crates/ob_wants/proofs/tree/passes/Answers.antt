use Rattle.std.proofs.Common.{◌≡◌, ◌+◌, ◌-◌, ℕ, ap, sym, ◌∙◌, arith}
use Rattle.ob_wants.proofs.TotalLaws.{on_levels, reached, missed}
use Rattle.ob_wants.proofs.tree.passes.Goals as goal

pub returns-then-bucket_on-bucket : goal.returns-then-bucket_on-bucket
returns-then-bucket_on-bucket c =
    let p = c.args.p.now in
    let n = c.loop-level.level in
    sym (ap (λ (k : ℕ). on_levels p c.args.leaf k c.args.bucket) (let all : p.levels + 1 ≡ n + 1 + (p.levels - n) = omega arith in all)
    ∙ reached p c.args.leaf n (p.levels - n) c.args.bucket (sym c.bucket_on.ensures ∙ c.if-bucket_on-bucket.true))

pub loop-level-preserved : goal.loop-level-preserved
loop-level-preserved c = missed c.args.p.now c.args.leaf c.loop-level.level c.args.bucket c.bucket_on.result c.loop-level.invariant c.bucket_on.ensures (λ same. c.if-bucket_on-bucket.false same)
