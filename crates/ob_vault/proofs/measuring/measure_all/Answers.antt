use Rattle.std.proofs.Common.{◌≡◌, arith, inl, inr, sym, subst}
use Rattle.std.proofs.lemmas.Bool.{cases_lt}
use Rattle.ob_ring.specs.Writing.{write_at}
use Rattle.ob_vault.specs.Knowns.{HasShortValue}
use Rattle.ob_vault.proofs.Written.{item_at}
use Rattle.ob_vault.proofs.measuring.measure_all.Goals as goal

pub loop-write-preserved : goal.loop-write-preserved
loop-write-preserved c = λ k low.
    let i = c.loop-write.write-index in
    let item : write_at c.args.writes.now i ≡ c.write-item.result = item_at c.args.writes.now i c.write-item.result c.loop-write-test.true (sym c.write-item.is) in
    elim (cases_lt k i) [
      | inl below ↦ c.loop-write.invariant k below
      | inr not ↦ (let same : i ≡ k = omega (arith, not, low) in subst (λ n. HasShortValue (write_at c.args.writes.now n)) same (subst HasShortValue (sym item) c.measure.ensures))
    ]
