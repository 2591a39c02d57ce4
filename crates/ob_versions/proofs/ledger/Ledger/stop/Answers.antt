use Rattle.std.proofs.Common.{◌≡◌, List, ◌<◌, length, set, map, take, drop, ◌++◌, ap, ◌∙◌, arith}
use Rattle.ob_order.specs.Works as works
use Rattle.ob_order.specs.Works.{Work}
use Rattle.ob_versions.specs.Ledgers.{LedgerModel}
use Rattle.ob_order.proofs.Mapped.{mapped_more}
use Rattle.ob_order.proofs.Steps.{item}
use Rattle.ob_versions.proofs.Falling.{length_mapped}
use Rattle.ob_versions.proofs.ledger.Ledger.stop.Goals as goal

pub loop-n-preserved : goal.loop-n-preserved
loop-n-preserved c =
    let model = c.args.self.now in
    let n = c.loop-n.n in
    let list = c.loop-n.self.works in
    let so_far : list ≡ map works.stop_work (take n model.works) ++ drop n model.works = ap (λ (d : LedgerModel). d.works) c.loop-n.invariant in
    let within : n < length model.works = omega (arith, c.len-n-end.ensures, c.loop-n-test.true) in
    let l : n < length list = omega (arith, ap length so_far, length_mapped works.stop_work model.works n, within) in
    let it = item list n l in
    c.stop_one.ensures it.0 it.1
    ∙ (ap (λ (d : LedgerModel). let q : LedgerModel = record d { works = set list n (works.stop_work it.0) } in q) c.loop-n.invariant
    ∙ ap (λ (ws : List Work). let q : LedgerModel = record model { works = ws } in q) (mapped_more works.stop_work model.works list n it.0 within so_far it.1))
