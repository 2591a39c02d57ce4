use Rattle.ob_flat.proofs.Openings.{reads_unopened}
use Rattle.ob_flat.proofs.acts.head_in_life.Goals as goal

pub returns-clause-unopened : goal.returns-clause-unopened
returns-clause-unopened g c = λ tells.
    let e = c.head.ensures in
    reads_unopened (λ s. g.S.Store.disk s) c.args.keys.now c.args.store.now c.head.new.store (g.met.S.Store.only_now c.args.store.now) e.serves.goes tells e.passes
