use Rattle.ob_flat.proofs.Openings.{formatted_of}
use Rattle.ob_flat.proofs.acts.begin_life.Goals as goal

pub returns-clause-begins : goal.returns-clause-begins
returns-clause-begins g c = λ tells leaves.
    let e = c.format.ensures in
    formatted_of (λ s. g.S.Store.disk s) c.args.keys.now c.args.params.now c.args.store.now c.format.new.store e.serves.goes tells leaves _ c.format.result e.serves.tells (e.images tells)
