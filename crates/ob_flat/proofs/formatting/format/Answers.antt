use Rattle.std.proofs.Common.{subst}
use Rattle.std.specs.FinMap as finite
use Rattle.ob_seal.specs.Sealing.{Sealing}
use Rattle.ob_store.specs.Images.{LeavesOnly}
use Rattle.ob_flat.specs.Formats.{FormatLeaves}
use Rattle.ob_flat.specs.Standing.{StandsFlat}
use Rattle.ob_flat.proofs.Moved.{stands_same}
use Rattle.ob_flat.proofs.formatting.format.Goals as goal

pub returns-in-Ok-clause-images : goal.returns-in-Ok-clause-images
returns-in-Ok-clause-images g c = λ tells image left.
    stands_same c.args.keys.now c.args.params.now 1 (record { epoch = 0; content = finite.empty }) image (g.S.Store.disk c.lay.new.store).cells (c.in-Ok.ensures.durable tells image left)
    (subst (λ (s : Sealing). StandsFlat s.keys c.args.params.now 1 (g.S.Store.disk c.lay.new.store).cells (record { epoch = 0; content = finite.empty })) c.new.ensures (c.in-Ok.ensures.stands tells))

pub returns-in-Ok-clause-crash : goal.returns-in-Ok-clause-crash
returns-in-Ok-clause-crash g c = λ tells.
    let old = g.S.Store.disk c.args.store.now in
    subst (λ (s : Sealing). LeavesOnly old (g.S.Store.disk c.lay.new.store) (FormatLeaves s.keys c.args.params.now.keys old)) c.new.ensures (c.lay.ensures.crash tells)

pub returns-in-Err-clause-crash : goal.returns-in-Err-clause-crash
returns-in-Err-clause-crash g c = λ tells.
    let old = g.S.Store.disk c.args.store.now in
    subst (λ (s : Sealing). LeavesOnly old (g.S.Store.disk c.lay.new.store) (FormatLeaves s.keys c.args.params.now.keys old)) c.new.ensures (c.lay.ensures.crash tells)
