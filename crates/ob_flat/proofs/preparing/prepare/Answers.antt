use Rattle.std.proofs.Common.{subst}
use Rattle.ob_seal.specs.Sealing.{Sealing}
use Rattle.ob_flat.specs.Openings.{IsOpening}
use Rattle.ob_flat.proofs.Opens.{none_opened}
use Rattle.ob_flat.proofs.preparing.prepare.Goals as goal

pub returns-in-Err-clause-opening : goal.returns-in-Err-clause-opening
returns-in-Err-clause-opening g c = none_opened g.S.Store.disk c.args.keys.now c.args.params.now c.args.store.now (g.W.Watch.trace c.args.watch.now) (g.met.S.Store.only_now c.args.store.now)

pub returns-in-Err-blank_values-clause-opening : goal.returns-in-Err-blank_values-clause-opening
returns-in-Err-blank_values-clause-opening g c = none_opened g.S.Store.disk c.args.keys.now c.args.params.now c.args.store.now (g.W.Watch.trace c.args.watch.now) (g.met.S.Store.only_now c.args.store.now)

pub returns-clause-opening : goal.returns-clause-opening
returns-clause-opening g c =
    subst (λ (s : Sealing). IsOpening g.S.Store.disk s.keys c.args.params.now c.args.store.now c.open_into.new.store (g.W.Watch.trace c.args.watch.now) (g.W.Watch.trace c.open_into.new.watch) c.open_into.result) c.new.ensures
    c.open_into.ensures.opening
