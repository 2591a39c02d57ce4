use Rattle.std.proofs.Common.{Result, Ok, Err}
use Rattle.std.specs.Prelude.{IfOk}
use Rattle.ob_base.specs.declared.params.Params.{Params}
use Rattle.ob_base.specs.declared.fault.Fault.{Fault}
use Rattle.ob_store.specs.Disk.{Disk}
use Rattle.ob_store.specs.Images.{IsSynced}
use Rattle.ob_seal.specs.declared.keys.Keys.{Keys}
use Rattle.ob_flat.specs.declared.opening.Opening.{Opening}
use Rattle.ob_flat.specs.Openings.{HasSealedNothing, Begins}
use Rattle.ob_flat.proofs.Openings.{opens_of, unopened_of}
use Rattle.ob_flat.proofs.acts.open_in_life.Goals as goal

sealers : (keys : Keys) (p : Params) (old new : Disk) (r : Result Opening Fault) → IfOk r (Begins keys p old new) → IfOk r (λ o. HasSealedNothing keys o.sealer)
sealers keys p old new (Ok o) begins = begins.sealer
sealers keys p old new (Err f) begins = tt

syncs : (keys : Keys) (p : Params) (old new : Disk) (r : Result Opening Fault) → IfOk r (Begins keys p old new) → IfOk r (λ o. old.tells → IsSynced new)
syncs keys p old new (Ok o) begins = begins.durable
syncs keys p old new (Err f) begins = tt

pub returns-clause-opens : goal.returns-clause-opens
returns-clause-opens g c = λ tells.
    let e = c.prepare.ensures in
    let keys = c.args.keys.now in
    let p = c.args.params.now in
    let old = g.S.Store.disk c.args.store.now in
    let new = g.S.Store.disk c.prepare.new.store in
    opens_of (λ s. g.S.Store.disk s) keys c.args.store.now c.prepare.new.store (g.met.S.Store.only_now c.args.store.now) e.serves.goes tells c.prepare.result (sealers keys p old new c.prepare.result e.opening.begins) (syncs keys p old new c.prepare.result e.opening.begins) e.opening.register (e.opening.clear tells)

pub returns-clause-unopened : goal.returns-clause-unopened
returns-clause-unopened g c = λ tells.
    let e = c.prepare.ensures in
    unopened_of (λ s. g.S.Store.disk s) c.args.keys.now c.args.store.now c.prepare.new.store (g.met.S.Store.only_now c.args.store.now) e.serves.goes tells c.prepare.result e.opening.register (e.opening.clear tells)

pub returns-clause-value : goal.returns-clause-value
returns-clause-value g c = c.prepare.ensures.opening.value
