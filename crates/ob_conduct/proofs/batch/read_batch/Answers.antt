use Rattle.std.proofs.Common.{◌∙◌, rules, sym, ap}
use Rattle.ob_base.specs.declared.params.Params.{Params}
use Rattle.ob_conduct.proofs.Batches.{batch_below, batch_distinct, may_take, may_deliver, read_one, refuse_one, heeded_read, heeded_stops}
use Rattle.ob_conduct.proofs.batch.read_batch.Goals as goal

pub fetch-requires-clause-keys : goal.fetch-requires-clause-keys
fetch-requires-clause-keys g c = batch_below _ c.args.desk.now c.take_batch.new.self _ c.take_batch.new.out c.requires.ready c.take_batch.ensures

pub fetch-requires-clause-distinct : goal.fetch-requires-clause-distinct
fetch-requires-clause-distinct g c = batch_distinct _ c.args.desk.now c.take_batch.new.self _ c.take_batch.new.out c.requires.ready c.take_batch.ensures

pub returns-in-Ok-clause-read : goal.returns-in-Ok-clause-read
returns-in-Ok-clause-read g c =
    let e = c.in-Ok.ensures in
    let (batch, read) = read_one _ (g.V.Vault.params c.args.vault.now) c.args.desk.now c.take_batch.new.self c.deliver.new.self c.args.vault.now c.fetch.new.self (g.W.Watch.trace c.args.watch.now) (g.W.Watch.trace c.fetch.new.watch)
    (g.V.Vault.counts c.args.vault.now) (g.V.Vault.counts c.fetch.new.self) c.take_batch.new.out c.fetch.new.out
    c.requires.ready c.requires.some_left (search rules) c.take_batch.ensures c.deliver.ensures
    (record { notes = e.called.0; called = e.called.2; answered = e.answered; holds = e.holds; sound = e.sound; images = e.images; alike = e.alike; goes = e.goes })
    c.requires.whole e.called.1 e.counts in
    heeded_read _ _ _ c.deliver.new.self _ _ _ _ batch c.heed.result read c.heed.ensures

pub returns-in-Ok-clause-refused : goal.returns-in-Ok-clause-refused
returns-in-Ok-clause-refused g c =
    let e = c.in-Ok.ensures in
    let (batch, read) = read_one _ (g.V.Vault.params c.args.vault.now) c.args.desk.now c.take_batch.new.self c.deliver.new.self c.args.vault.now c.fetch.new.self (g.W.Watch.trace c.args.watch.now) (g.W.Watch.trace c.fetch.new.watch)
    (g.V.Vault.counts c.args.vault.now) (g.V.Vault.counts c.fetch.new.self) c.take_batch.new.out c.fetch.new.out
    c.requires.ready c.requires.some_left (search rules) c.take_batch.ensures c.deliver.ensures
    (record { notes = e.called.0; called = e.called.2; answered = e.answered; holds = e.holds; sound = e.sound; images = e.images; alike = e.alike; goes = e.goes })
    c.requires.whole e.called.1 e.counts in
    heeded_stops _ _ _ c.deliver.new.self _ _ _ _ batch c.heed.result read c.requires.goes_on c.heed.ensures

pub returns-in-Err-clause-refused : goal.returns-in-Err-clause-refused
returns-in-Err-clause-refused g c =
    let e = c.in-Err.ensures in
    refuse_one _ (g.V.Vault.params c.args.vault.now) c.args.desk.now c.take_batch.new.self c.stop.new.self c.args.vault.now c.fetch.new.self (g.W.Watch.trace c.args.watch.now) (g.W.Watch.trace c.fetch.new.watch)
    (g.V.Vault.counts c.args.vault.now) c.take_batch.new.out c.in-Err.fault
    c.requires.ready c.requires.goes_on c.requires.some_left c.take_batch.ensures c.stop.ensures
    (record { notes = e.called.0; called = e.called.2; answered = e.answered; holds = e.holds; sound = e.sound; images = e.images; alike = e.alike; goes = e.goes })
    c.requires.whole e.called.1 e.faults e.cause

pub take_batch-requires-clause-may : goal.take_batch-requires-clause-may
take_batch-requires-clause-may g c = may_take _ c.args.desk.now (g.V.Vault.counts c.args.vault.now) c.requires.ready c.requires.some_left

pub take_batch-requires-clause-places : goal.take_batch-requires-clause-places
take_batch-requires-clause-places g c = c.requires.places ∙ sym (ap (λ (p : Params). p.places) c.requires.ready.params)

pub fetch-requires-clause-serves : goal.fetch-requires-clause-serves
fetch-requires-clause-serves g c = c.requires.ready.serves

pub fetch-requires-clause-some_left : goal.fetch-requires-clause-some_left
fetch-requires-clause-some_left g c = c.requires.some_left

pub returns-in-Ok-clause-params : goal.returns-in-Ok-clause-params
returns-in-Ok-clause-params g c = c.in-Ok.ensures.params

pub returns-in-Err-clause-params : goal.returns-in-Err-clause-params
returns-in-Err-clause-params g c = c.in-Err.ensures.params

pub deliver-requires : goal.deliver-requires
deliver-requires g c = may_deliver _ c.args.desk.now c.take_batch.new.self (g.V.Vault.counts c.args.vault.now) c.take_batch.new.out c.fetch.new.out c.requires.ready c.take_batch.ensures (search rules)
