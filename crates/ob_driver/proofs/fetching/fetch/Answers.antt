use Rattle.std.proofs.Common.{◌∙◌, suc, refl, sym, ap}
use Rattle.ob_base.specs.declared.params.Params.{Params}
use Rattle.ob_serial.specs.Vaults.{Fetch, Values, counts_next}
use Rattle.ob_serial.specs.VaultKinds.{kind_of}
use Rattle.ob_desk.specs.Desk as desk
use Rattle.ob_conduct.proofs.Acting.{tells_none, written_none}
use Rattle.ob_conduct.proofs.Batches.{batch_below, batch_distinct}
use Rattle.ob_driver.specs.Resting.{params_of}
use Rattle.ob_driver.proofs.Insides.{may_take}
use Rattle.ob_driver.proofs.Batching.{batch_is_out, taken_driver, driver_later, same_raises, fetched_acts, fetched_once, refused_once}
use Rattle.ob_driver.proofs.Lines.{unwatched_once}
use Rattle.ob_driver.proofs.Sound.{mild_one}
use Rattle.ob_driver.proofs.Standing.{goes_then, made_then}
use Rattle.ob_driver.proofs.fetching.fetch.Goals as goal

pub take-requires-clause-may : goal.take-requires-clause-may
take-requires-clause-may g c = may_take (params_of c.args.hall.now) c.args.desk (g.V.Vault.counts c.args.vault.now) c.requires.looking.ready c.requires.some_left

pub take-requires-clause-places : goal.take-requires-clause-places
take-requires-clause-places g c = c.requires.places ∙ sym (ap (λ (p : Params). p.places) c.requires.looking.ready.params)

pub read_batch-requires-clause-whole : goal.read_batch-requires-clause-whole
read_batch-requires-clause-whole g c κs within = c.take.ensures.places ∙ (c.requires.places ∙ sym (ap (λ (p : Params). p.places) c.requires.params))

pub read_batch-requires-clause-room : goal.read_batch-requires-clause-room
read_batch-requires-clause-room g c κs within = c.requires.room ∙ sym (ap (λ (p : Params). p.places) c.requires.params)

pub read_batch-requires-clause-keys : goal.read_batch-requires-clause-keys
read_batch-requires-clause-keys g c κs within =
    let (mid, taken) = c.take.ensures.taken in
    rw c.requires.params (batch_below (params_of c.args.hall.now) c.args.desk mid (g.V.Vault.counts c.args.vault.now) c.take.new.asks.items c.requires.looking.ready taken)

pub read_batch-requires-clause-distinct : goal.read_batch-requires-clause-distinct
read_batch-requires-clause-distinct g c κs within =
    let (mid, taken) = c.take.ensures.taken in
    batch_distinct (params_of c.args.hall.now) c.args.desk mid (g.V.Vault.counts c.args.vault.now) c.take.new.asks.items c.requires.looking.ready taken

pub deliver-requires-clause-out : goal.deliver-requires-clause-out
deliver-requires-clause-out g c =
    let (mid, taken) = c.take.ensures.taken in
    let l = c.requires.looking in (
      g.V.Vault.counts c.args.vault.now,
      batch_is_out c.args.hall.now c.args.pass.now c.take.new.pass c.args.desk mid (g.V.Vault.counts c.args.vault.now) l.look c.take.new.asks.items l l.noted taken c.take.ensures.made c.take.ensures.own c.take.ensures.idle c.take.ensures.ear,
    )

pub deliver-requires-clause-whole : goal.deliver-requires-clause-whole
deliver-requires-clause-whole g c = c.read_batch.ensures.room ∙ (c.requires.room ∙ sym (c.take.ensures.places ∙ c.requires.places))

pub stop-requires-in-Err-clause-driver : goal.stop-requires-in-Err-clause-driver
stop-requires-in-Err-clause-driver g c =
    let (mid, taken) = c.take.ensures.taken in
    let l = c.requires.looking in
    taken_driver c.args.hall.now c.args.pass.now c.take.new.pass c.args.desk mid (g.V.Vault.counts c.args.vault.now) l.look c.take.new.asks.items l l.noted taken c.take.ensures.made c.take.ensures.own c.take.ensures.ear

pub returns-else-broken-clause-fetched : goal.returns-else-broken-clause-fetched
returns-else-broken-clause-fetched g c = λ beat look flow noted may fetch.
    let (mid, taken) = c.take.ensures.taken in
    fetched_once (kind_of g.V.Vault) beat c.args.hall.now c.args.pass.now c.take.new.pass c.deliver.new.pass c.args.desk mid (g.V.Vault.counts c.args.vault.now) look flow c.take.new.asks.items c.requires.looking noted may fetch taken c.take.ensures.made c.take.ensures.own
    c.take.ensures.ear c.args.vault.now c.read_batch.new.vault (g.W.Watch.trace c.args.watch.now) (g.W.Watch.trace c.read_batch.new.watch) (g.V.Vault.counts c.read_batch.new.vault) c.read_batch.new.found.items c.in-Ok.ensures.called
    (c.in-Ok.ensures.counts ∙ ap (λ (p : Params). counts_next p.batches (g.V.Vault.counts c.args.vault.now) (Fetch c.take.new.asks.items) (Values c.read_batch.new.found.items)) c.requires.params) c.deliver.ensures.made c.deliver.ensures.ear c.deliver.ensures.own
    (sym c.broken.ensures ∙ c.if-broken.false) c.deliver.ensures.idle

pub returns-then-broken-clause-refused : goal.returns-then-broken-clause-refused
returns-then-broken-clause-refused g c = λ beat look flow noted may fetch.
    let (mid, taken) = c.take.ensures.taken in
    unwatched_once (kind_of g.V.Vault) beat c.args.hall.now c.args.pass.now c.deliver.new.pass c.stop.new.pass c.args.vault.now c.read_batch.new.vault (g.W.Watch.trace c.args.watch.now) (g.W.Watch.trace c.read_batch.new.watch) flow flow (g.V.Vault.counts c.args.vault.now) _
    (fetched_acts (kind_of g.V.Vault) beat c.args.hall.now c.args.pass.now c.take.new.pass c.deliver.new.pass c.args.desk mid (g.V.Vault.counts c.args.vault.now) look flow c.take.new.asks.items c.requires.looking noted may fetch taken c.take.ensures.made c.take.ensures.own
    c.take.ensures.ear c.args.vault.now c.read_batch.new.vault (g.W.Watch.trace c.args.watch.now) (g.W.Watch.trace c.read_batch.new.watch) (g.V.Vault.counts c.read_batch.new.vault) c.read_batch.new.found.items c.in-Ok.ensures.called
    (c.in-Ok.ensures.counts ∙ ap (λ (p : Params). counts_next p.batches (g.V.Vault.counts c.args.vault.now) (Fetch c.take.new.asks.items) (Values c.read_batch.new.found.items)) c.requires.params) c.deliver.ensures.made c.deliver.ensures.ear c.deliver.ensures.own)
    c.stop.ensures.made c.stop.ensures.ear refl tt (suc (g.V.Vault.counts c.args.vault.now).epoch) (tells_none (suc (g.V.Vault.counts c.args.vault.now).epoch) (suc (g.V.Vault.counts c.args.vault.now).epoch) refl) (written_none flow)
    (sym c.broken.ensures ∙ c.if-broken.true) c.stop.ensures.own c.stop.ensures.idle

pub stop-requires-clause-driver : goal.stop-requires-clause-driver
stop-requires-clause-driver g c =
    let (mid, taken) = c.take.ensures.taken in
    let l = c.requires.looking in
    driver_later c.args.hall.now c.take.new.pass c.deliver.new.pass _ c.deliver.ensures.made
    (taken_driver c.args.hall.now c.args.pass.now c.take.new.pass c.args.desk mid (g.V.Vault.counts c.args.vault.now) l.look c.take.new.asks.items l l.noted taken c.take.ensures.made c.take.ensures.own c.take.ensures.ear)
    c.deliver.ensures.own (same_raises c.take.new.pass c.deliver.new.pass c.deliver.ensures.ear) (mild_one _ desk.Done tt)

pub returns-in-Err-clause-refused : goal.returns-in-Err-clause-refused
returns-in-Err-clause-refused g c = λ beat look flow noted may fetch.
    let (mid, taken) = c.take.ensures.taken in
    refused_once (kind_of g.V.Vault) beat c.args.hall.now c.args.pass.now c.take.new.pass c.stop-in-Err.new.pass c.args.desk mid (g.V.Vault.counts c.args.vault.now) look flow c.take.new.asks.items c.requires.looking noted may fetch taken c.take.ensures.made c.take.ensures.own
    c.take.ensures.ear c.args.vault.now c.read_batch.new.vault (g.W.Watch.trace c.args.watch.now) (g.W.Watch.trace c.read_batch.new.watch) c.in-Err.fault c.in-Err.ensures.called c.in-Err.ensures.faults c.in-Err.ensures.cause
    c.stop-in-Err.ensures.made c.stop-in-Err.ensures.ear c.stop-in-Err.ensures.own c.stop-in-Err.ensures.idle

pub returns-else-broken-clause-stand : goal.returns-else-broken-clause-stand
returns-else-broken-clause-stand g c = goes_then c.args.pass.now c.take.new.pass c.deliver.new.pass c.args.turns.now c.deliver.new.turns c.requires.turns c.take.ensures.ends c.deliver.ensures.stand

pub returns-in-Err-clause-stand : goal.returns-in-Err-clause-stand
returns-in-Err-clause-stand g c = goes_then c.args.pass.now c.take.new.pass c.stop-in-Err.new.pass c.args.turns.now c.stop-in-Err.new.turns c.requires.turns c.take.ensures.ends c.stop-in-Err.ensures.stand

pub returns-then-broken-clause-stand : goal.returns-then-broken-clause-stand
returns-then-broken-clause-stand g c = goes_then c.args.pass.now c.take.new.pass c.stop.new.pass c.args.turns.now c.stop.new.turns c.requires.turns c.take.ensures.ends
    (made_then c.take.new.pass c.deliver.new.pass c.stop.new.pass c.args.turns.now c.deliver.new.turns c.stop.new.turns c.deliver.ensures.stand c.stop.ensures.stand)

pub returns-else-broken-clause-acts : goal.returns-else-broken-clause-acts
returns-else-broken-clause-acts g c = refl

pub take-requires-clause-turn : goal.take-requires-clause-turn
take-requires-clause-turn g c = c.requires.looking.turn

pub read_batch-requires-clause-watched : goal.read_batch-requires-clause-watched
read_batch-requires-clause-watched g c κs within = c.requires.whole

pub read_batch-requires-clause-serves : goal.read_batch-requires-clause-serves
read_batch-requires-clause-serves g c κs within = c.requires.looking.ready.serves

pub read_batch-requires-clause-some_left : goal.read_batch-requires-clause-some_left
read_batch-requires-clause-some_left g c κs within = c.requires.some_left

pub stop-requires-clause-idle : goal.stop-requires-clause-idle
stop-requires-clause-idle g c = c.deliver.ensures.idle

pub stop-requires-in-Err-clause-idle : goal.stop-requires-in-Err-clause-idle
stop-requires-in-Err-clause-idle g c = c.take.ensures.idle

pub returns-else-broken-clause-params : goal.returns-else-broken-clause-params
returns-else-broken-clause-params g c = c.in-Ok.ensures.params ∙ c.requires.params

pub returns-else-broken-clause-places : goal.returns-else-broken-clause-places
returns-else-broken-clause-places g c = c.take.ensures.places ∙ c.requires.places

pub returns-else-broken-clause-room : goal.returns-else-broken-clause-room
returns-else-broken-clause-room g c = c.in-Ok.ensures.room ∙ c.requires.room

pub returns-else-broken-clause-refused : goal.returns-else-broken-clause-refused
returns-else-broken-clause-refused g c = λ beat look flow noted may fetch. tt

pub returns-in-Err-clause-params : goal.returns-in-Err-clause-params
returns-in-Err-clause-params g c = c.in-Err.ensures.params ∙ c.requires.params

pub returns-in-Err-clause-places : goal.returns-in-Err-clause-places
returns-in-Err-clause-places g c = c.take.ensures.places ∙ c.requires.places

pub returns-in-Err-clause-room : goal.returns-in-Err-clause-room
returns-in-Err-clause-room g c = c.in-Err.ensures.room ∙ c.requires.room

pub returns-in-Err-clause-acts : goal.returns-in-Err-clause-acts
returns-in-Err-clause-acts g c = tt

pub returns-in-Err-clause-fetched : goal.returns-in-Err-clause-fetched
returns-in-Err-clause-fetched g c = λ beat look flow noted may fetch. tt
