use Rattle.std.proofs.Common.{◌≡◌, ◌∙◌, ◌-◌, sym, ap, arith}
use Rattle.ob_base.specs.declared.params.Params.{Params}
use Rattle.ob_serial.specs.Vaults.{VaultCounts, Fetch, Values, counts_next}
use Rattle.ob_serial.specs.VaultKinds.{kind_of}
use Rattle.ob_conduct.proofs.Batches.{batch_below, batch_distinct}
use Rattle.ob_driver.specs.Resting.{params_of}
use Rattle.ob_driver.proofs.Insides.{may_take, may_deliver, inside_one, refuses_one}
use Rattle.ob_driver.proofs.ending.read_inside.Goals as goal

pub take_batch-requires-clause-may : goal.take_batch-requires-clause-may
take_batch-requires-clause-may g c = may_take (params_of c.args.hall.now) c.args.desk.now (g.V.Vault.counts c.args.vault.now) c.requires.ready c.requires.some_left

pub take_batch-requires-clause-places : goal.take_batch-requires-clause-places
take_batch-requires-clause-places g c = c.requires.places ∙ sym (ap (λ (p : Params). p.places) c.requires.ready.params)

pub read_batch-requires-clause-keys : goal.read_batch-requires-clause-keys
read_batch-requires-clause-keys g c κs within = rw c.requires.params (batch_below (params_of c.args.hall.now) c.args.desk.now c.take_batch.new.desk (g.V.Vault.counts c.args.vault.now) c.take_batch.new.asks.items c.requires.ready c.take_batch.ensures.taken)

pub read_batch-requires-clause-distinct : goal.read_batch-requires-clause-distinct
read_batch-requires-clause-distinct g c κs within = batch_distinct (params_of c.args.hall.now) c.args.desk.now c.take_batch.new.desk (g.V.Vault.counts c.args.vault.now) c.take_batch.new.asks.items c.requires.ready c.take_batch.ensures.taken

pub read_batch-requires-clause-whole : goal.read_batch-requires-clause-whole
read_batch-requires-clause-whole g c κs within = c.take_batch.ensures.places ∙ (c.requires.places ∙ sym (ap (λ (p : Params). p.places) c.requires.params))

pub read_batch-requires-clause-room : goal.read_batch-requires-clause-room
read_batch-requires-clause-room g c κs within = c.requires.room ∙ sym (ap (λ (p : Params). p.places) c.requires.params)

pub deliver_batch-requires : goal.deliver_batch-requires
deliver_batch-requires g c = record {
  may = may_deliver (params_of c.args.hall.now) c.args.desk.now c.take_batch.new.desk (g.V.Vault.counts c.args.vault.now) c.take_batch.new.asks.items c.read_batch.new.found.items c.requires.ready c.take_batch.ensures.taken
      (c.read_batch.ensures.room ∙ (c.requires.room ∙ sym (c.take_batch.ensures.places ∙ c.requires.places)));
}

pub returns-in-Err-clause-refused : goal.returns-in-Err-clause-refused
returns-in-Err-clause-refused g c =
    refuses_one (kind_of g.V.Vault) c.args.hall.now c.args.pass.now c.note.new.pass c.note.new.pass c.args.desk.now c.take_batch.new.desk c.take_batch.new.desk c.args.vault.now c.read_batch.new.vault (g.W.Watch.trace c.args.watch.now) (g.W.Watch.trace c.read_batch.new.watch)
    (g.V.Vault.counts c.args.vault.now) c.take_batch.new.asks.items c.requires.turn c.requires.ready c.requires.some_left c.take_batch.ensures.taken (rw c.of-batch.ensures at c.note.ensures.noted) c.note.ensures.own c.in-Err.fault c.in-Err.ensures.called
    c.in-Err.ensures.faults c.in-Err.ensures.cause

pub returns-clause-read : goal.returns-clause-read
returns-clause-read g c = (
  record { keys = c.take_batch.new.asks.items; values = c.read_batch.new.found.items },
  inside_one (kind_of g.V.Vault) c.args.hall.now c.args.pass.now c.note.new.pass c.note-2.new.pass c.args.desk.now c.take_batch.new.desk c.deliver_batch.new.desk c.args.vault.now c.read_batch.new.vault (g.W.Watch.trace c.args.watch.now) (g.W.Watch.trace c.read_batch.new.watch)
      (g.V.Vault.counts c.args.vault.now) c.take_batch.new.asks.items c.requires.turn c.requires.ready c.requires.some_left c.take_batch.ensures.taken (rw c.of-batch.ensures at c.note.ensures.noted) c.note.ensures.own (g.V.Vault.counts c.read_batch.new.vault) c.read_batch.new.found.items
      (c.read_batch.ensures.room ∙ (c.requires.room ∙ sym (c.take_batch.ensures.places ∙ c.requires.places))) c.deliver_batch.ensures.delivered (rw (c.of-keys.ensures, c.of-values.ensures) at c.note-2.ensures.noted) c.note-2.ensures.own c.in-Ok.ensures.called
      (c.in-Ok.ensures.counts ∙ ap (λ (p : Params). counts_next p.batches (g.V.Vault.counts c.args.vault.now) (Fetch c.take_batch.new.asks.items) (Values c.read_batch.new.found.items)) c.requires.params),
)

pub note-requires-clause-own : goal.note-requires-clause-own
note-requires-clause-own g c = c.requires.turn.own

pub note-requires-clause-inside : goal.note-requires-clause-inside
note-requires-clause-inside g c = c.requires.turn.inside

pub read_batch-requires-clause-watched : goal.read_batch-requires-clause-watched
read_batch-requires-clause-watched g c κs within = c.requires.whole

pub read_batch-requires-clause-serves : goal.read_batch-requires-clause-serves
read_batch-requires-clause-serves g c κs within = c.requires.ready.serves

pub read_batch-requires-clause-some_left : goal.read_batch-requires-clause-some_left
read_batch-requires-clause-some_left g c κs within = c.requires.some_left

pub returns-in-Err-clause-params : goal.returns-in-Err-clause-params
returns-in-Err-clause-params g c = c.in-Err.ensures.params ∙ c.requires.params

pub returns-in-Err-clause-places : goal.returns-in-Err-clause-places
returns-in-Err-clause-places g c = c.take_batch.ensures.places ∙ c.requires.places

pub returns-in-Err-clause-room : goal.returns-in-Err-clause-room
returns-in-Err-clause-room g c = c.in-Err.ensures.room ∙ c.requires.room

pub returns-in-Err-clause-read : goal.returns-in-Err-clause-read
returns-in-Err-clause-read g c = tt

pub returns-in-Err-clause-less : goal.returns-in-Err-clause-less
returns-in-Err-clause-less g c = tt

pub note-requires-2-clause-own : goal.note-requires-2-clause-own
note-requires-2-clause-own g c = c.note.ensures.own

pub note-requires-2-clause-inside : goal.note-requires-2-clause-inside
note-requires-2-clause-inside g c = c.note.ensures.noted.notes.inside

pub returns-clause-params : goal.returns-clause-params
returns-clause-params g c = c.in-Ok.ensures.params ∙ c.requires.params

pub returns-clause-places : goal.returns-clause-places
returns-clause-places g c = c.take_batch.ensures.places ∙ c.requires.places

pub returns-clause-room : goal.returns-clause-room
returns-clause-room g c = c.in-Ok.ensures.room ∙ c.requires.room

pub returns-clause-less : goal.returns-clause-less
returns-clause-less g c = let one : (g.V.Vault.counts c.read_batch.new.vault).left ≡ (g.V.Vault.counts c.args.vault.now).left - 1 = ap (λ (x : VaultCounts). x.left) c.in-Ok.ensures.counts in omega (arith, one, c.requires.some_left)

pub returns-clause-refused : goal.returns-clause-refused
returns-clause-refused g c = tt
