use Rattle.std.proofs.Common.{◌∙◌, refl, sym}
use Rattle.ob_io.specs.Streams.{outflow}
use Rattle.ob_serial.specs.Views.{record_of}
use Rattle.ob_serial.specs.VaultKinds.{kind_of}
use Rattle.ob_driver.proofs.Lines.{told_once, told_unwatched, untold_once}
use Rattle.ob_driver.proofs.Standing.{goes_more}
use Rattle.ob_driver.proofs.looking.end_and_tell.Goals as goal

pub stop-requires-clause-driver : goal.stop-requires-clause-driver
stop-requires-clause-driver g c = c.in-Ok.ensures.rests.at.driver

pub stop-requires-clause-idle : goal.stop-requires-clause-idle
stop-requires-clause-idle g c = c.in-Ok.ensures.rests.idle

pub stop-requires-in-Err-text-clause-driver : goal.stop-requires-in-Err-text-clause-driver
stop-requires-in-Err-text-clause-driver g c = c.in-Ok.ensures.rests.at.driver

pub stop-requires-in-Err-text-clause-idle : goal.stop-requires-in-Err-text-clause-idle
stop-requires-in-Err-text-clause-idle g c = c.in-Ok.ensures.rests.idle

pub returns-in-Ok-text-clause-ended : goal.returns-in-Ok-text-clause-ended
returns-in-Ok-text-clause-ended g c = λ beat look noted may end.
    told_once (kind_of g.V.Vault) beat c.args.hall.now c.args.pass.now c.end_epoch.new.pass c.args.vault.now c.end_epoch.new.vault (g.W.Watch.trace c.args.watch.now) (g.W.Watch.trace c.end_epoch.new.watch) (outflow g.O.Sink c.args.output.now) (outflow g.O.Sink c.text.new.sink)
    (g.V.Vault.counts c.args.vault.now) (g.V.Vault.counts c.end_epoch.new.vault) (record_of c.in-Ok.told) (c.in-Ok.ensures.ended beat look (outflow g.O.Sink c.args.output.now) noted may end)
    (record { bytes = rw c.in-Ok-text.is at c.text.ensures.all; later = c.text.ensures.cause.later }) (sym c.broken.ensures ∙ c.if-broken.false)

pub returns-then-broken-clause-refused : goal.returns-then-broken-clause-refused
returns-then-broken-clause-refused g c = λ beat look noted may end.
    told_unwatched (kind_of g.V.Vault) beat c.args.hall.now c.args.pass.now c.end_epoch.new.pass c.args.vault.now c.end_epoch.new.vault (g.W.Watch.trace c.args.watch.now) (g.W.Watch.trace c.end_epoch.new.watch) (outflow g.O.Sink c.args.output.now) (outflow g.O.Sink c.text.new.sink)
    (g.V.Vault.counts c.args.vault.now) (g.V.Vault.counts c.end_epoch.new.vault) (record_of c.in-Ok.told) (c.in-Ok.ensures.ended beat look (outflow g.O.Sink c.args.output.now) noted may end)
    c.stop.new.pass c.stop.ensures.made c.stop.ensures.ear c.stop.ensures.own c.stop.ensures.idle
    (record { bytes = rw c.in-Ok-text.is at c.text.ensures.all; later = c.text.ensures.cause.later }) (sym c.broken.ensures ∙ c.if-broken.true)

pub returns-clause-refused : goal.returns-clause-refused
returns-clause-refused g c = λ beat look noted may end.
    untold_once (kind_of g.V.Vault) beat c.args.hall.now c.args.pass.now c.end_epoch.new.pass c.args.vault.now c.end_epoch.new.vault (g.W.Watch.trace c.args.watch.now) (g.W.Watch.trace c.end_epoch.new.watch) (outflow g.O.Sink c.args.output.now) (outflow g.O.Sink c.text.new.sink)
    (g.V.Vault.counts c.args.vault.now) (g.V.Vault.counts c.end_epoch.new.vault) (record_of c.in-Ok.told) (c.in-Ok.ensures.ended beat look (outflow g.O.Sink c.args.output.now) noted may end)
    c.stop-in-Err-text.new.pass c.stop-in-Err-text.ensures.made c.stop-in-Err-text.ensures.ear c.stop-in-Err-text.ensures.own c.stop-in-Err-text.ensures.idle
    c.text.ensures.printed (rw c.in-Err-text.is at c.text.ensures.cause).failed

pub returns-in-Err-clause-refused : goal.returns-in-Err-clause-refused
returns-in-Err-clause-refused g c = λ beat look noted may end. c.in-Err.ensures.refused beat look (outflow g.O.Sink c.args.output.now) noted may end

pub returns-in-Ok-text-clause-stand : goal.returns-in-Ok-text-clause-stand
returns-in-Ok-text-clause-stand g c = c.in-Ok.ensures.stand

pub returns-clause-stand : goal.returns-clause-stand
returns-clause-stand g c = goes_more c.args.pass.now c.end_epoch.new.pass c.stop-in-Err-text.new.pass c.args.turns.now c.end_epoch.new.turns c.stop-in-Err-text.new.turns c.in-Ok.ensures.stand c.stop-in-Err-text.ensures.stand

pub returns-then-broken-clause-stand : goal.returns-then-broken-clause-stand
returns-then-broken-clause-stand g c = goes_more c.args.pass.now c.end_epoch.new.pass c.stop.new.pass c.args.turns.now c.end_epoch.new.turns c.stop.new.turns c.in-Ok.ensures.stand c.stop.ensures.stand

pub returns-in-Err-clause-stand : goal.returns-in-Err-clause-stand
returns-in-Err-clause-stand g c = c.in-Err.ensures.stand

pub returns-in-Ok-text-clause-acts : goal.returns-in-Ok-text-clause-acts
returns-in-Ok-text-clause-acts g c = refl

pub end_epoch-requires-clause-params : goal.end_epoch-requires-clause-params
end_epoch-requires-clause-params g c κs within = c.requires.params

pub end_epoch-requires-clause-looking : goal.end_epoch-requires-clause-looking
end_epoch-requires-clause-looking g c κs within = c.requires.looking

pub end_epoch-requires-clause-goes_on : goal.end_epoch-requires-clause-goes_on
end_epoch-requires-clause-goes_on g c κs within = c.requires.goes_on

pub end_epoch-requires-clause-whole : goal.end_epoch-requires-clause-whole
end_epoch-requires-clause-whole g c κs within = c.requires.whole

pub end_epoch-requires-clause-turns : goal.end_epoch-requires-clause-turns
end_epoch-requires-clause-turns g c κs within = c.requires.turns

pub end_epoch-requires-clause-room : goal.end_epoch-requires-clause-room
end_epoch-requires-clause-room g c κs within = c.requires.room

pub returns-in-Err-clause-params : goal.returns-in-Err-clause-params
returns-in-Err-clause-params g c = c.in-Err.ensures.params

pub returns-in-Err-clause-room : goal.returns-in-Err-clause-room
returns-in-Err-clause-room g c = c.in-Err.ensures.room

pub returns-in-Err-clause-acts : goal.returns-in-Err-clause-acts
returns-in-Err-clause-acts g c = tt

pub returns-in-Err-clause-ended : goal.returns-in-Err-clause-ended
returns-in-Err-clause-ended g c = λ beat look noted may end. tt

pub returns-in-Ok-text-clause-params : goal.returns-in-Ok-text-clause-params
returns-in-Ok-text-clause-params g c = c.in-Ok.ensures.params

pub returns-in-Ok-text-clause-room : goal.returns-in-Ok-text-clause-room
returns-in-Ok-text-clause-room g c = c.in-Ok.ensures.room

pub returns-in-Ok-text-clause-refused : goal.returns-in-Ok-text-clause-refused
returns-in-Ok-text-clause-refused g c = λ beat look noted may end. tt

pub returns-clause-params : goal.returns-clause-params
returns-clause-params g c = c.in-Ok.ensures.params

pub returns-clause-room : goal.returns-clause-room
returns-clause-room g c = c.in-Ok.ensures.room

pub returns-clause-acts : goal.returns-clause-acts
returns-clause-acts g c = tt

pub returns-clause-ended : goal.returns-clause-ended
returns-clause-ended g c = λ beat look noted may end. tt
