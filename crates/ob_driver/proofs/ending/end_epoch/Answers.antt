use Rattle.std.proofs.Common.{◌≡◌, ◌∙◌, ◌≤◌, ◌+◌, ℕ, suc, map, vec_capacity, sym, ap, subst, arith}
use Rattle.ob_base.specs.declared.params.Params.{Params}
use Rattle.ob_base.specs.Writes.{pair_of}
use Rattle.ob_serial.specs.Serial.{EpochRecord}
use Rattle.ob_serial.specs.Views.{record_of}
use Rattle.ob_serial.specs.VaultKinds.{kind_of}
use Rattle.ob_desk.specs.Desk as desk
use Rattle.ob_conduct.specs.Scenes.{scene}
use Rattle.ob_conduct.specs.Ready.{IsDueRecord}
use Rattle.ob_conduct.proofs.Closing.{due_of, close_few, close_rising, close_below}
use Rattle.ob_driver.specs.Resting.{params_of}
use Rattle.ob_driver.proofs.Answering.{if_ok_all, on_ok_all, if_err_both}
use Rattle.ob_driver.proofs.Closing.{is_ending, ended_rests, ended_once, end_refused_once, batch_stops_once}
use Rattle.ob_driver.proofs.Insides.{stops_turn, stops_notes}
use Rattle.ob_driver.proofs.Shutting.{may_close}
use Rattle.ob_driver.proofs.Standing.{ends_notes, goes_on_ended, goes_then}
use Rattle.ob_driver.proofs.ending.end_epoch.Goals as goal

pub read_left-requires-clause-params : goal.read_left-requires-clause-params
read_left-requires-clause-params g c κs within = c.requires.params.0

pub read_left-requires-clause-turn : goal.read_left-requires-clause-turn
read_left-requires-clause-turn g c κs within = c.requires.looking.turn

pub read_left-requires-clause-ready : goal.read_left-requires-clause-ready
read_left-requires-clause-ready g c κs within = c.requires.looking.ready

pub read_left-requires-clause-goes_on : goal.read_left-requires-clause-goes_on
read_left-requires-clause-goes_on g c κs within = c.requires.goes_on

pub read_left-requires-clause-whole : goal.read_left-requires-clause-whole
read_left-requires-clause-whole g c κs within = c.requires.whole

pub read_left-requires-clause-places : goal.read_left-requires-clause-places
read_left-requires-clause-places g c κs within = c.requires.room.asks

pub read_left-requires-clause-room : goal.read_left-requires-clause-room
read_left-requires-clause-room g c κs within = c.requires.room.found

pub shut-requires-clause-turn : goal.shut-requires-clause-turn
shut-requires-clause-turn g c = c.in-Ok.ensures.read.1.turn

pub shut-requires-clause-may : goal.shut-requires-clause-may
shut-requires-clause-may g c =
    may_close (params_of c.args.hall.now) c.read_left.new.desk (g.V.Vault.counts c.read_left.new.vault) c.in-Ok.ensures.read.1.ready (c.in-Ok.ensures.read.1.same_stop ∙ c.requires.goes_on) c.in-Ok.ensures.none_left

pub shut-requires-clause-room : goal.shut-requires-clause-room
shut-requires-clause-room g c = subst (λ (p : Params). p.writes ≤ vec_capacity c.args.room.now.writes) (sym c.in-Ok.ensures.read.1.ready.params) c.requires.room.writes

pub tell-requires-clause-params : goal.tell-requires-clause-params
tell-requires-clause-params g c κs within = (c.in-Ok.ensures.params, c.requires.params.1)

pub tell-requires-clause-ending : goal.tell-requires-clause-ending
tell-requires-clause-ending g c κs within =
    let (batches, read, whole) = c.in-Ok.ensures.read in
    let l = c.requires.looking in
    is_ending (kind_of g.V.Vault) c.args.hall.now c.args.pass.now c.read_left.new.pass c.shut.new.pass (scene c.args.desk c.args.vault.now (g.W.Watch.trace c.args.watch.now)) (scene c.read_left.new.desk c.read_left.new.vault (g.W.Watch.trace c.read_left.new.watch))
    (g.V.Vault.counts c.args.vault.now) (g.V.Vault.counts c.read_left.new.vault) l.look batches (map pair_of c.shut.new.writes.items) l l.noted read c.shut.ensures.made c.shut.ensures.ear c.shut.ensures.own c.shut.ensures.idle

pub tell-requires-clause-vault : goal.tell-requires-clause-vault
tell-requires-clause-vault g c κs within = (c.in-Ok.ensures.read.1.ready.serves, c.in-Ok.ensures.none_left, c.in-Ok.ensures.read.2)

pub tell-requires-clause-writes : goal.tell-requires-clause-writes
tell-requires-clause-writes g c κs within =
    let (mid, step) = c.shut.ensures.closed in
    let ready = c.in-Ok.ensures.read.1.ready in (
      close_few (params_of c.args.hall.now) c.read_left.new.desk mid _ c.shut.new.writes.items ready step,
      close_rising c.read_left.new.desk mid c.shut.new.writes.items step,
      close_below (params_of c.args.hall.now) c.read_left.new.desk mid _ c.shut.new.writes.items ready step,
    )

pub stop_inside-requires : goal.stop_inside-requires
stop_inside-requires g c = record { turn = stops_turn (kind_of g.V.Vault) c.args.hall.now c.args.pass.now c.read_left.new.pass _ _ c.in-Err.err c.in-Err.ensures.refused }

pub returns-in-Ok-clause-params : goal.returns-in-Ok-clause-params
returns-in-Ok-clause-params g c = c.tell.ensures.params

pub returns-in-Ok-clause-room : goal.returns-in-Ok-clause-room
returns-in-Ok-clause-room g c = record { asks = c.in-Ok.ensures.places; found = c.in-Ok.ensures.room; writes = omega (arith, c.requires.room.writes, c.shut.ensures.room) }

pub returns-in-Ok-clause-stand : goal.returns-in-Ok-clause-stand
returns-in-Ok-clause-stand g c =
    goes_then c.args.pass.now c.shut.new.pass c.tell.new.pass c.args.turns.now c.tell.new.turns c.requires.turns (ends_notes c.args.pass.now c.read_left.new.pass c.shut.new.pass _ c.in-Ok.ensures.read.1.notes c.shut.ensures.ends) c.tell.ensures.stand

pub returns-in-Ok-clause-rests : goal.returns-in-Ok-clause-rests
returns-in-Ok-clause-rests g c =
    let (batches, read, whole) = c.in-Ok.ensures.read in
    let l = c.requires.looking in
    on_ok_all c.tell.result _ _ _ _
    (λ told ends counts raised. ended_rests (kind_of g.V.Vault) c.args.hall.now c.args.pass.now c.read_left.new.pass c.shut.new.pass (scene c.args.desk c.args.vault.now (g.W.Watch.trace c.args.watch.now)) (scene c.read_left.new.desk c.read_left.new.vault (g.W.Watch.trace c.read_left.new.watch))
    (g.V.Vault.counts c.args.vault.now) (g.V.Vault.counts c.read_left.new.vault) l.look batches (map pair_of c.shut.new.writes.items) l l.noted read c.shut.ensures.made c.shut.ensures.ear c.shut.ensures.own
    c.tell.new.pass (scene c.read_left.new.desk c.tell.new.vault (g.W.Watch.trace c.tell.new.watch)) (g.V.Vault.counts c.tell.new.vault) (record_of told) ends counts raised c.tell.ensures.own c.tell.ensures.idle)
    (c.tell.ensures.ended c.read_left.new.desk) c.tell.ensures.counts c.tell.ensures.raised

pub returns-in-Ok-clause-ended : goal.returns-in-Ok-clause-ended
returns-in-Ok-clause-ended g c = λ beat look flow noted may end.
    let (batches, read, whole) = c.in-Ok.ensures.read in
    if_ok_all c.tell.result _ _ _ _
    (λ told ends counts raised. ended_once (kind_of g.V.Vault) c.args.hall.now c.args.pass.now c.read_left.new.pass c.shut.new.pass (scene c.args.desk c.args.vault.now (g.W.Watch.trace c.args.watch.now)) (scene c.read_left.new.desk c.read_left.new.vault (g.W.Watch.trace c.read_left.new.watch))
    (g.V.Vault.counts c.args.vault.now) (g.V.Vault.counts c.read_left.new.vault) look batches (map pair_of c.shut.new.writes.items) c.requires.looking noted read c.shut.ensures.made c.shut.ensures.ear c.shut.ensures.own
    c.tell.new.pass (scene c.read_left.new.desk c.tell.new.vault (g.W.Watch.trace c.tell.new.watch)) (g.V.Vault.counts c.tell.new.vault) (record_of told) ends counts raised c.tell.ensures.own c.tell.ensures.idle beat flow may end)
    (c.tell.ensures.ended c.read_left.new.desk) c.tell.ensures.counts c.tell.ensures.raised

pub returns-in-Ok-clause-refused : goal.returns-in-Ok-clause-refused
returns-in-Ok-clause-refused g c = λ beat look flow noted may end.
    let (batches, read, whole) = c.in-Ok.ensures.read in
    let (mid, step) = c.shut.ensures.closed in
    let due : IsDueRecord (suc (g.V.Vault.counts c.read_left.new.vault).epoch) (map pair_of c.shut.new.writes.items) (desk.record_of (desk.closing c.read_left.new.desk.running)) =
    subst (λ (n : ℕ). IsDueRecord n (map pair_of c.shut.new.writes.items) (desk.record_of (desk.closing c.read_left.new.desk.running))) read.ready.epoch (due_of (params_of c.args.hall.now) c.read_left.new.desk mid (g.V.Vault.counts c.read_left.new.vault) (map pair_of c.shut.new.writes.items) read.ready step) in
    if_err_both c.tell.result _ _ _
    (λ fault refused ear. end_refused_once (kind_of g.V.Vault) c.args.hall.now c.args.pass.now c.read_left.new.pass c.shut.new.pass (scene c.args.desk c.args.vault.now (g.W.Watch.trace c.args.watch.now)) (scene c.read_left.new.desk c.read_left.new.vault (g.W.Watch.trace c.read_left.new.watch))
    (g.V.Vault.counts c.args.vault.now) (g.V.Vault.counts c.read_left.new.vault) look batches (map pair_of c.shut.new.writes.items) c.requires.looking noted read c.shut.ensures.made c.shut.ensures.ear c.shut.ensures.own
    c.tell.new.pass (scene c.read_left.new.desk c.tell.new.vault (g.W.Watch.trace c.tell.new.watch)) fault refused (desk.record_of (desk.closing c.read_left.new.desk.running)) due beat flow may end ear c.tell.ensures.own c.tell.ensures.idle)
    (c.tell.ensures.refused c.read_left.new.desk) c.tell.ensures.ear

pub returns-in-Err-clause-params : goal.returns-in-Err-clause-params
returns-in-Err-clause-params g c = c.in-Err.ensures.params

pub returns-in-Err-clause-room : goal.returns-in-Err-clause-room
returns-in-Err-clause-room g c = record { asks = c.in-Err.ensures.places; found = c.in-Err.ensures.room; writes = c.requires.room.writes }

pub returns-in-Err-clause-stand : goal.returns-in-Err-clause-stand
returns-in-Err-clause-stand g c =
    let (calls, notes) = stops_notes (kind_of g.V.Vault) c.args.hall.now c.args.pass.now c.read_left.new.pass _ _ c.in-Err.err c.in-Err.ensures.refused in
    goes_on_ended c.args.pass.now c.stop_inside.new.pass c.args.turns.now c.requires.turns (ends_notes c.args.pass.now c.read_left.new.pass c.stop_inside.new.pass calls notes c.stop_inside.ensures.ends)

pub returns-in-Err-clause-rests : goal.returns-in-Err-clause-rests
returns-in-Err-clause-rests g c = tt

pub returns-in-Err-clause-ended : goal.returns-in-Err-clause-ended
returns-in-Err-clause-ended g c = λ beat look flow noted may end. tt

pub returns-in-Err-clause-refused : goal.returns-in-Err-clause-refused
returns-in-Err-clause-refused g c = λ beat look flow noted may end.
    batch_stops_once (kind_of g.V.Vault) beat c.args.hall.now c.args.pass.now c.read_left.new.pass c.stop_inside.new.pass (scene c.args.desk c.args.vault.now (g.W.Watch.trace c.args.watch.now))
    (scene c.read_left.new.desk c.read_left.new.vault (g.W.Watch.trace c.read_left.new.watch)) (g.V.Vault.counts c.args.vault.now) look flow noted may end c.in-Err.err c.fault.result c.in-Err.ensures.refused c.fault.ensures
    c.stop_inside.ensures.made c.stop_inside.ensures.ear c.stop_inside.ensures.own c.stop_inside.ensures.idle
