use Rattle.std.proofs.Common.{◌∙◌, sym, subst}
use Rattle.ob_base.specs.declared.params.Params.{Params}
use Rattle.ob_driver.specs.Rooms.{HasRoom}
use Rattle.ob_driver.proofs.Answering.{on_ok_both, if_err}
use Rattle.ob_driver.proofs.Joining.{done_also, fails_also}
use Rattle.ob_driver.proofs.Rounding.{rounds_rung}
use Rattle.ob_driver.proofs.driving.drive_epochs.Goals as goal

pub returns-clause-done : goal.returns-clause-done
returns-clause-done g c =
    on_ok_both c.drive_on.result _ _ _
    (λ done over. record {
      rung = c.announce.new.pass;
      found = c.announce.ensures.found;
      done = done_also _ _ c.args.hall.now _ _ (λ acts q. rounds_rung (g.H.Hands.round c.args.hall.now) c.args.hands.now c.drive_on.new.hands c.args.pass.now c.announce.new.pass c.drive_on.new.pass acts c.announce.ensures.found.seat q) _ _ _ _ done;
      over = over;
    })
    c.drive_on.ensures.done c.drive_on.ensures.over

pub returns-clause-failed : goal.returns-clause-failed
returns-clause-failed g c =
    if_err c.drive_on.result _ _
    (λ fault fails. record {
      rung = c.announce.new.pass;
      found = c.announce.ensures.found;
      fails = fails_also _ _ c.args.hall.now _ _ (λ acts q. rounds_rung (g.H.Hands.round c.args.hall.now) c.args.hands.now c.drive_on.new.hands c.args.pass.now c.announce.new.pass c.drive_on.new.pass acts c.announce.ensures.found.seat q) _ _ _ fault fails;
    })
    c.drive_on.ensures.failed

pub announce-requires : goal.announce-requires
announce-requires g c = record { first = c.requires.first }

pub drive_on-requires-clause-params : goal.drive_on-requires-clause-params
drive_on-requires-clause-params g c κs within = (c.requires.params ∙ c.announce.ensures.params, c.announce.ensures.params)

pub drive_on-requires-clause-rests : goal.drive_on-requires-clause-rests
drive_on-requires-clause-rests g c κs within = c.announce.ensures.rests

pub drive_on-requires-clause-whole : goal.drive_on-requires-clause-whole
drive_on-requires-clause-whole g c κs within = c.requires.whole

pub drive_on-requires-clause-room : goal.drive_on-requires-clause-room
drive_on-requires-clause-room g c κs within = subst (λ (p : Params). HasRoom p c.args.room.now) c.announce.ensures.params c.requires.room

pub drive_on-requires-clause-hands : goal.drive_on-requires-clause-hands
drive_on-requires-clause-hands g c κs within = c.requires.hands

pub returns-clause-params : goal.returns-clause-params
returns-clause-params g c = c.drive_on.ensures.params ∙ sym c.announce.ensures.params

pub returns-clause-room : goal.returns-clause-room
returns-clause-room g c = subst (λ (p : Params). HasRoom p c.drive_on.new.room) (sym c.announce.ensures.params) c.drive_on.ensures.room

pub returns-clause-anchors : goal.returns-clause-anchors
returns-clause-anchors g c = c.drive_on.ensures.anchors

pub returns-clause-hands : goal.returns-clause-hands
returns-clause-hands g c = c.drive_on.ensures.hands
