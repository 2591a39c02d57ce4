use Rattle.std.proofs.Common.{◌∙◌, refl}
use Rattle.ob_driver.proofs.Joining.{done_none, done_more, fails_behind}
use Rattle.ob_driver.proofs.Rounding.{rounds_none, rounds_more}
use Rattle.ob_driver.proofs.driving.drive_on.Goals as goal

pub loop-init : goal.loop-init
loop-init g c = record {
  params = c.requires.params.0;
  room = c.requires.room;
  anchors = refl;
  hands = c.requires.hands;
  done = done_none _ _ c.args.hall.now _ (g.V.Vault.counts c.args.vault.now) _ (rounds_none (g.H.Hands.round c.args.hall.now) c.args.hands.now c.args.pass.now) c.requires.whole c.requires.rests;
}

pub look_once-requires-clause-rests : goal.look_once-requires-clause-rests
look_once-requires-clause-rests g c κs within = c.loop.invariant.done.done.rests

pub loop-preserved : goal.loop-preserved
loop-preserved g c =
    let i = c.loop.invariant in
    let e = c.in-Ok.ensures in
    let did = e.acted.done.acts_are in
    record {
      params = e.params;
      room = e.room;
      anchors = e.anchors ∙ i.anchors;
      hands = c.step_all-ran.ensures.ready;
      done = done_more _ _ c.args.hall.now _ _ _ _ _ _ _ i.done _ c.in-Ok.round e.acted
          (rounds_more (g.H.Hands.round c.args.hall.now) c.args.hands.now c.loop.hands c.step_all-ran.new.self c.args.pass.now c.loop.pass c.look_once.new.pass i.done.acts e.acted.acts c.loop.turns c.step_all-ran.new.turns c.look_once.new.turns i.done.also.0
          i.done.also.1 c.step_all-ran.ensures.round e.stand
          e.acted.one did.turns did.are did.made);
    }

pub returns-in-Err-clause-failed : goal.returns-in-Err-clause-failed
returns-in-Err-clause-failed g c =
    let i = c.loop.invariant in
    let e = c.in-Err.ensures in
    let did = e.failed.fails.acts_are in
    fails_behind _ _ c.args.hall.now _ _ _ _ _ _ _ i.done c.in-Err.err e.failed
    (rounds_more (g.H.Hands.round c.args.hall.now) c.args.hands.now c.loop.hands c.step_all-ran.new.self c.args.pass.now c.loop.pass c.look_once.new.pass i.done.acts e.failed.acts c.loop.turns c.step_all-ran.new.turns c.look_once.new.turns i.done.also.0
    i.done.also.1 c.step_all-ran.ensures.round e.stand
    e.failed.one did.turns did.are did.made).0

pub returns-then-is_over-clause-done : goal.returns-then-is_over-clause-done
returns-then-is_over-clause-done g c =
    let i = c.loop.invariant in
    let e = c.in-Ok.ensures in
    let did = e.acted.done.acts_are in
    done_more _ _ c.args.hall.now _ _ _ _ _ _ _ i.done _ c.in-Ok.round e.acted
    (rounds_more (g.H.Hands.round c.args.hall.now) c.args.hands.now c.loop.hands c.step_all-ran.new.self c.args.pass.now c.loop.pass c.look_once.new.pass i.done.acts e.acted.acts c.loop.turns c.step_all-ran.new.turns c.look_once.new.turns i.done.also.0
    i.done.also.1 c.step_all-ran.ensures.round e.stand
    e.acted.one did.turns did.are did.made).0

pub returns-then-is_over-clause-over : goal.returns-then-is_over-clause-over
returns-then-is_over-clause-over g c = c.in-Ok.ensures.over c.if-is_over.ensures

pub step_all-ran-requires : goal.step_all-ran-requires
step_all-ran-requires g c = record { ready = c.loop.invariant.hands }

pub look_once-requires-clause-whole : goal.look_once-requires-clause-whole
look_once-requires-clause-whole g c κs within = c.loop.invariant.done.done.whole

pub look_once-requires-clause-params : goal.look_once-requires-clause-params
look_once-requires-clause-params g c κs within = (c.loop.invariant.params, c.requires.params.1)

pub look_once-requires-clause-room : goal.look_once-requires-clause-room
look_once-requires-clause-room g c κs within = c.loop.invariant.room

pub returns-in-Err-clause-params : goal.returns-in-Err-clause-params
returns-in-Err-clause-params g c = c.in-Err.ensures.params

pub returns-in-Err-clause-room : goal.returns-in-Err-clause-room
returns-in-Err-clause-room g c = c.in-Err.ensures.room

pub returns-in-Err-clause-anchors : goal.returns-in-Err-clause-anchors
returns-in-Err-clause-anchors g c = c.in-Err.ensures.anchors ∙ c.loop.invariant.anchors

pub returns-in-Err-clause-hands : goal.returns-in-Err-clause-hands
returns-in-Err-clause-hands g c = c.step_all-ran.ensures.ready

pub returns-in-Err-clause-done : goal.returns-in-Err-clause-done
returns-in-Err-clause-done g c = tt

pub returns-in-Err-clause-over : goal.returns-in-Err-clause-over
returns-in-Err-clause-over g c = tt

pub returns-then-is_over-clause-params : goal.returns-then-is_over-clause-params
returns-then-is_over-clause-params g c = c.in-Ok.ensures.params

pub returns-then-is_over-clause-room : goal.returns-then-is_over-clause-room
returns-then-is_over-clause-room g c = c.in-Ok.ensures.room

pub returns-then-is_over-clause-anchors : goal.returns-then-is_over-clause-anchors
returns-then-is_over-clause-anchors g c = c.in-Ok.ensures.anchors ∙ c.loop.invariant.anchors

pub returns-then-is_over-clause-hands : goal.returns-then-is_over-clause-hands
returns-then-is_over-clause-hands g c = c.step_all-ran.ensures.ready

pub returns-then-is_over-clause-failed : goal.returns-then-is_over-clause-failed
returns-then-is_over-clause-failed g c = tt
