use Rattle.std.proofs.Common.{◌∙◌, refl, sym, subst, arith}
use Rattle.ob_base.specs.declared.params.Params.{Params}
use Rattle.ob_conduct.specs.Ready.{IsBetweenActs}
use Rattle.ob_conduct.proofs.Conducting.{going_none, going_below, going_stepped, going_heard, going_acted, done_over, done_failed, ready_new}
use Rattle.ob_conduct.proofs.serving.run_rounds.Goals as goal

pub loop-init : goal.loop-init
loop-init g c = record {
  params = c.requires.params;
  beat = refl;
  room = c.requires.room;
  going = going_none _ _ _ _ _ _ (ready_new c.args.params.now _ c.args.desk.now (g.V.Vault.counts c.args.vault.now) _ c.requires.fresh c.requires.serves) c.requires.none_made c.requires.whole;
}

pub step_all-requires-clause-below : goal.step_all-requires-clause-below
step_all-requires-clause-below g c = going_below _ _ _ _ _ _ _ c.loop.invariant.going c.requires.below

pub step_all-requires-clause-heard : goal.step_all-requires-clause-heard
step_all-requires-clause-heard g c = going_heard _ _ _ _ _ _ _ _ _ _ c.loop.invariant.going c.requires.fresh c.requires.opens

pub look_and_act-requires-clause-ready : goal.look_and_act-requires-clause-ready
look_and_act-requires-clause-ready g c κs within = c.step_all.ensures.ready c.args.params.now (g.V.Vault.counts c.loop.vault) c.loop.invariant.going.ready

pub loop-preserved : goal.loop-preserved
loop-preserved g c =
    let i = c.loop.invariant in
    let e = c.in-Ok-On.ensures in
    record {
      params = e.params;
      beat = e.anchors ∙ i.beat;
      room = omega (arith, i.room, e.room);
      going = going_acted _ _ _ _ _ _ _ _ _ _ (going_stepped _ _ _ _ _ _ _ _ _ i.going c.step_all.ensures.stepped (c.step_all.ensures.ready c.args.params.now (g.V.Vault.counts c.loop.vault) i.going.ready)) e.acted;
    }

pub returns-in-Ok-Over-clause-done : goal.returns-in-Ok-Over-clause-done
returns-in-Ok-Over-clause-done g c =
    let i = c.loop.invariant in
    let e = c.in-Ok-Over.ensures in
    done_over _ _ _ _ _ _ _ _ _ c.requires.fresh _ _ _
    (going_acted _ _ _ _ _ _ _ _ _ _ (going_stepped _ _ _ _ _ _ _ _ _ i.going c.step_all.ensures.stepped (c.step_all.ensures.ready c.args.params.now (g.V.Vault.counts c.loop.vault) i.going.ready)) e.acted)
    (e.over c.in-Ok-Over.field-0-is)

pub returns-in-Err-clause-done : goal.returns-in-Err-clause-done
returns-in-Err-clause-done g c =
    let i = c.loop.invariant in
    done_failed _ _ _ _ _ _ _ _ _ c.requires.fresh _ _ _ _ c.in-Err.err
    (going_stepped _ _ _ _ _ _ _ _ _ i.going c.step_all.ensures.stepped (c.step_all.ensures.ready c.args.params.now (g.V.Vault.counts c.loop.vault) i.going.ready))
    c.in-Err.ensures.failed

pub step_all-requires-clause-ready : goal.step_all-requires-clause-ready
step_all-requires-clause-ready g c = (g.V.Vault.counts c.loop.vault, subst (λ (p : Params). IsBetweenActs p c.loop.desk (g.V.Vault.counts c.loop.vault)) (sym c.loop.invariant.going.ready.params) c.loop.invariant.going.ready)

pub look_and_act-requires-clause-whole : goal.look_and_act-requires-clause-whole
look_and_act-requires-clause-whole g c κs within = c.loop.invariant.going.whole

pub look_and_act-requires-clause-params : goal.look_and_act-requires-clause-params
look_and_act-requires-clause-params g c κs within = c.loop.invariant.params

pub look_and_act-requires-clause-room : goal.look_and_act-requires-clause-room
look_and_act-requires-clause-room g c κs within = c.loop.invariant.room

pub returns-in-Ok-Over-clause-params : goal.returns-in-Ok-Over-clause-params
returns-in-Ok-Over-clause-params g c = c.in-Ok-Over.ensures.params

pub returns-in-Ok-Over-clause-beat : goal.returns-in-Ok-Over-clause-beat
returns-in-Ok-Over-clause-beat g c = c.in-Ok-Over.ensures.anchors ∙ c.loop.invariant.beat

pub returns-in-Err-clause-params : goal.returns-in-Err-clause-params
returns-in-Err-clause-params g c = c.in-Err.ensures.params

pub returns-in-Err-clause-beat : goal.returns-in-Err-clause-beat
returns-in-Err-clause-beat g c = c.in-Err.ensures.anchors ∙ c.loop.invariant.beat
