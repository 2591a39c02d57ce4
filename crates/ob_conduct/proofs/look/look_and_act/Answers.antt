use Rattle.std.proofs.Common.{◌∙◌, refl, sym, inl}
use Rattle.ob_conduct.proofs.Acting.{rested, halted, over_desk}
use Rattle.ob_conduct.proofs.look.look_and_act.Goals as goal

pub returns-in-Some-clause-failed : goal.returns-in-Some-clause-failed
returns-in-Some-clause-failed g c = halted _ c.args.params.now _ _ _ _ c.in-Some.fault c.requires.ready (sym c.stopped.ensures.0 ∙ c.in-Some.is)

pub returns-then-is_over-clause-acted : goal.returns-then-is_over-clause-acted
returns-then-is_over-clause-acted g c = rested _ c.args.params.now _ _ _ _ c.look-look.result c.requires.ready (sym c.stopped.ensures.0 ∙ c.in_default.is) c.look-look.ensures.0 (inl c.if-is_over.ensures) c.requires.whole

pub returns-then-not-is_due-clause-acted : goal.returns-then-not-is_due-clause-acted
returns-then-not-is_due-clause-acted g c = rested _ c.args.params.now _ _ _ _ c.look-look.result c.requires.ready (sym c.stopped.ensures.0 ∙ c.in_default.is) c.look-look.ensures.0 c.if-not-is_due.ensures.may c.requires.whole

pub returns-in-Some-clause-params : goal.returns-in-Some-clause-params
returns-in-Some-clause-params g c = c.requires.params

pub returns-in-Some-clause-anchors : goal.returns-in-Some-clause-anchors
returns-in-Some-clause-anchors g c = refl

pub returns-then-is_over-clause-params : goal.returns-then-is_over-clause-params
returns-then-is_over-clause-params g c = c.requires.params

pub returns-then-is_over-clause-anchors : goal.returns-then-is_over-clause-anchors
returns-then-is_over-clause-anchors g c = refl

pub returns-then-not-is_due-clause-params : goal.returns-then-not-is_due-clause-params
returns-then-not-is_due-clause-params g c = c.requires.params

pub returns-then-not-is_due-clause-anchors : goal.returns-then-not-is_due-clause-anchors
returns-then-not-is_due-clause-anchors g c = c.is_due.ensures.anchors

pub act-requires-clause-ready : goal.act-requires-clause-ready
act-requires-clause-ready g c κs within = c.requires.ready

pub act-requires-clause-goes_on : goal.act-requires-clause-goes_on
act-requires-clause-goes_on g c κs within = sym c.stopped.ensures.0 ∙ c.in_default.is

pub act-requires-clause-look : goal.act-requires-clause-look
act-requires-clause-look g c κs within = c.look-look.ensures.0

pub returns-in-Ok-clause-params : goal.returns-in-Ok-clause-params
returns-in-Ok-clause-params g c = c.in-Ok.ensures.params

pub returns-in-Ok-clause-room : goal.returns-in-Ok-clause-room
returns-in-Ok-clause-room g c = c.in-Ok.ensures.room

pub returns-in-Ok-clause-anchors : goal.returns-in-Ok-clause-anchors
returns-in-Ok-clause-anchors g c = c.is_due.ensures.anchors

pub returns-in-Ok-clause-acted : goal.returns-in-Ok-clause-acted
returns-in-Ok-clause-acted g c = c.in-Ok.ensures.acted

pub returns-in-Err-clause-params : goal.returns-in-Err-clause-params
returns-in-Err-clause-params g c = c.in-Err.ensures.params

pub returns-in-Err-clause-room : goal.returns-in-Err-clause-room
returns-in-Err-clause-room g c = c.in-Err.ensures.room

pub returns-in-Err-clause-anchors : goal.returns-in-Err-clause-anchors
returns-in-Err-clause-anchors g c = c.is_due.ensures.anchors

pub returns-in-Err-clause-failed : goal.returns-in-Err-clause-failed
returns-in-Err-clause-failed g c = c.in-Err.ensures.failed

pub returns-then-is_over-clause-over : goal.returns-then-is_over-clause-over
returns-then-is_over-clause-over g c = λ is. over_desk c.args.desk.now c.look-look.result c.requires.ready.none_closed (sym c.stopped.ensures.0 ∙ c.in_default.is) c.look-look.ensures.0 c.if-is_over.ensures

pub act-requires-clause-params : goal.act-requires-clause-params
act-requires-clause-params g c κs within = c.requires.params

pub act-requires-clause-room : goal.act-requires-clause-room
act-requires-clause-room g c κs within = c.requires.room

pub act-requires-clause-may : goal.act-requires-clause-may
act-requires-clause-may g c κs within = c.if-not-is_due.ensures.may

pub act-requires-clause-not_over : goal.act-requires-clause-not_over
act-requires-clause-not_over g c κs within = c.if-is_over.ensures
