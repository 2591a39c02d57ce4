use Rattle.std.proofs.Common.{◌∙◌, ◌<◌, ap, subst, arith}
use Rattle.ob_desk.specs.declared.calls.Look.{Look}
use Rattle.ob_desk.specs.Beats.{beat_kind}
use Rattle.ob_conduct.proofs.Acting.{rested, fetched, unbatched, on_ok, if_err, still}
use Rattle.ob_conduct.proofs.look.act.Goals as goal

pub returns-then-is_to_fetch-clause-acted : goal.returns-then-is_to_fetch-clause-acted
returns-then-is_to_fetch-clause-acted g c = on_ok c.fetch_batch.result _ _
    (λ read. fetched _ c.args.params.now (beat_kind g.B.Beat.passes g.B.Beat.exact) _ _ _ c.args.look.now c.requires.ready c.requires.goes_on c.requires.look _ _ read.0 c.requires.may c.if-is_to_fetch.ensures read.1 read.2)
    c.fetch_batch.ensures.read

pub returns-then-is_to_fetch-clause-failed : goal.returns-then-is_to_fetch-clause-failed
returns-then-is_to_fetch-clause-failed g c = if_err c.fetch_batch.result _ _
    (λ err stops. unbatched _ c.args.params.now (beat_kind g.B.Beat.passes g.B.Beat.exact) _ _ _ c.args.look.now c.requires.ready c.requires.goes_on c.requires.look _ err c.requires.may c.if-is_to_fetch.ensures stops)
    c.fetch_batch.ensures.refused

pub returns-then-look-gt0-clause-acted : goal.returns-then-look-gt0-clause-acted
returns-then-look-gt0-clause-acted g c = c.end_epoch.ensures.ended (beat_kind g.B.Beat.passes g.B.Beat.exact) c.args.look.now c.requires.look c.requires.may (c.if-is_to_fetch.ensures, c.if-look-gt0.true)

pub returns-then-look-gt0-clause-failed : goal.returns-then-look-gt0-clause-failed
returns-then-look-gt0-clause-failed g c = c.end_epoch.ensures.refused (beat_kind g.B.Beat.passes g.B.Beat.exact) c.args.look.now c.requires.look c.requires.may (c.if-is_to_fetch.ensures, c.if-look-gt0.true)

pub returns-clause-acted : goal.returns-clause-acted
returns-clause-acted g c = rested _ c.args.params.now (beat_kind g.B.Beat.passes g.B.Beat.exact) _ _ _ c.args.look.now c.requires.ready c.requires.goes_on c.requires.look
    (still (beat_kind g.B.Beat.passes g.B.Beat.exact) c.args.look.now c.requires.not_over c.if-is_to_fetch.ensures (omega (arith, c.if-look-gt0.false))) c.requires.whole

pub fetch_batch-requires-clause-params : goal.fetch_batch-requires-clause-params
fetch_batch-requires-clause-params g c κs within = c.requires.params

pub fetch_batch-requires-clause-ready : goal.fetch_batch-requires-clause-ready
fetch_batch-requires-clause-ready g c κs within = c.requires.ready

pub fetch_batch-requires-clause-goes_on : goal.fetch_batch-requires-clause-goes_on
fetch_batch-requires-clause-goes_on g c κs within = c.requires.goes_on

pub fetch_batch-requires-clause-some_left : goal.fetch_batch-requires-clause-some_left
fetch_batch-requires-clause-some_left g c κs within = subst (λ n. 0 < n) (ap (λ (l : Look). l.left) c.requires.look ∙ c.requires.ready.left) c.if-is_to_fetch.ensures.1

pub returns-then-is_to_fetch-clause-params : goal.returns-then-is_to_fetch-clause-params
returns-then-is_to_fetch-clause-params g c = c.fetch_batch.ensures.params

pub end_epoch-requires-clause-params : goal.end_epoch-requires-clause-params
end_epoch-requires-clause-params g c κs within = c.requires.params

pub end_epoch-requires-clause-ready : goal.end_epoch-requires-clause-ready
end_epoch-requires-clause-ready g c κs within = c.requires.ready

pub end_epoch-requires-clause-goes_on : goal.end_epoch-requires-clause-goes_on
end_epoch-requires-clause-goes_on g c κs within = c.requires.goes_on

pub end_epoch-requires-clause-room : goal.end_epoch-requires-clause-room
end_epoch-requires-clause-room g c κs within = c.requires.room

pub returns-then-look-gt0-clause-params : goal.returns-then-look-gt0-clause-params
returns-then-look-gt0-clause-params g c = c.end_epoch.ensures.params

pub returns-then-look-gt0-clause-room : goal.returns-then-look-gt0-clause-room
returns-then-look-gt0-clause-room g c = c.end_epoch.ensures.room

pub returns-clause-params : goal.returns-clause-params
returns-clause-params g c = c.requires.params
