use Rattle.std.proofs.Common.{inl, inr, refl}
use Rattle.ob_mirrored.proofs.Doing.{second_same}
use Rattle.ob_mirrored.proofs.Telling.{told_keys, told_store, told_unwatched}
use Rattle.ob_mirrored.proofs.mirrored.do_with_first.Goals as goal

pub returns-in-Err-clause-second_stays : goal.returns-in-Err-clause-second_stays
returns-in-Err-clause-second_stays g c = second_same g.M.Store.disk c.args.mirror.now c.requires.second_in

pub returns-in-Err-clause-done : goal.returns-in-Err-clause-done
returns-in-Err-clause-done g c = inl (c.in-Err.fault, c.in-Err.ensures, (refl, refl, refl, told_keys c.args.text c.in-Err.fault _ _ _ _ c.in-Err.ensures c.finish.ensures))

pub returns-then-lacks_trace-clause-second_stays : goal.returns-then-lacks_trace-clause-second_stays
returns-then-lacks_trace-clause-second_stays g c = second_same g.M.Store.disk c.args.mirror.now c.requires.second_in

pub returns-then-lacks_trace-clause-done : goal.returns-then-lacks_trace-clause-done
returns-then-lacks_trace-clause-done g c = inr (c.in-Ok.keys, c.in-Ok.ensures, inl ((rw c.if-lacks_trace.true at c.lacks_trace.ensures), (refl, refl, refl, told_unwatched _ _ _ _ c.finish_run.ensures)))

pub returns-in-Some-clause-done : goal.returns-in-Some-clause-done
returns-in-Some-clause-done g c =
    let there = (rw c.if-lacks_trace.false at c.lacks_trace.ensures) in
    inr (c.in-Ok.keys, c.in-Ok.ensures, inr (there, rw c.in-Some.is (c.do_both.ensures.done there)))

pub returns-in-None-clause-done : goal.returns-in-None-clause-done
returns-in-None-clause-done g c =
    let there = (rw c.if-lacks_trace.false at c.lacks_trace.ensures) in
    inr (c.in-Ok.keys, c.in-Ok.ensures, inr (there, rw c.in-None.is (refl, refl, refl, told_store _ _ _ _ c.finish-in-None.ensures)))
