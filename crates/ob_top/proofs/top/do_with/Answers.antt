use Rattle.std.proofs.Common.{inl, inr, refl}
use Rattle.ob_top.proofs.Over.{audit_words, drill_words}
use Rattle.ob_store.proofs.Serving.{goes_same}
use Rattle.ob_top.proofs.top.do_with.Goals as goal

pub returns-in-OnStore-clause-does : goal.returns-in-OnStore-clause-does
returns-in-OnStore-clause-does g c = inr (_, _, c.do_on-ended.ensures.does _ (rw c.in-OnStore.is at c.in-Ok.ensures.work), refl, c.finish_run.ensures)

pub returns-in-Audit-clause-does : goal.returns-in-Audit-clause-does
returns-in-Audit-clause-does g c = inl ((refl, refl), inl (audit_words _ (rw c.in-Audit.is at c.in-Ok.ensures.work), c.audit_on.ensures))

pub returns-in-Err-clause-does : goal.returns-in-Err-clause-does
returns-in-Err-clause-does g c = inr (_, _, inl (_, refl, inl c.in-Err.ensures.refused, (refl, refl), refl), refl, record { status_is = c.finish.ensures.status_is; line = c.finish.ensures.line })

pub do_on-ended-requires-clause-none_out : goal.do_on-ended-requires-clause-none_out
do_on-ended-requires-clause-none_out g c κs within = c.requires.none_out

pub do_on-ended-requires-clause-unstarted : goal.do_on-ended-requires-clause-unstarted
do_on-ended-requires-clause-unstarted g c κs within = c.requires.unstarted

pub returns-in-Err-clause-goes : goal.returns-in-Err-clause-goes
returns-in-Err-clause-goes g c = goes_same _

pub returns-in-Err-clause-none_out : goal.returns-in-Err-clause-none_out
returns-in-Err-clause-none_out g c = c.requires.none_out

pub returns-in-OnStore-clause-goes : goal.returns-in-OnStore-clause-goes
returns-in-OnStore-clause-goes g c = c.do_on-ended.ensures.goes

pub returns-in-OnStore-clause-none_out : goal.returns-in-OnStore-clause-none_out
returns-in-OnStore-clause-none_out g c = c.do_on-ended.ensures.none_out

pub returns-in-Audit-clause-goes : goal.returns-in-Audit-clause-goes
returns-in-Audit-clause-goes g c = goes_same _

pub returns-in-Audit-clause-none_out : goal.returns-in-Audit-clause-none_out
returns-in-Audit-clause-none_out g c = c.requires.none_out

pub do_on-ended-requires-clause-asked : goal.do_on-ended-requires-clause-asked
do_on-ended-requires-clause-asked g c κs within = (_, rw c.in-OnStore.is at c.in-Ok.ensures.work)

pub returns-in-Drill-clause-does : goal.returns-in-Drill-clause-does
returns-in-Drill-clause-does g c =
    let (word, asked, count) = drill_words _ c.in-Drill.count (rw c.in-Drill.is at c.in-Ok.ensures.work) in
    inl ((refl, refl), inr (word, c.in-Drill.count, asked, count, c.drill_told.ensures _))

pub returns-in-Drill-clause-goes : goal.returns-in-Drill-clause-goes
returns-in-Drill-clause-goes g c = goes_same _

pub returns-in-Drill-clause-none_out : goal.returns-in-Drill-clause-none_out
returns-in-Drill-clause-none_out g c = c.requires.none_out

pub drill_told-requires-clause-few : goal.drill_told-requires-clause-few
drill_told-requires-clause-few g c κs within =
    let (word, asked, count) = drill_words _ c.in-Drill.count (rw c.in-Drill.is at c.in-Ok.ensures.work) in
    count.1
