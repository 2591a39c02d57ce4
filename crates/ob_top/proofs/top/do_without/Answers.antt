use Rattle.std.proofs.Common.{inl, inr, refl}
use Rattle.ob_top.proofs.Over.{audit_words, drill_words}
use Rattle.ob_top.proofs.top.do_without.Goals as goal

pub returns-in-OnStore : goal.returns-in-OnStore
returns-in-OnStore g c = inr (_, c.refusal_of.ensures _ (_, rw c.in-OnStore.is at c.in-Ok.ensures.work), refl, c.finish-in-OnStore.ensures)

pub returns-in-Audit : goal.returns-in-Audit
returns-in-Audit g c = inl (inl (audit_words _ (rw c.in-Audit.is at c.in-Ok.ensures.work), c.audit_on.ensures))

pub returns-in-Drill : goal.returns-in-Drill
returns-in-Drill g c =
    let (word, asked, count) = drill_words _ c.in-Drill.count (rw c.in-Drill.is at c.in-Ok.ensures.work) in
    inl (inr (word, c.in-Drill.count, asked, count, c.drill_told.ensures _))

pub drill_told-requires-clause-few : goal.drill_told-requires-clause-few
drill_told-requires-clause-few g c κs within =
    let (word, asked, count) = drill_words _ c.in-Drill.count (rw c.in-Drill.is at c.in-Ok.ensures.work) in
    count.1
