use Rattle.std.proofs.Common.{inl, inr, refl}
use Rattle.ob_top.specs.Drills.{drill_text}
use Rattle.ob_top.proofs.Finishing.{whole}
use Rattle.ob_top.proofs.Over.{front_printed, still_rose}
use Rattle.ob_top.proofs.SelfTest.{its_summary, prints_as}
use Rattle.ob_top.proofs.drill.drill_told.Goals as goal

pub returns-in-Ok : goal.returns-in-Ok
returns-in-Ok g c = λ input.
    let is = its_summary c.args.count c.in-Some.drilled.epochs c.in-Some.drilled.digest c.in-Some.ensures.epochs c.in-Some.ensures.digest in
    let prints = prints_as _ _ _ _ _ is c.in-Ok.ensures in
    inl (record { untouched = refl; printed = whole _ _ (drill_text c.args.count) prints.all; answered = inl (refl, prints.all) })

pub returns-in-Err : goal.returns-in-Err
returns-in-Err g c = λ input.
    let is = its_summary c.args.count c.in-Some.drilled.epochs c.in-Some.drilled.digest c.in-Some.ensures.epochs c.in-Some.ensures.digest in
    let prints = prints_as _ _ _ _ _ is c.in-Err.ensures in
    inl (record {
      untouched = refl;
      printed = front_printed _ _ _ (drill_text c.args.count) prints.cause.failed c.finish-in-Err.ensures.line (prints.printed.count, prints.printed.within, prints.printed.written);
      answered = inr (c.finish-in-Err.ensures.status_is, still_rose _ _ _ prints.cause.failed c.finish-in-Err.ensures.line);
    })
