use Rattle.std.proofs.Common.{◌≡◌, refl}
use Rattle.ob_top.proofs.Completing.{completes}
use Rattle.ob_top.proofs.Headlines.{told_promised}
use Rattle.ob_top.proofs.Over.{audit_low, drill_low, usage_over, audit_over, drill_over, format_over, run_over, usage_alone, audit_without, drill_without, format_alone, run_alone}
use Rattle.ob_top.proofs.top.obladi.Goals as goal

pub returns-in-Some-clause-usage : goal.returns-in-Some-clause-usage
returns-in-Some-clause-usage g c = rw c.in-Some.is (usage_over g.S.Store.disk _ _ _ _ _ _ _ _ _ _ _ _ c.do_with.ensures.does)

pub returns-in-Some-clause-audit : goal.returns-in-Some-clause-audit
returns-in-Some-clause-audit g c = rw c.in-Some.is (audit_over g.S.Store.disk _ _ _ _ _ _ _ _ _ _ _ _ c.do_with.ensures.does)

pub returns-in-Some-clause-format : goal.returns-in-Some-clause-format
returns-in-Some-clause-format g c = rw c.in-Some.is (format_over g.S.Store.disk _ _ _ _ _ _ _ _ _ _ _ _ c.do_with.ensures.does)

pub returns-in-Some-clause-run : goal.returns-in-Some-clause-run
returns-in-Some-clause-run g c = rw c.in-Some.is (run_over g.S.Store.disk _ _ _ _ _ _ _ _ _ _ _ _ c.do_with.ensures.does)

pub returns-in-None-clause-usage : goal.returns-in-None-clause-usage
returns-in-None-clause-usage g c = rw c.in-None.is (usage_alone (c.args.trace.now ≡ c.args.trace.now) refl _ _ _ _ _ c.do_without.ensures)

pub returns-in-None-clause-audit : goal.returns-in-None-clause-audit
returns-in-None-clause-audit g c = rw c.in-None.is (audit_without (c.args.trace.now ≡ c.args.trace.now) refl _ _ _ _ _ c.do_without.ensures)

pub returns-in-None-clause-format : goal.returns-in-None-clause-format
returns-in-None-clause-format g c = rw c.in-None.is (format_alone (c.args.trace.now ≡ c.args.trace.now) refl _ _ _ _ _ c.do_without.ensures)

pub returns-in-None-clause-run : goal.returns-in-None-clause-run
returns-in-None-clause-run g c = rw c.in-None.is (run_alone (c.args.trace.now ≡ c.args.trace.now) refl _ _ _ _ _ c.do_without.ensures)

pub returns-in-Some-clause-complete : goal.returns-in-Some-clause-complete
returns-in-Some-clause-complete g c = rw c.in-Some.is (completes g.S.Store.disk _ _ _ _ _ _ _ _ _ _ _ _
    (format_over g.S.Store.disk _ _ _ _ _ _ _ _ _ _ _ _ c.do_with.ensures.does) (run_over g.S.Store.disk _ _ _ _ _ _ _ _ _ _ _ _ c.do_with.ensures.does))

pub returns-in-None-clause-complete : goal.returns-in-None-clause-complete
returns-in-None-clause-complete g c = rw c.in-None.is tt

pub returns-in-Some-clause-audit_complete : goal.returns-in-Some-clause-audit_complete
returns-in-Some-clause-audit_complete g c = λ asks. audit_low _ _ _ _ (audit_over g.S.Store.disk _ _ _ _ _ _ _ _ _ _ _ _ c.do_with.ensures.does asks)

pub returns-in-None-clause-audit_complete : goal.returns-in-None-clause-audit_complete
returns-in-None-clause-audit_complete g c = λ asks. audit_low _ _ _ _ (audit_without (c.args.trace.now ≡ c.args.trace.now) refl _ _ _ _ _ c.do_without.ensures asks)

pub returns-in-Some-clause-goes : goal.returns-in-Some-clause-goes
returns-in-Some-clause-goes g c = rw c.in-Some.is (c.do_with.ensures.goes, c.do_with.ensures.none_out)

pub returns-in-None-clause-goes : goal.returns-in-None-clause-goes
returns-in-None-clause-goes g c = rw c.in-None.is tt

pub returns-in-Some-clause-drill : goal.returns-in-Some-clause-drill
returns-in-Some-clause-drill g c = rw c.in-Some.is (drill_over g.S.Store.disk _ _ _ _ _ _ _ _ _ _ _ _ c.do_with.ensures.does)

pub returns-in-None-clause-drill : goal.returns-in-None-clause-drill
returns-in-None-clause-drill g c = rw c.in-None.is (drill_without (c.args.trace.now ≡ c.args.trace.now) refl _ _ _ _ _ c.do_without.ensures)

pub returns-in-Some-clause-drill_complete : goal.returns-in-Some-clause-drill_complete
returns-in-Some-clause-drill_complete g c = λ word n asks count. drill_low _ _ _ _ word n count (drill_over g.S.Store.disk _ _ _ _ _ _ _ _ _ _ _ _ c.do_with.ensures.does word asks)

pub returns-in-None-clause-drill_complete : goal.returns-in-None-clause-drill_complete
returns-in-None-clause-drill_complete g c = λ word n asks count. drill_low _ _ _ _ word n count (drill_without (c.args.trace.now ≡ c.args.trace.now) refl _ _ _ _ _ c.do_without.ensures word asks)

pub returns-in-Some-clause-headline : goal.returns-in-Some-clause-headline
returns-in-Some-clause-headline g c = rw c.in-Some.is (λ store_path keys_path lanes turns trace mirror limits k shares keys asks are given has p at past stood.
    told_promised g.S.Store.disk _ _ _ _ _ _ _ _ _ _ _ (λ x image left. g.met.S.Store.only_now x image left) (λ x tells leaves. g.met.S.Store.includes_reads x tells leaves) c.do_with.ensures.goes turns k shares keys p at past stood lanes trace limits are given has
    (run_over g.S.Store.disk _ _ _ _ _ _ _ _ _ _ _ _ c.do_with.ensures.does store_path keys_path lanes turns trace mirror limits asks))

pub returns-in-None-clause-headline : goal.returns-in-None-clause-headline
returns-in-None-clause-headline g c = rw c.in-None.is (λ store_path keys_path lanes turns trace mirror limits k shares keys asks are given has. tt)
