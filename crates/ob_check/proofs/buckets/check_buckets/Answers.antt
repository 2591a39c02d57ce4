use Rattle.std.proofs.Common.{◌≡◌, sym, arith, ap}
use Rattle.ob_base.specs.Tree.{buckets}
use Rattle.ob_check.specs.Rules.{bucket_rules, placed_in}
use Rattle.ob_check.proofs.RuleLaws.{parts_stop, parts_go, parts_all}
use Rattle.ob_check.proofs.MarkLaws.{marked_as}
use Rattle.ob_check.proofs.buckets.check_buckets.Goals as goal

pub returns-in-Some-clause-rule : goal.returns-in-Some-clause-rule
returns-in-Some-clause-rule c = sym (parts_stop (bucket_rules c.args.p.now c.args.bytes.now) (buckets c.args.p.now) c.loop-u.u _ (omega arith) c.loop-u.invariant.kept (sym c.in-Some.ensures.rule))

pub loop-u-preserved : goal.loop-u-preserved
loop-u-preserved c = record {
  kept = parts_go (bucket_rules c.args.p.now c.args.bytes.now) c.loop-u.u c.loop-u.invariant.kept (sym c.in-None.ensures.rule);
  marked = c.in-None.ensures.marks;
}

pub returns-clause-rule : goal.returns-clause-rule
returns-clause-rule c = sym (parts_all (bucket_rules c.args.p.now c.args.bytes.now) (buckets c.args.p.now) c.loop-u.u (omega arith) (omega arith) c.loop-u.invariant.kept)

pub returns-clause-marks : goal.returns-clause-marks
returns-clause-marks c =
    let all : c.loop-u.u ≡ buckets c.args.p.now = omega arith in
    marked_as c.args.p.now.keys c.loop-u.placed _ _ (ap (placed_in c.args.p.now c.args.bytes.now) all) c.loop-u.invariant.marked
