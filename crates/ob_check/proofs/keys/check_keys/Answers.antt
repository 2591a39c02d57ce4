use Rattle.std.proofs.Common.{◌≡◌, sym, refl, arith, ◌∙◌, ap}
use Rattle.ob_check.specs.Rules.{key_rules, placed_before}
use Rattle.ob_check.proofs.RuleLaws.{parts_stop, parts_go}
use Rattle.ob_check.proofs.MarkLaws.{before_none, before_all, marked_as}
use Rattle.ob_check.proofs.keys.check_keys.Goals as goal

pub loop-j-init : goal.loop-j-init
loop-j-init c = record {
  kept = refl;
  marked = marked_as c.args.p.now.keys c.args.placed.now _ _ (sym (before_none c.args.p.now c.args.bytes.now c.args.u)) c.requires.marked;
}

pub returns-in-Some-clause-rule : goal.returns-in-Some-clause-rule
returns-in-Some-clause-rule c = sym (parts_stop (key_rules c.args.p.now c.args.bytes.now c.args.u) c.args.p.now.real c.loop-j.j _ c.loop-j-test.true c.loop-j.invariant.kept (sym c.in-Some.ensures.rule))

pub loop-j-preserved : goal.loop-j-preserved
loop-j-preserved c = record {
  kept = parts_go (key_rules c.args.p.now c.args.bytes.now c.args.u) c.loop-j.j c.loop-j.invariant.kept (sym c.in-None.ensures.rule);
  marked = c.in-None.ensures.marks;
}

pub returns-clause-marks : goal.returns-clause-marks
returns-clause-marks c =
    let all : c.loop-j.j ≡ c.args.p.now.real = omega arith in
    marked_as c.args.p.now.keys c.loop-j.placed _ _ (ap (λ n. placed_before c.args.p.now c.args.bytes.now c.args.u n) all ∙ before_all c.args.p.now c.args.bytes.now c.args.u) c.loop-j.invariant.marked
