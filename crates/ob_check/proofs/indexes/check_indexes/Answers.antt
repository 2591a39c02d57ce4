use Rattle.std.proofs.Common.{sym, arith}
use Rattle.ob_base.specs.Tree.{width}
use Rattle.ob_check.specs.Rules.{index_rules}
use Rattle.ob_check.proofs.RuleLaws.{parts_stop, parts_go, parts_all}
use Rattle.ob_check.proofs.indexes.check_indexes.Goals as goal

pub returns-in-Some : goal.returns-in-Some
returns-in-Some c = sym (parts_stop (index_rules c.args.p.now c.args.bytes.now c.args.u) (width c.args.p.now) c.loop-i.i _ (omega arith) c.loop-i.invariant.kept (sym c.in-Some.ensures))

pub loop-i-preserved : goal.loop-i-preserved
loop-i-preserved c = record {
  kept = parts_go (index_rules c.args.p.now c.args.bytes.now c.args.u) c.loop-i.i c.loop-i.invariant.kept (sym c.in-None.ensures);
  taken = c.take_rank.ensures;
  shown = c.count_shown-shown.ensures.shown;
  few = c.count_shown-shown.ensures.few;
}

pub returns : goal.returns
returns c = sym (parts_all (index_rules c.args.p.now c.args.bytes.now c.args.u) (width c.args.p.now) c.loop-i.i (omega arith) (omega arith) c.loop-i.invariant.kept)
