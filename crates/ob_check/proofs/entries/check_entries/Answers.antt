use Rattle.std.proofs.Common.{sym}
use Rattle.ob_check.specs.Rules.{entry_rules}
use Rattle.ob_check.proofs.RuleLaws.{parts_stop, parts_go}
use Rattle.ob_check.proofs.entries.check_entries.Goals as goal

pub returns-in-Some : goal.returns-in-Some
returns-in-Some c = sym (parts_stop (entry_rules c.args.p.now c.args.bytes.now) c.args.p.now.keys c.loop-k.k _ c.loop-k-test.true c.loop-k.invariant (sym c.in-Some.ensures))

pub loop-k-preserved : goal.loop-k-preserved
loop-k-preserved c = parts_go (entry_rules c.args.p.now c.args.bytes.now) c.loop-k.k c.loop-k.invariant (sym c.in-None.ensures)
