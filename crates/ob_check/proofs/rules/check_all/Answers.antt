use Rattle.std.proofs.Common.{sym, ◌∙◌}
use Rattle.std.specs.List.{flat_map}
use Rattle.ob_base.specs.Tree.{below, buckets}
use Rattle.ob_check.specs.Rules.{counter_rules, entry_rules, bucket_rules, stash_rules}
use Rattle.ob_check.proofs.RuleLaws.{at_first, at_second, at_third, at_last}
use Rattle.ob_check.proofs.KeptLaws.{have_leaves}
use Rattle.ob_check.proofs.rules.check_all.Goals as goal

pub returns-in-Some : goal.returns-in-Some
returns-in-Some c =
    sym (at_first (counter_rules c.args.p.now c.args.bytes.now) (flat_map (entry_rules c.args.p.now c.args.bytes.now) (below c.args.p.now.keys)) (flat_map (bucket_rules c.args.p.now c.args.bytes.now) (below (buckets c.args.p.now))) (stash_rules c.args.p.now c.args.bytes.now) _
    (sym c.in-Some.ensures))

pub returns-in-Some-check_entries : goal.returns-in-Some-check_entries
returns-in-Some-check_entries c =
    sym (at_second (counter_rules c.args.p.now c.args.bytes.now) (flat_map (entry_rules c.args.p.now c.args.bytes.now) (below c.args.p.now.keys)) (flat_map (bucket_rules c.args.p.now c.args.bytes.now) (below (buckets c.args.p.now))) (stash_rules c.args.p.now c.args.bytes.now) _
    (sym c.in-None.ensures) (sym c.in-Some-check_entries.ensures))

pub check_buckets-requires-clause-leaves : goal.check_buckets-requires-clause-leaves
check_buckets-requires-clause-leaves c = have_leaves c.args.p.now c.args.bytes.now (sym c.in-None-check_entries.ensures)

pub returns-in-Some-check_buckets : goal.returns-in-Some-check_buckets
returns-in-Some-check_buckets c =
    sym (at_third (counter_rules c.args.p.now c.args.bytes.now) (flat_map (entry_rules c.args.p.now c.args.bytes.now) (below c.args.p.now.keys)) (flat_map (bucket_rules c.args.p.now c.args.bytes.now) (below (buckets c.args.p.now))) (stash_rules c.args.p.now c.args.bytes.now) _
    (sym c.in-None.ensures) (sym c.in-None-check_entries.ensures) (sym c.in-Some-check_buckets.ensures.rule))

pub returns : goal.returns
returns c =
    c.check_stash.ensures ∙ sym (at_last (counter_rules c.args.p.now c.args.bytes.now) (flat_map (entry_rules c.args.p.now c.args.bytes.now) (below c.args.p.now.keys)) (flat_map (bucket_rules c.args.p.now c.args.bytes.now) (below (buckets c.args.p.now))) (stash_rules c.args.p.now c.args.bytes.now)
    (sym c.in-None.ensures) (sym c.in-None-check_entries.ensures) (sym c.in-None-check_buckets.ensures.rule))
