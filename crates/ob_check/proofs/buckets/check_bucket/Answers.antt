use Rattle.std.proofs.Common.{sym, ◌∙◌, ◌++◌, List}
use Rattle.std.specs.List.{flat_map}
use Rattle.ob_base.specs.Tree.{below, width}
use Rattle.ob_check.specs.Rules.{home_rules, key_rules, index_rules}
use Rattle.ob_cells.specs.Rules.{Rule}
use Rattle.ob_cells.proofs.RuleLaws.{kept_then, broken_then}
use Rattle.ob_check.proofs.MarkLaws.{marked_none}
use Rattle.ob_check.proofs.buckets.check_bucket.Goals as goal

pub check_indexes-requires-clause-taken : goal.check_indexes-requires-clause-taken
check_indexes-requires-clause-taken c = marked_none 48

pub returns-in-Some-check_keys-clause-rule : goal.returns-in-Some-check_keys-clause-rule
returns-in-Some-check_keys-clause-rule c =
    let p = c.args.p.now in
    let bytes = c.args.bytes.now in
    let keys : List Rule = flat_map (key_rules p bytes c.args.u) (below p.real) in
    let indexes : List Rule = flat_map (index_rules p bytes c.args.u) (below (width p)) in
    sym (kept_then (home_rules p bytes c.args.u) (keys ++ indexes) (sym c.in-None.ensures) ∙ broken_then keys indexes _ (sym c.in-Some-check_keys.ensures.rule))

pub returns-clause-rule : goal.returns-clause-rule
returns-clause-rule c =
    let p = c.args.p.now in
    let bytes = c.args.bytes.now in
    let keys : List Rule = flat_map (key_rules p bytes c.args.u) (below p.real) in
    let indexes : List Rule = flat_map (index_rules p bytes c.args.u) (below (width p)) in
    c.check_indexes.ensures ∙ sym (kept_then (home_rules p bytes c.args.u) (keys ++ indexes) (sym c.in-None.ensures) ∙ kept_then keys indexes (sym c.in-None-check_keys.ensures.rule))
