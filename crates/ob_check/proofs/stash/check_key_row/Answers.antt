use Rattle.std.proofs.Common.{◌<◌, ◌+◌, arith, sym, ap, ◌∙◌, length, filter, slice_index}
use Rattle.ob_base.specs.Tree.{below}
use Rattle.ob_check.specs.Rules.{is_loose, loose_keys, row_rules}
use Rattle.ob_check.proofs.Loose.{many_in, many_out, within, at_place}
use Rattle.ob_check.proofs.RuleLaws.{parts_stop, parts_go}
use Rattle.ob_check.proofs.stash.check_key_row.Goals as goal

pub returns-then-not-is_loose : goal.returns-then-not-is_loose
returns-then-not-is_loose c = (c.requires.rows ∙ sym (many_out (is_loose c.args.p.now c.args.bytes.now) c.args.k (sym c.is_loose.ensures ∙ c.if-not-is_loose.true)), c.requires.kept)

pub check_row-requires-clause-i : goal.check_row-requires-clause-i
check_row-requires-clause-i c =
    let low : length (filter (is_loose c.args.p.now c.args.bytes.now) (below c.args.k)) < length (loose_keys c.args.p.now c.args.bytes.now) =
    within (is_loose c.args.p.now c.args.bytes.now) c.args.p.now.keys c.args.k c.requires.k (sym c.is_loose.ensures ∙ c.if-not-is_loose.false) in
    omega (arith, c.requires.few, c.requires.rows)

pub check_row-requires-clause-key : goal.check_row-requires-clause-key
check_row-requires-clause-key c =
    ap (slice_index (loose_keys c.args.p.now c.args.bytes.now)) c.requires.rows ∙ at_place (is_loose c.args.p.now c.args.bytes.now) c.args.p.now.keys c.args.k c.requires.k (sym c.is_loose.ensures ∙ c.if-not-is_loose.false)

pub overflow_add-result : goal.overflow_add-result
overflow_add-result c =
    let low : length (filter (is_loose c.args.p.now c.args.bytes.now) (below c.args.k)) < length (loose_keys c.args.p.now c.args.bytes.now) =
    within (is_loose c.args.p.now c.args.bytes.now) c.args.p.now.keys c.args.k c.requires.k (sym c.is_loose.ensures ∙ c.if-not-is_loose.false) in
    omega (arith, c.requires.few, c.requires.rows, c.args.p.now.in_range.few_room)

pub returns-in-Some : goal.returns-in-Some
returns-in-Some c =
    let low : length (filter (is_loose c.args.p.now c.args.bytes.now) (below c.args.k)) < length (loose_keys c.args.p.now c.args.bytes.now) =
    within (is_loose c.args.p.now c.args.bytes.now) c.args.p.now.keys c.args.k c.requires.k (sym c.is_loose.ensures ∙ c.if-not-is_loose.false) in
    sym (parts_stop (row_rules c.args.p.now c.args.bytes.now) (length (loose_keys c.args.p.now c.args.bytes.now)) c.args.i _ (omega (arith, c.requires.rows)) c.requires.kept (sym c.in-Some.ensures))

pub returns-in-None : goal.returns-in-None
returns-in-None c = (
  ap (λ n. n + 1) c.requires.rows ∙ sym (many_in (is_loose c.args.p.now c.args.bytes.now) c.args.k (sym c.is_loose.ensures ∙ c.if-not-is_loose.false)),
  parts_go (row_rules c.args.p.now c.args.bytes.now) c.args.i c.requires.kept (sym c.in-None.ensures),
)
