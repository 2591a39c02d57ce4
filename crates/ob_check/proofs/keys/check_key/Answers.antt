use Rattle.std.proofs.Common.{ap, sym, refl, ◌∙◌, ◌++◌, ◌∷◌, []}
use Rattle.std.specs.Int.{w32}
use Rattle.ob_base.specs.LittleEndian.{field_at}
use Rattle.ob_cells.specs.Rules.{Rule, first_broken}
use Rattle.ob_check.specs.Rules.{least_key, may_stand, placed_before}
use Rattle.ob_check.proofs.RuleLaws.{broken_rule, kept_rule, rule_is}
use Rattle.ob_check.proofs.MarkLaws.{before_more, marked_as}
use Rattle.ob_check.proofs.keys.check_key.Goals as goal

pub returns-clause-marks : goal.returns-clause-marks
returns-clause-marks c =
    marked_as c.args.p.now.keys c.mark.new.marks _ _
    (ap (λ n. placed_before c.args.p.now c.args.bytes.now c.args.u c.args.j ++ n ∷ []) (c.u32_at-number.ensures ∙ ap (field_at w32 c.args.bytes.now) c.key_place-place.ensures.place) ∙ before_more c.args.p.now c.args.bytes.now c.args.u c.args.j)
    (c.mark.ensures c.args.p.now.keys (placed_before c.args.p.now c.args.bytes.now c.args.u c.args.j) c.requires.marked)

pub may_stand-requires-clause-room : goal.may_stand-requires-clause-room
may_stand-requires-clause-room c = c.requires.marked.many

pub least_key-requires-clause-room : goal.least_key-requires-clause-room
least_key-requires-clause-room c = c.requires.marked.many

pub returns-then-not-may_stand-clause-rule : goal.returns-then-not-may_stand-clause-rule
returns-then-not-may_stand-clause-rule c =
    let p = c.args.p.now in
    let bytes = c.args.bytes.now in
    let xs = placed_before p bytes c.args.u c.args.j in
    let number = c.u32_at-number.ensures ∙ ap (field_at w32 bytes) c.key_place-place.ensures.place in
    broken_rule c.key_place-place.result c.u32_at-number.result (may_stand p bytes c.args.u xs c.u32_at-number.result) c.least_key.result (least_key p bytes c.args.u xs)
    (sym (c.may_stand.ensures xs c.requires.marked) ∙ c.if-not-may_stand.true) (c.least_key.ensures xs c.requires.marked)
    ∙ ap (λ (r : Rule). first_broken (r ∷ [])) (rule_is _ _ _ _ _ _ _ _ c.key_place-place.ensures.place number (ap (may_stand p bytes c.args.u xs) number) refl)

pub returns-clause-rule : goal.returns-clause-rule
returns-clause-rule c =
    let p = c.args.p.now in
    let bytes = c.args.bytes.now in
    let xs = placed_before p bytes c.args.u c.args.j in
    let number = c.u32_at-number.ensures ∙ ap (field_at w32 bytes) c.key_place-place.ensures.place in
    kept_rule c.key_place-place.result c.u32_at-number.result (may_stand p bytes c.args.u xs c.u32_at-number.result) (least_key p bytes c.args.u xs)
    (sym (c.may_stand.ensures xs c.requires.marked) ∙ c.if-not-may_stand.false)
    ∙ ap (λ (r : Rule). first_broken (r ∷ [])) (rule_is _ _ _ _ _ _ _ _ c.key_place-place.ensures.place number (ap (may_stand p bytes c.args.u xs) number) refl)
