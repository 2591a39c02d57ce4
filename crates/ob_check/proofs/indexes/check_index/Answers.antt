use Rattle.std.proofs.Common.{◌≡◌, ◌≤◌, refl, ap, ◌∙◌, ◌+◌, List, ℕ, Bool, slice_index_or}
use Rattle.ob_base.specs.Tree.{width}
use Rattle.ob_base.proofs.Bounds.{width_le}
use Rattle.ob_check.specs.Fields.{rank_in, mark_in}
use Rattle.ob_check.specs.Rules.{ranks_in, shown_in, holds_key, may_rank, may_mark}
use Rattle.ob_check.proofs.RuleLaws.{rule_is, two_rules}
use Rattle.ob_check.proofs.indexes.check_index.Goals as goal

pub returns : goal.returns
returns c =
    let p = c.args.p.now in
    let bytes = c.args.bytes.now in
    let at = c.index_place-place.ensures.place in
    let few : width p ≤ 48 = width_le p in
    let xs : List ℕ = ranks_in p bytes c.args.u c.args.i in
    let rank : slice_index_or bytes c.index_place-place.result 0 ≡ rank_in p bytes c.args.u c.args.i = ap (λ n. slice_index_or bytes n 0) at in
    let mark : slice_index_or bytes (c.index_place-place.result + 1) 0 ≡ mark_in p bytes c.args.u c.args.i = ap (λ n. slice_index_or bytes (n + 1) 0) at in
    two_rules _ _ _ _ _ _ _ c.first.ensures (c.check_rank-one.ensures 48 xs few c.requires.taken) c.check-other.ensures
    (rule_is _ _ _ _ _ _ _ _ at rank (ap (may_rank p xs) rank) refl)
    (rule_is _ _ _ _ _ _ _ _ (ap (λ n. n + 1) at) mark
    (c.may_mark-marks.ensures ∙ ap (λ (h : Bool). may_mark p h c.args.shown (slice_index_or bytes (c.index_place-place.result + 1) 0)) c.holds_key.ensures ∙ ap
    (λ n. may_mark p (holds_key p bytes c.args.u c.args.i) n (slice_index_or bytes (c.index_place-place.result + 1) 0)) c.requires.shown ∙ ap (may_mark p (holds_key p bytes c.args.u c.args.i) (shown_in p bytes c.args.u c.args.i)) mark)
    refl)
