use Rattle.std.specs.Prelude.{◌<◌, ◌+◌, cond, slice_index}
use Rattle.std.proofs.Common.{ℕ, List, ◌∷◌, [], ◌++◌, length, ◌∙◌, ap, sym, subst, arith}
use Rattle.ob_base.specs.Tree.{passes}
use Rattle.ob_wants.specs.Counted.{AreCounted}
use Rattle.ob_wants.proofs.CountLaws.{counted_more}
use Rattle.ob_wants.proofs.TotalLaws.{in_place}
use Rattle.ob_wants.proofs.leaves.count_path.Goals as goal

pub returns-then-levels-p : goal.returns-then-levels-p
returns-then-levels-p c = λ leaves told.
    (let p = c.args.p.now in
    let old = c.deref_mut.ensures.value in
    let same = c.add_path.ensures.same ∙ ap (λ (ts : List ℕ). length ts) old in
    let more = λ (u : ℕ) (lt : u < length c.args.passed.now.items). c.add_path.ensures.more u (subst (λ (ts : List ℕ). u < length ts) (sym old) lt) ∙ ap (λ (ts : List ℕ). slice_index ts u + cond (passes p u c.args.leaf) 1 0) old in
    subst (λ (ts : List ℕ). AreCounted c.args.levels (leaves ++ c.args.leaf ∷ []) ts) (sym (in_place c.add_path.new.passed _ _ (omega (arith, same, c.args.passed.now.ok.0))))
    (counted_more p c.args.levels c.args.leaf leaves c.args.passed.now.items c.add_path.new.passed c.if-levels-p.true same more told))
