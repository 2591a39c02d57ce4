use Rattle.std.proofs.Common.{◌-◌, ◌++◌, ◌∷◌, [], ◌+◌, ◌∙◌, List, ap, sym}
use Rattle.std.specs.List.{range_with_len}
use Rattle.ob_store.specs.declared.watch.Note.{Note}
use Rattle.ob_schedule.specs.Wants.{kept}
use Rattle.ob_wants.specs.Marked.{writes_marked}
use Rattle.ob_wants.specs.Shown.{standing_of}
use Rattle.ob_wants.proofs.Lists.{anew_more}
use Rattle.ob_wants.proofs.Pushed.{then_kept}
use Rattle.ob_wants.proofs.wants.push_level.Goals as goal

pub loop-i-preserved : goal.loop-i-preserved
loop-i-preserved c =
    let p = c.args.p.now in
    let s = standing_of c.args.standing.now in
    let marks = c.args.lifted.now in
    let first = c.args.many - 1 in
    then_kept c.args.wants.now _ _ (writes_marked p s marks (range_with_len first c.loop-i.i)) (writes_marked p s marks ((first + c.loop-i.i) ∷ [])) c.loop-i.invariant c.in_ok-push_anew.ensures
    ∙ ap (λ (ns : List Note). c.args.wants.now ++ kept ns) (sym (anew_more p s marks first c.loop-i.i))
