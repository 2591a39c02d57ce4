use Rattle.std.proofs.Common.{◌++◌, ◌∷◌, [], sym, ◌∙◌, ap, List}
use Rattle.std.proofs.lemmas.Grind.{replicate_next}
use Rattle.ob_bare.specs.Cells.{zeros}
use Rattle.ob_bare.proofs.cells.blank.Goals as goal

pub loop-i-preserved : goal.loop-i-preserved
loop-i-preserved c = c.in_ok-push.ensures.items ∙ ap (λ (l : List (List _)). l ++ zeros ∷ []) c.loop-i.invariant ∙ sym (replicate_next c.loop-i.i zeros)
