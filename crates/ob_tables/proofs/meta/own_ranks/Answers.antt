use Rattle.std.proofs.Common.{◌++◌, ◌∷◌, [], ℕ, List, sym, ap, ◌∙◌, arith}
use Rattle.ob_tables.proofs.VersionLaws.{range_up}
use Rattle.ob_tables.proofs.meta.own_ranks.Goals as goal

pub loop-j-preserved : goal.loop-j-preserved
loop-j-preserved c = record {
  is = c.push.ensures.items ∙ ap (λ (xs : List ℕ). xs ++ c.loop-j.j ∷ []) c.loop-j.invariant.is ∙ sym (range_up c.loop-j.j);
  many = omega (arith, c.push.ensures.len, c.loop-j.invariant.many);
}
