use Rattle.std.proofs.Common.{arith, ap, length, List, ℕ}
use Rattle.ob_check.proofs.sheet.Sheet.spell.Goals as goal
use Rattle.ob_base.proofs.LayoutLaws.{checkpoint_cells_hold}

pub spell_front-requires-clause-long : goal.spell_front-requires-clause-long
spell_front-requires-clause-long c =
    omega (arith, checkpoint_cells_hold c.args.p.now, c.requires.long, ap (λ (xs : List ℕ). length xs) c.self.view_is, ap (λ (xs : List ℕ). length xs) c.as_mut_slice.ensures.value, c.checkpoint_len-len.ensures.len)
