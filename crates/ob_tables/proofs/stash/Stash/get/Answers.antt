use Rattle.std.proofs.Common.{ℕ, List, sym, ap, ◌∙◌}
use Rattle.std.specs.FinMap as map
use Rattle.std.specs.Ordering.{nat_cmp}
use Rattle.ob_tables.specs.Kept.{Held}
use Rattle.ob_tables.proofs.StashLaws.{get_of}
use Rattle.ob_tables.proofs.stash.Stash.get.Goals as goal

pub returns : goal.returns
returns c = c.find.ensures ∙ ap (λ (rows : List (ℕ × List ℕ)). map.find nat_cmp c.args.k rows) c.as_slice.ensures.value
    ∙ sym (get_of c.self.inside.rows.items c.args.k c.self.invariant.0) ∙ ap (λ (h : Held). map.get h.rows c.args.k) c.self.view_is
