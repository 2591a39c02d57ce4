use Rattle.std.proofs.Common.{◌==◌, ℕ, length, sym, ap, ◌∙◌}
use Rattle.std.specs.FinMap as map
use Rattle.ob_tables.specs.Kept.{Held}
use Rattle.ob_tables.proofs.StashLaws.{len_of}
use Rattle.ob_tables.proofs.stash.Stash.is_empty.Goals as goal

pub returns : goal.returns
returns c = c.is_empty.ensures ∙ ap (λ (n : ℕ). n == 0) (ap length c.as_slice.ensures.value ∙ sym (len_of c.self.inside.rows.items c.self.invariant.0) ∙ ap (λ (h : Held). map.len h.rows) c.self.view_is)
