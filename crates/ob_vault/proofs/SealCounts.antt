-- How many seals a call takes.
use Rattle.std.proofs.Common.{◌∙◌, ◌+◌, ◌*◌, ℕ, Bool, ap, filter, length}
use mathlib.Core.Path.{fun_ext}
use Rattle.ob_base.specs.Layout.{checkpoint_cells}
use Rattle.ob_base.specs.Tree.{width}
use Rattle.ob_recover.proofs.Ending.{lifted_is}
use Rattle.ob_schedule.specs.Paths.{by_falling_level}
use Rattle.ob_serial.specs.Vaults.{End, Fetch}
use Rattle.ob_vault.specs.Hidden.{RingHidden}
use Rattle.ob_vault.specs.SealCounts.{SealsArePublic}

pub seals_public : SealsArePublic
seals_public p h behind epoch gates (Fetch asks) f obeys draws = ap (λ (x : RingHidden). x.seals) (draws.0).behind_is
seals_public p h behind epoch gates (End writes) f obeys draws =
    draws.sealed ∙ ap (λ (test : ℕ → Bool). h.seals + (length (filter test (by_falling_level (p.levels + 1))) * width p + checkpoint_cells p)) (fun_ext (λ u. lifted_is p h.content h.records epoch gates obeys u))
