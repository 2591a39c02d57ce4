use Rattle.std.proofs.Common.{◌≡◌, ℕ, List, ap, ◌∙◌}
use Rattle.std.specs.FinMap as map
use Rattle.std.specs.Ordering.{nat_cmp}
use Rattle.ob_tables.specs.Kept.{Held}
use Rattle.ob_tables.proofs.StashLaws.{map_of, map_empty}
use Rattle.ob_tables.proofs.stash.Stash.new.Goals as goal

pub returns : goal.returns
returns c =
    let is : map_of c.in_ok-with_capacity.field-0.items ≡ map.empty = ap map_of c.in_ok-with_capacity.ensures.items ∙ map_empty in
    ap (λ (m : map.FinMap nat_cmp (List ℕ)). let h : Held = record { rows = m; room = c.args.room } in h) is
