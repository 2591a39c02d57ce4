use Rattle.std.proofs.Common.{◌≡◌, ℕ, List, sym, ap, subst, ◌∙◌, arith}
use Rattle.std.specs.FinMap as map
use Rattle.std.specs.Ordering.{nat_cmp}
use Rattle.ob_tables.specs.Kept.{Held}
use Rattle.ob_tables.specs.Rows.{Rises}
use Rattle.ob_tables.proofs.StashLaws.{map_of, map_but, rises_but, get_of}
use Rattle.ob_tables.proofs.stash.Stash.take.Goals as goal

pub invariant_of-self : goal.invariant_of-self
invariant_of-self c = (
  subst Rises (sym c.take.ensures.rows) (rises_but c.args.k c.self.inside.rows.items c.self.invariant.0),
  omega (arith, c.self.invariant.1, c.take.ensures.capacity),
)

pub returns-clause-value : goal.returns-clause-value
returns-clause-value c = c.take.ensures.value ∙ sym (get_of c.self.inside.rows.items c.args.k c.self.invariant.0) ∙ ap (λ (h : Held). map.get h.rows c.args.k) c.self.view_is

pub returns-clause-rest : goal.returns-clause-rest
returns-clause-rest c =
    let is : map_of c.take.new.rows.items ≡ map.remove c.args.self.now.rows c.args.k =
    ap map_of c.take.ensures.rows ∙ map_but c.args.k c.self.inside.rows.items c.self.invariant.0 ∙ ap (λ (h : Held). map.remove h.rows c.args.k) c.self.view_is in
    let room : c.self.inside.room ≡ c.args.self.now.room = ap (λ (h : Held). h.room) c.self.view_is in
    ap (λ (m : map.FinMap nat_cmp (List ℕ)). let h : Held = record { rows = m; room = c.self.inside.room } in h) is
    ∙ ap (λ (n : ℕ). let h : Held = record { rows = map.remove c.args.self.now.rows c.args.k; room = n } in h) room
