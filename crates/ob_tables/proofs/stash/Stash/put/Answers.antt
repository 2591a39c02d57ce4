use Rattle.std.proofs.Common.{◌≡◌, ◌<◌, ℕ, List, None, sym, ap, subst, ◌∙◌, arith}
use Rattle.std.specs.FinMap as map
use Rattle.std.specs.Ordering.{nat_cmp}
use Rattle.ob_tables.specs.Kept.{Held}
use Rattle.ob_tables.specs.Rows.{Rises}
use Rattle.ob_tables.proofs.StashLaws.{map_of, map_put, rises_put, get_of, len_of}
use Rattle.ob_tables.proofs.stash.Stash.put.Goals as goal

pub put-requires-clause-room : goal.put-requires-clause-room
put-requires-clause-room c = λ none.
    (let absent : map.get c.args.self.now.rows c.args.k ≡ None = sym (ap (λ (h : Held). map.get h.rows c.args.k) c.self.view_is) ∙ get_of c.self.inside.rows.items c.args.k c.self.invariant.0 ∙ none in
    let few : map.len c.args.self.now.rows < c.args.self.now.room = c.requires absent in
    let many : map.len (map_of c.self.inside.rows.items) ≡ map.len c.args.self.now.rows = ap (λ (h : Held). map.len h.rows) c.self.view_is in
    let room : c.self.inside.room ≡ c.args.self.now.room = ap (λ (h : Held). h.room) c.self.view_is in
    omega (arith, len_of c.self.inside.rows.items c.self.invariant.0, c.self.invariant.1))

pub invariant_of-self : goal.invariant_of-self
invariant_of-self c = (
  subst Rises (sym c.put.ensures.rows) (rises_put c.args.k c.args.v c.self.inside.rows.items c.self.invariant.0),
  omega (arith, c.self.invariant.1, c.put.ensures.capacity),
)

pub returns : goal.returns
returns c =
    let is : map_of c.put.new.rows.items ≡ map.insert c.args.self.now.rows c.args.k c.args.v =
    ap map_of c.put.ensures.rows ∙ map_put c.args.k c.args.v c.self.inside.rows.items c.self.invariant.0 ∙ ap (λ (h : Held). map.insert h.rows c.args.k c.args.v) c.self.view_is in
    let room : c.self.inside.room ≡ c.args.self.now.room = ap (λ (h : Held). h.room) c.self.view_is in
    ap (λ (m : map.FinMap nat_cmp (List ℕ)). let h : Held = record { rows = m; room = c.self.inside.room } in h) is
    ∙ ap (λ (n : ℕ). let h : Held = record { rows = map.insert c.args.self.now.rows c.args.k c.args.v; room = n } in h) room
