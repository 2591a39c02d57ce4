use Rattle.std.proofs.Common.{◌≡◌, ◌<◌, ℕ, List, [], length, slice_index_or, sym, ap, ◌∙◌, arith}
use Rattle.std.specs.FinMap as map
use Rattle.std.proofs.lemmas.List.{get_or_default}
use Rattle.ob_tables.specs.Kept.{Held}
use Rattle.ob_tables.proofs.StashLaws.{map_of, entries_of, len_of}
use Rattle.ob_tables.proofs.stash.Stash.row.Goals as goal

pub offset_bounds-as_slice-i : goal.offset_bounds-as_slice-i
offset_bounds-as_slice-i c =
    let many : map.len (map_of c.self.inside.rows.items) ≡ map.len c.args.self.now.rows = ap (λ (h : Held). map.len h.rows) c.self.view_is in
    let long : length c.as_slice.result.now ≡ length c.self.inside.rows.items = ap length c.as_slice.ensures.value in
    let low : c.args.i < length c.as_slice.result.now = omega (arith, c.requires, len_of c.self.inside.rows.items c.self.invariant.0) in
    omega (arith, c.as_slice.type_inv.1)

pub bounds-as_slice-i : goal.bounds-as_slice-i
bounds-as_slice-i c =
    let many : map.len (map_of c.self.inside.rows.items) ≡ map.len c.args.self.now.rows = ap (λ (h : Held). map.len h.rows) c.self.view_is in
    let long : length c.as_slice.result.now ≡ length c.self.inside.rows.items = ap length c.as_slice.ensures.value in
    omega (arith, c.requires, len_of c.self.inside.rows.items c.self.invariant.0)

pub returns : goal.returns
returns c =
    let many : map.len (map_of c.self.inside.rows.items) ≡ map.len c.args.self.now.rows = ap (λ (h : Held). map.len h.rows) c.self.view_is in
    let low : c.args.i < length c.self.inside.rows.items = omega (arith, c.requires, len_of c.self.inside.rows.items c.self.invariant.0) in
    c.index-as_slice-i.is ∙ ap (λ (rows : List (ℕ × List ℕ)). slice_index_or rows c.args.i c.index-as_slice-i.result) c.as_slice.ensures.value
    ∙ get_or_default c.self.inside.rows.items c.args.i c.index-as_slice-i.result (0, []) low
    ∙ ap (λ (rows : List (ℕ × List ℕ)). slice_index_or rows c.args.i (0, [])) (sym (entries_of c.self.inside.rows.items c.self.invariant.0) ∙ ap (λ (h : Held). map.entries h.rows) c.self.view_is)
