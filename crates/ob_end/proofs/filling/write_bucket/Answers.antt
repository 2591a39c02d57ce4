use Rattle.std.proofs.Common.{◌≡◌, ◌<◌, ◌+◌, ◌%◌, ◌^◌, ◌∙◌, ℕ, List, [], ap, arith, length, subst, sym, take, get_or, get_or-take, rules}
use Rattle.ob_base.specs.Layout.{slot_cell}
use Rattle.ob_base.specs.Tree.{width}
use Rattle.ob_base.specs.declared.params.Params.{Params}
use Rattle.ob_base.proofs.Bounds.{cells_le, width_le}
use Rattle.ob_cells.specs.Windows.{IsSlotSealed}
use Rattle.ob_tables.specs.Buckets.{Buckets, version_at}
use Rattle.ob_tables.specs.Version.{Version}
use Rattle.ob_end.specs.EndWrites.{slot_plain, version_of}
use Rattle.ob_end.proofs.Products.{run_same, taken}
use Rattle.ob_end.proofs.filling.write_bucket.Goals as goal

pub write_ready-requires-clause-fits : goal.write_ready-requires-clause-fits
write_ready-requires-clause-fits g c =
    let long = taken (c.args.p.now.real + c.args.p.now.dummies) 48 c.args.slots.now (width_le c.args.p.now) (search rules) in
    omega (arith, c.slot_cell-first.ensures.within, cells_le c.args.p.now, width_le c.args.p.now, long)

pub returns-clause-run : goal.returns-clause-run
returns-clause-run g c =
    let p = c.args.p.now in
    let r = c.args.ring.now in
    let u = c.args.bucket in
    let s = c.args.sealer.now in
    let slots = c.args.slots.now in
    let wide = p.real + p.dummies in
    let long : length (take wide slots) ≡ wide = taken wide 48 slots (width_le p) (search rules) in
    let at : c.slot_cell-first.result ≡ slot_cell r.p (version_of r u).home u 0 =
    c.slot_cell-first.ensures.cell
    ∙ ap (λ h. slot_cell p h u 0) (c.home-home.ensures.home ∙ ap (λ (v : Version). v.home) (c.get.ensures ∙ ap (λ (m : Buckets). version_at m.versions u) c.tables.ensures.metas))
    ∙ ap (λ (q : Params). slot_cell q (version_of r u).home u 0) c.requires.params in
    let many : length (take wide slots) ≡ width r.p = long ∙ ap width c.requires.params in
    run_same _ _ _ _ _ _ _ _ _ _ at many (c.write_ready.ensures.run (λ i. slot_plain r u (i % 2 ^ 8)) (λ j lt.
    let low : j < wide = omega (arith, lt, long) in
    subst (λ (b : ℕ). IsSlotSealed s.keys (b + j) s.generation (s.next + j) (slot_plain r u (j % 2 ^ 8)) (get_or (take wide slots) j [])) (sym at)
    (subst (λ (b : List ℕ). IsSlotSealed s.keys (slot_cell r.p (version_of r u).home u 0 + j) s.generation (s.next + j) (slot_plain r u (j % 2 ^ 8)) b) (sym (get_or-take wide slots j [] low))
    (c.requires.sealed j (subst (λ (n : ℕ). j < n) (ap width c.requires.params) low)))))
