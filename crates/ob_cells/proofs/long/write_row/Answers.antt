use Rattle.std.proofs.Common.{rules, ◌≡◌, ◌+◌, ℕ, List, [], arith, get_or, get_or-take, length, subst, sym, take}
use Rattle.std.proofs.lemmas.List.{length-take-le}
use Rattle.ob_cells.specs.Windows.{IsSlotSealed}
use Rattle.ob_cells.specs.Writes.{WritesRun}
use Rattle.ob_cells.proofs.long.write_row.Goals as goal

pub returns-clause-run : goal.returns-clause-run
returns-clause-run g c = λ plain are.
    let s = c.args.sealer.now in
    let base = c.args.base in
    let few = c.args.few in
    let row = c.args.row.now in
    let whole : length row ≡ 48 = search rules in
    let long : length (take few row) ≡ few = length-take-le few row (omega (arith, whole, c.requires.low)) in
    subst (λ (n : ℕ). WritesRun base n plain s c.write_ready.new.sealer (g.S.Store.disk c.args.store.now) (g.S.Store.disk c.write_ready.new.store) c.write_ready.result) long
    (c.write_ready.ensures.run plain (λ j lt.
    subst (λ (b : List ℕ). IsSlotSealed s.keys (base + j) s.generation (s.next + j) (plain j) b) (sym (get_or-take few row j [] (omega (arith, lt, long)))) (are j (omega (arith, lt, long)))))
