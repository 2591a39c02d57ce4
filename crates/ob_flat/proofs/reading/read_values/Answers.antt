use Rattle.std.proofs.Common.{◌≡◌, ℕ, List, Option, length, sym, subst, drop, rules}
use Rattle.std.proofs.lemmas.List.{take_at}
use Rattle.ob_flat.specs.Reads.{AreRowsRead}
use Rattle.ob_flat.proofs.reading.read_values.Goals as goal

pub returns-clause-value : goal.returns-clause-value
returns-clause-value g c = λ tells.
    let new = c.read_rows.new.values in
    let whole : length new ≡ c.args.values.now.len = search rules in
    subst (λ (values : List (Option (List ℕ))). AreRowsRead c.args.sealer.now.keys c.args.base (g.S.Store.disk c.args.store.now).cells values c.read_rows.result)
    (sym (take_at new (drop (length new) c.args.values.now.items) c.args.values.now.len whole)) (c.read_rows.ensures.value tells)
