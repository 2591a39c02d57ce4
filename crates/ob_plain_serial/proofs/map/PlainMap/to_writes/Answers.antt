use Rattle.std.proofs.Common.{◌≡◌, ◌∙◌, ◌++◌, sym, ap, subst, map}
use Rattle.std.proofs.lemmas.List.{append-nil}
use Rattle.std.proofs.lemmas.Map.Keys.{IsStrictlyIncreasing-from_sorted}
use Rattle.std.specs.List.Sorted.{IsStrictlyIncreasing}
use Rattle.std.specs.FinMap.{entries}
use Rattle.ob_serial.specs.VaultViews.{writes_of}
use Rattle.ob_plain_serial.proofs.Laid.{entries_of, as_write, keys_written}
use Rattle.ob_plain_serial.proofs.map.PlainMap.to_writes.Goals as goal

pub returns-clause-writes : goal.returns-clause-writes
returns-clause-writes c =
    let gives = c.into_iter-key-iterator.ensures.into_iter_gives in
    let whole : writes_of c.loop-key.writes.items ≡ map as_write c.self.inside.values.entries =
    sym (append-nil _) ∙ ap (λ rest. writes_of c.loop-key.writes.items ++ map as_write rest) (sym c.in-None.ensures.steps.0) ∙ c.loop-key.invariant ∙ ap (map as_write) gives.0 in
    whole ∙ ap (map as_write) (sym (entries_of c.self.inside.values.entries gives.5)) ∙ ap (λ m. map as_write (entries m)) c.self.view_is

pub returns-clause-rising : goal.returns-clause-rising
returns-clause-rising c =
    let gives = c.into_iter-key-iterator.ensures.into_iter_gives in
    let whole : writes_of c.loop-key.writes.items ≡ map as_write c.self.inside.values.entries =
    sym (append-nil _) ∙ ap (λ rest. writes_of c.loop-key.writes.items ++ map as_write rest) (sym c.in-None.ensures.steps.0) ∙ c.loop-key.invariant ∙ ap (map as_write) gives.0 in
    subst IsStrictlyIncreasing (sym (keys_written c.loop-key.writes.items c.self.inside.values.entries whole)) (IsStrictlyIncreasing-from_sorted _ gives.5)
