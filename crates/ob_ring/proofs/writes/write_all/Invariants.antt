use Rattle.std.specs.Prelude.{◌≡◌, ◌≢◌, ℕ, ◌<◌}
use Rattle.std.specs.declared.option.Option.TheVariants.{None}
use Rattle.std.specs.FinMap as finite
use Rattle.ob_ring.specs.Writing.{Writes, writes_of}
use Rattle.ob_ring.proofs.writes.write_all.Given as goal

abbrev pub invariant-loop-i : goal.invariant-loop-i
invariant-loop-i l = ((k : ℕ) → finite.get l.stash.rows k ≢ None → k < l.p.keys) × (l.stash.room ≡ l.fn.stash.room) × Writes l.p l.fn.book l.book l.fn.metas l.metas l.fn.stash.rows l.stash.rows (writes_of l.p l.writes l.words l.first l.i)
