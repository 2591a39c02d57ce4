use Rattle.std.specs.Prelude.{◌≡◌, ◌≢◌, ℕ, ◌<◌, take}
use Rattle.std.specs.declared.option.Option.TheVariants.{None}
use Rattle.std.specs.FinMap as finite
use Rattle.ob_ring.specs.Plain.{without}
use Rattle.ob_ring.proofs.plain.forget_keys.Given as goal

abbrev pub invariant-loop-i : goal.invariant-loop-i
invariant-loop-i l = ((k : ℕ) → finite.get l.stash.rows k ≢ None → k < l.p.keys) × (l.stash.room ≡ l.fn.stash.room) × (l.stash.rows ≡ without l.fn.stash.rows (take l.i l.keys))
