use Rattle.std.specs.Prelude.{◌<◌, All, take}
use Rattle.ob_ring_vault_tests.proofs.calls.are_low.Given as goal

abbrev pub invariant-loop-write : goal.invariant-loop-write
invariant-loop-write l = All (λ w. w.key < l.keys) (take l.write-index l.writes)
