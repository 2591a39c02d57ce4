use Rattle.std.specs.Prelude.{ℕ, drop, false}
use Rattle.ob_plain_serial.specs.VaultRuns.{MayServeAll}
use Rattle.ob_ring_vault_tests.proofs.calls.may_serve_all.Given as goal

abbrev pub invariant-loop-request : goal.invariant-loop-request
invariant-loop-request l = ((epoch : ℕ) → MayServeAll l.p (record { epoch = epoch; left = l.left; spent = false }) (drop l.request-index l.requests)) → (epoch : ℕ) → MayServeAll l.p (record { epoch = epoch; left = l.fn.left; spent = false }) l.requests
