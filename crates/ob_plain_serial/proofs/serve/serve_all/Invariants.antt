use Rattle.std.proofs.Common.{◌≡◌, length, map, drop}
use Rattle.ob_serial.specs.Vaults.{VaultState}
use Rattle.ob_plain_serial.specs.VaultRuns.{call_of, answer_of, MayServeAll, AnsweredBy}
use Rattle.ob_plain_serial.proofs.serve.serve_all.Given as goal

abbrev pub invariant-loop-request : goal.invariant-loop-request
invariant-loop-request g l = record {
  params : g.V.Vault.params l.vault ≡ g.V.Vault.params l.fn.vault;
  may : MayServeAll (g.V.Vault.params l.fn.vault) (g.V.Vault.counts l.vault) (drop l.request-index l.requests);
  count : length l.replies.items ≡ l.request-index;
  holds : (v : VaultState) → g.V.Vault.holds l.fn.vault v → (mid : VaultState) × AnsweredBy v (map call_of l.requests) (map answer_of l.replies.items) mid × g.V.Vault.holds l.vault mid;
}
