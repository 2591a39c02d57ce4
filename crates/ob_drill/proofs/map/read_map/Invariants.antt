use Rattle.std.proofs.Common.{◌≡◌, ◌≤◌, ◌-◌, ◌*◌, false}
use Rattle.std.specs.FinMap.{get}
use Rattle.ob_serial.specs.Vaults.{VaultState}
use Rattle.ob_serial.specs.VaultKinds.{kind_of}
use Rattle.ob_drill.specs.Reading.{ReadsOnly}
use Rattle.ob_drill.specs.Gathered.{HasRows}
use Rattle.ob_drill.proofs.map.read_map.Given as goal

abbrev pub invariant-loop-next : goal.invariant-loop-next
invariant-loop-next g l = record {
  params : g.V.Vault.params l.vault ≡ l.params;
  serves : (g.V.Vault.counts l.vault).spent ≡ false;
  inside : l.next ≤ l.params.keys;
  few : l.rows.many ≤ l.next;
  rows : (v : VaultState) → g.V.Vault.holds l.fn.vault v → HasRows (get v.content) l.next l.rows;
  reads : ReadsOnly (kind_of g.V.Vault) (2 * l.next) l.fn.vault (g.W.Watch.trace l.fn.watch) l.vault (g.W.Watch.trace l.watch);
}

abbrev pub decreases-loop-next : goal.decreases-loop-next
decreases-loop-next g l = l.params.keys - l.next
