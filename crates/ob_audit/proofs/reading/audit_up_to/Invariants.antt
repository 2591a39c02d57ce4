use Rattle.std.proofs.Common.{◌≡◌, ◌≤◌, ◌-◌, ℕ, List}
use Rattle.ob_io.specs.Flows.{prepended}
use Rattle.ob_audit.specs.Reader.{HasReadLines}
use Rattle.ob_audit.proofs.reading.audit_up_to.Given as goal

abbrev pub invariant-loop-audit : goal.invariant-loop-audit
invariant-loop-audit g l = record {
  within : l.reader.len ≤ 97;
  few : l.reader.lines ≤ l.reader.seen;
  seen : l.reader.seen ≤ l.limit;
  later : g.I.Source.faults l.fn.source ≤ g.I.Source.faults l.source;
  read : (bytes : List ℕ) × (g.I.Source.left l.fn.source ≡ prepended bytes (g.I.Source.left l.source)) × HasReadLines l.reader bytes;
}

abbrev pub decreases-loop-audit : goal.decreases-loop-audit
decreases-loop-audit g l = l.limit - l.reader.seen
