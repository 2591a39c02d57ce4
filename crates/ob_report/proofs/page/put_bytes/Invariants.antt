use Rattle.std.proofs.Common.{◌≤◌, ◌-◌, length, take}
use Rattle.ob_report.specs.Gathered.{gathered}
use Rattle.ob_report.proofs.Gathering.{IsWhole}
use Rattle.ob_report.proofs.page.put_bytes.Given as goal

abbrev pub invariant-loop-at : goal.invariant-loop-at
invariant-loop-at g l = record {
  within : l.at ≤ length l.bytes;
  whole : IsWhole (take l.at l.bytes) (gathered g.S.Sink l.fn.sink l.fn.page.items) (gathered g.S.Sink l.sink l.page.items);
}

abbrev pub decreases-loop-at : goal.decreases-loop-at
decreases-loop-at g l = length l.bytes - l.at
