use Rattle.std.proofs.Common.{◌≡◌, take}
use Rattle.std.specs.Ordering.{nat_cmp}
use Rattle.ob_serial.specs.Serial.{Replays, after_ops}
use Rattle.ob_plain_serial.proofs.plain.replay_ops.Given as goal

abbrev pub invariant-loop-op : goal.invariant-loop-op
invariant-loop-op l = record {
  replays : Replays nat_cmp l.fn.values (take l.op-index l.ops);
  after_is : l.values ≡ after_ops nat_cmp l.fn.values (take l.op-index l.ops);
}
