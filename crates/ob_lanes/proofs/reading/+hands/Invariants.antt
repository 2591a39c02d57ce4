use Rattle.std.proofs.Common.{length, ◌+◌, ◌*◌}
use Rattle.ob_lanes.proofs.reading.+hands.Given as goal

abbrev pub decreases-read_apart-here : goal.decreases-read_apart-here
decreases-read_apart-here g l = 3 * length l.rest.now + 1

abbrev pub decreases-read_apart : goal.decreases-read_apart
decreases-read_apart g l = 3 * length l.rest.now + 2

abbrev pub decreases-read_hands : goal.decreases-read_hands
decreases-read_hands g l = 3 * length l.hands.now
