use Rattle.std.proofs.Common.{arith}
use Rattle.ob_lanes.proofs.Claiming.{begins}
use Rattle.ob_lanes.proofs.Windows.{reads_on, reads_window, window_read}
use Rattle.ob_lanes.proofs.reading.read_claimed.Goals as goal

pub loop-places-init : goal.loop-places-init
loop-places-init g c = begins _ _ _ _ _ _ _ c.requires.ready

pub returns-then-many-most-clause-read : goal.returns-then-many-most-clause-read
returns-then-many-most-clause-read g c =
    let window = window_read (g.S.Store.disk c.args.store.now) g.S.Store.lane_seen g.S.Store.lane_faults c.args.claims.now c.args.round.now c.args.asked.now c.loop-places.hand c.claim_some-many.new.seat c.read_cells.new.lane c.open_cells.new.part c.places_at_once-most.result c.claim_some-many.result c.claim_some-many.new.places c.read_cells.new.cells
    c.requires.jobs c.claim_some-many.ensures.few c.places_at_once-most.ensures.few c.claim_some-many.array_long c.claim_some-many.ensures.drawn c.read_cells.ensures.seen c.read_cells.ensures.later c.read_cells.ensures.read c.open_cells.ensures.opened c.open_cells.ensures.room in
    reads_window (g.S.Store.disk c.args.store.now) g.S.Store.lane_seen g.S.Store.lane_faults c.args.claims.now c.args.round.now c.args.asked.now c.args.hand.now c.loop-places.hand c.claim_some-many.new.seat c.read_cells.new.lane c.open_cells.new.part c.places_at_once-most.result c.claim_some-many.result c.claim_some-many.new.places c.read_cells.new.cells
    c.loop-places.invariant window

pub loop-places-preserved : goal.loop-places-preserved
loop-places-preserved g c =
    let window = window_read (g.S.Store.disk c.args.store.now) g.S.Store.lane_seen g.S.Store.lane_faults c.args.claims.now c.args.round.now c.args.asked.now c.loop-places.hand c.claim_some-many.new.seat c.read_cells.new.lane c.open_cells.new.part c.places_at_once-most.result c.claim_some-many.result c.claim_some-many.new.places c.read_cells.new.cells
    c.requires.jobs c.claim_some-many.ensures.few c.places_at_once-most.ensures.few c.claim_some-many.array_long c.claim_some-many.ensures.drawn c.read_cells.ensures.seen c.read_cells.ensures.later c.read_cells.ensures.read c.open_cells.ensures.opened c.open_cells.ensures.room in
    let not = c.if-many-most.false in
    reads_on (g.S.Store.disk c.args.store.now) g.S.Store.lane_seen g.S.Store.lane_faults c.args.claims.now c.args.round.now c.args.asked.now c.args.hand.now c.loop-places.hand c.claim_some-many.new.seat c.read_cells.new.lane c.open_cells.new.part c.places_at_once-most.result c.claim_some-many.result c.claim_some-many.new.places c.read_cells.new.cells
    c.loop-places.invariant window (omega (arith, not))
