use Rattle.std.proofs.Common.{◌∷◌, [], List, arith, ap, length-set, subst, sym, take, ◌∙◌}
use Rattle.std.proofs.lemmas.List.{take_more}
use Rattle.ob_base.specs.Planned.{job_at}
use Rattle.ob_store.specs.declared.event.Event.{Event}
use Rattle.ob_store.specs.declared.event.Event.TheVariants.{Read}
use Rattle.ob_store.specs.Calls.{Notes}
use Rattle.ob_store.proofs.Events.{joined}
use Rattle.ob_lanes.specs.Hands.{reads_of}
use Rattle.ob_lanes.specs.Windows.{claimed_at}
use Rattle.ob_lanes.proofs.Claiming.{reads_more}
use Rattle.ob_lanes.proofs.Windows.{cells_go_on}
use Rattle.ob_lanes.proofs.window.read_cells.Goals as goal

pub loop-i-preserved : goal.loop-i-preserved
loop-i-preserved g c =
    let was = c.loop-i.invariant in
    let read = c.read_cell.ensures in
    let before = was.later in
    let later = read.later in
    let few = c.requires.few in
    let lt = c.loop-i-test.true in
    let long = was.long in
    let many = c.told-places in
    let i = c.loop-i.i in
    let asked = c.args.asked.now in
    let places = c.args.places.now in record {
      read = cells_go_on (g.S.Store.disk c.args.store.now) (g.S.Store.lane_faults c.args.lane.now) (g.S.Store.lane_faults c.loop-i.lane) (g.S.Store.lane_faults c.read_cell.new.lane) i asked places c.loop-i.cells c.read_cell.new.cell was.read before later (omega (arith, few, lt, long)) read.read;
      seen = subst (λ (es : List Event). Notes es (g.S.Store.lane_seen c.args.lane.now) (g.S.Store.lane_seen c.read_cell.new.lane)) (sym (ap (reads_of asked) (take_more places i 0 (omega (arith, few, lt, many))) ∙ reads_more asked (take i places) (claimed_at places i)))
          (joined (reads_of asked (take i places)) (Read (job_at asked.jobs.now (claimed_at places i)).cell ∷ []) (g.S.Store.lane_seen c.args.lane.now) (g.S.Store.lane_seen c.loop-i.lane) (g.S.Store.lane_seen c.read_cell.new.lane) was.seen read.seen);
      later = omega (arith, before, later);
      long = length-set c.loop-i.cells i c.read_cell.new.cell ∙ long;
    }
