use Rattle.std.proofs.Common.{◌≡◌, ◌+◌, IsTrue, inl, arith, refl, subst, sym}
use Rattle.ob_end.specs.EndWrites.{all_seals, end_write_notes}
use Rattle.ob_seal.specs.declared.keys.Keys.{Keys}
use Rattle.ob_store.specs.Calls.{IsStoreFault, Notes}
use Rattle.ob_store.specs.Images.{LeavesOnly}
use Rattle.ob_store.proofs.Doing.{first_more}
use Rattle.ob_store.proofs.Serving.{on_ok, serves_err, serves_then}
use Rattle.ob_twin.proofs.Clear.{by_then, none_clear, set_clear}
use Rattle.ob_twin.specs.Clear.{InClearBy}
use Rattle.ob_twin.specs.Keyed.{tagging}
use Rattle.ob_twin.specs.Opening.{is_closed_first}
use Rattle.ob_twin.specs.Orders.{prepare_notes}
use Rattle.ob_twin.specs.Refused.{IsSetFault, SetLeaves}
use Rattle.ob_twin.specs.Register.{IsOpen, IsPut, StandsAt, place_of}
use Rattle.ob_twin.specs.declared.set_err.SetErr.TheVariants.{Before}
use Rattle.ob_twin.specs.declared.twin.Twin.TheVariants.{EPOCH}
use Rattle.ob_end.proofs.ActLaws.{set_moments, set_sealed, written_moments}
use Rattle.ob_end.proofs.CloseLaws.{close_tells, closed, gates_kept, if_written, is_ending, mid_stands, seals_all, set_fault, written_leaves}
use Rattle.ob_end.proofs.Spans.{set_spanned, unset_spanned}
use Rattle.ob_end.proofs.Stops.{set_stops, written_stops}
use Rattle.ob_stand.specs.Ends.{standing_after}
use Rattle.ob_store.specs.Told.{events_of}
use Rattle.ob_twin.proofs.Gating.{closed_of, open_of}
use Rattle.ob_twin.specs.Stages.{AreSetStages, StagesSet}
use Rattle.ob_twin.specs.Stops.{SetStops}
use Rattle.ob_end.proofs.closing.close_epoch.Goals as goal

pub returns-in-Err-clause-faults : goal.returns-in-Err-clause-faults
returns-in-Err-clause-faults g c = set_fault c.in-Err.fault c.in-Err.ensures.faults

pub returns-in-Err-clause-serves : goal.returns-in-Err-clause-serves
returns-in-Err-clause-serves g c =
    serves_err IsStoreFault (IsSetFault EPOCH c.args.epoch) (g.S.Store.disk c.args.store.now) (g.S.Store.disk c.write_end.new.store) c.in-Err.fault (Before c.in-Err.fault)
    (λ is. subst IsStoreFault (sym is) tt) c.in-Err.ensures.serves

pub returns-in-Err-clause-closes : goal.returns-in-Err-clause-closes
returns-in-Err-clause-closes g c = λ s end at tells synced stands is.
    let old = g.S.Store.disk c.args.store.now in
    let mid = g.S.Store.disk c.write_end.new.store in
    let keys = c.args.sealer.now.keys in
    let p = c.args.ring.now.p in
    let ending = is_ending keys p s end old mid is.follows tells synced stands (c.in-Err.ensures.writes s end at is).spare in
    let writing = written_leaves keys p s end old mid (g.met.S.Store.only_now c.args.store.now) ending in
    let closes = is_closed_first c.args.gates.now.epoch (place_of c.args.epoch) in
    record {
      ends = writing;
      spans = unset_spanned g.S.Store.disk keys p s (standing_after s end) closes (Notes (events_of (end_write_notes c.args.ring.now c.args.epoch))) c.args.store.now c.write_end.new.store c.write_end.ensures.moments writing;
    }

pub returns-in-Err-clause-does : goal.returns-in-Err-clause-does
returns-in-Err-clause-does g c =
    first_more _ _ _ _ (end_write_notes c.args.ring.now c.args.epoch) (prepare_notes (is_closed_first c.args.gates.now.epoch (place_of c.args.epoch)) 5 c.args.epoch) c.in-Err.ensures.does.first

pub returns-clause-seals : goal.returns-clause-seals
returns-clause-seals g c = seals_all (all_seals c.args.ring.now) c.args.sealer.now c.write_end.new.sealer _ c.set.result c.in-Ok.ensures.seals

pub returns-clause-closes : goal.returns-clause-closes
returns-clause-closes g c = λ s end at tells synced stands is.
    let old = g.S.Store.disk c.args.store.now in
    let mid = g.S.Store.disk c.write_end.new.store in
    let new = g.S.Store.disk c.set.new.store in
    let keys = c.args.sealer.now.keys in
    let p = c.args.ring.now.p in
    let writes = c.in-Ok.ensures.writes s end at is in
    let ending = is_ending keys p s end old mid is.follows tells synced stands writes.spare in
    let same : c.write_end.new.sealer.keys ≡ keys = c.in-Ok.ensures.seals.some.keys in
    let one : c.args.epoch ≡ s.epoch + 1 = omega (arith, at) in
    let told = c.in-Ok.ensures.serves.tells tells in
    let closes = is_closed_first c.args.gates.now.epoch (place_of c.args.epoch) in
    let only = g.met.S.Store.only_now c.args.store.now in
    let settled = c.in-Ok.ensures.durable tells in
    let same_first = c.write_end.ensures.first in
    let opened : IsTrue closes → IsOpen 5 mid.cells (place_of c.args.epoch) =
    (λ first. open_of (tagging keys) c.args.gates.now.epoch 5 s.epoch c.args.epoch mid.cells one (gates_kept c.args.gates.now.epoch old.cells mid.cells (same_first tells) (c.requires.told tells)) (mid_stands keys p s end old mid ending).epoch first) in
    record {
      ends = closed g.S.Store.disk (end_write_notes c.args.ring.now c.args.epoch) keys p s end c.args.store.now c.write_end.new.store c.set.new.store c.args.epoch (g.met.S.Store.only_now c.args.store.now) (g.met.S.Store.only_now c.write_end.new.store) at c.requires.epoch ending
          (writes.written tells) told (c.in-Ok.ensures.durable tells) c.in-Ok.ensures.does.all.seen c.set.result
          (subst (λ (x : Keys). LeavesOnly mid new (SetLeaves (tagging x) 5 mid.cells s.epoch c.args.epoch c.set.result)) same
          (c.set.ensures.old_or_new s.epoch one told (c.in-Ok.ensures.durable tells) (subst (λ (x : Keys). StandsAt (tagging x) 5 mid.cells s.epoch) (sym same) (mid_stands keys p s end old mid ending).epoch)))
          (on_ok _ _ c.set.result (λ put. subst (λ (x : Keys). IsPut (tagging x) 5 mid.cells c.args.epoch new.cells) same put) (c.set.ensures.done told));
      spans = set_spanned g.S.Store.disk keys p s end closes c.args.store.now c.write_end.new.store is.follows stands (writes.spare.rest tells) (writes.written tells) told settled (subst (λ e. IsTrue closes → IsOpen 5 mid.cells (place_of e)) at opened) (same_first tells)
          (Notes (events_of (end_write_notes c.args.ring.now c.args.epoch))) (StagesSet c.set.result) c.set.new.store c.in-Ok.ensures.does.all.seen c.write_end.ensures.moments (written_leaves keys p s end old mid only ending)
          (subst (λ e. AreSetStages g.S.Store.disk (tagging keys) closes 5 e (StagesSet c.set.result) c.write_end.new.store c.set.new.store) at
          (subst (λ (x : Keys). AreSetStages g.S.Store.disk (tagging x) closes 5 c.args.epoch (StagesSet c.set.result) c.write_end.new.store c.set.new.store) same c.set.ensures.moments.stages));
    }

pub returns-clause-does : goal.returns-clause-does
returns-clause-does g c =
    close_tells (end_write_notes c.args.ring.now c.args.epoch) (is_closed_first c.args.gates.now.epoch (place_of c.args.epoch)) c.args.epoch _ _ _ _ _ _ c.set.result c.in-Ok.ensures.does.all c.set.ensures.does

pub set-requires-clause-told : goal.set-requires-clause-told
set-requires-clause-told g c = λ told.
    gates_kept c.args.gates.now.epoch (g.S.Store.disk c.args.store.now).cells (g.S.Store.disk c.write_end.new.store).cells (c.in-Ok.ensures.first (c.in-Ok.ensures.serves.goes.told told)) (c.requires.told (c.in-Ok.ensures.serves.goes.told told))

pub returns-clause-rows : goal.returns-clause-rows
returns-clause-rows g c = if_written _ c.set.result c.in-Ok.ensures.rows

pub returns-in-Err-clause-sealed : goal.returns-in-Err-clause-sealed
returns-in-Err-clause-sealed g c = λ told. tt

pub returns-clause-sealed : goal.returns-clause-sealed
returns-clause-sealed g c = λ told.
    if_written _ c.set.result
    (set_sealed _ c.args.sealer.now c.write_end.new.sealer (g.S.Store.disk c.args.store.now).cells (g.S.Store.disk c.write_end.new.store).cells (g.S.Store.disk c.set.new.store).cells
    c.in-Ok.ensures.seals.some (c.in-Ok.ensures.sealed told) (c.set.ensures.rest (c.in-Ok.ensures.serves.tells told)))

pub returns-in-Err-clause-moments : goal.returns-in-Err-clause-moments
returns-in-Err-clause-moments g c = written_moments (g.S.Store.disk c.args.store.now) (g.S.Store.disk c.write_end.new.store) c.write_end.ensures.moments

pub returns-clause-moments : goal.returns-clause-moments
returns-clause-moments g c = set_moments (g.S.Store.disk c.args.store.now) (g.S.Store.disk c.write_end.new.store) (g.S.Store.disk c.set.new.store) c.write_end.ensures.moments c.set.ensures.passes

-- ---- all may be written

pub write_end-requires-clause-none_out : goal.write_end-requires-clause-none_out
write_end-requires-clause-none_out g c κs inside = c.requires.none_out

pub write_end-requires-clause-params : goal.write_end-requires-clause-params
write_end-requires-clause-params g c κs inside = c.requires.params

pub write_end-requires-clause-epoch : goal.write_end-requires-clause-epoch
write_end-requires-clause-epoch g c κs inside = c.requires.epoch

pub write_end-requires-clause-generation : goal.write_end-requires-clause-generation
write_end-requires-clause-generation g c κs inside = c.requires.generation

pub write_end-requires-clause-within : goal.write_end-requires-clause-within
write_end-requires-clause-within g c κs inside = c.requires.within

pub write_end-requires-clause-room : goal.write_end-requires-clause-room
write_end-requires-clause-room g c κs inside = c.requires.room

pub write_end-requires-clause-sealed : goal.write_end-requires-clause-sealed
write_end-requires-clause-sealed g c κs inside = c.requires.sealed

pub write_end-requires-clause-obeys : goal.write_end-requires-clause-obeys
write_end-requires-clause-obeys g c κs inside = c.requires.obeys

pub write_end-requires-clause-sheet : goal.write_end-requires-clause-sheet
write_end-requires-clause-sheet g c κs inside = c.requires.sheet

pub set-requires-clause-none_out : goal.set-requires-clause-none_out
set-requires-clause-none_out g c = (let none = c.requires.none_out in let out = c.in-Ok.ensures.serves.out in omega arith)

pub set-requires-clause-small : goal.set-requires-clause-small
set-requires-clause-small g c = c.requires.epoch

-- ---- what the writes and the register say

pub returns-clause-serves : goal.returns-clause-serves
returns-clause-serves g c =
    let first = c.in-Ok.ensures.serves in
    serves_then (IsSetFault EPOCH c.args.epoch) (g.S.Store.disk c.args.store.now) (g.S.Store.disk c.write_end.new.store) (g.S.Store.disk c.set.new.store) c.set.result first.goes first.out first.tells c.set.ensures.serves

pub returns-clause-faults : goal.returns-clause-faults
returns-clause-faults g c = c.set.ensures.faults

pub returns-clause-gates : goal.returns-clause-gates
returns-clause-gates g c = c.set.ensures.gates

pub returns-clause-tell : goal.returns-clause-tell
returns-clause-tell g c = λ told. c.set.ensures.tell (c.in-Ok.ensures.serves.tells told)

pub returns-clause-durable : goal.returns-clause-durable
returns-clause-durable g c = λ told. c.set.ensures.durable (c.in-Ok.ensures.serves.tells told)

pub returns-in-Err-clause-gates : goal.returns-in-Err-clause-gates
returns-in-Err-clause-gates g c = refl

pub returns-in-Err-clause-seals : goal.returns-in-Err-clause-seals
returns-in-Err-clause-seals g c = record { all = tt; some = c.in-Err.ensures.seals.some }

pub returns-in-Err-clause-kept : goal.returns-in-Err-clause-kept
returns-in-Err-clause-kept g c = c.write_end.ensures.kept

pub returns-in-Err-clause-room : goal.returns-in-Err-clause-room
returns-in-Err-clause-room g c = c.write_end.ensures.room

pub returns-in-Err-clause-sheet : goal.returns-in-Err-clause-sheet
returns-in-Err-clause-sheet g c = c.write_end.ensures.sheet

pub returns-clause-kept : goal.returns-clause-kept
returns-clause-kept g c = c.write_end.ensures.kept

pub returns-clause-room : goal.returns-clause-room
returns-clause-room g c = c.write_end.ensures.room

pub returns-clause-sheet : goal.returns-clause-sheet
returns-clause-sheet g c = c.write_end.ensures.sheet

-- ---- in the clear

pub returns-in-Err-clause-clear : goal.returns-in-Err-clause-clear
returns-in-Err-clause-clear g c = λ tells cell low. inl (inl (c.write_end.ensures.first (c.write_end.ensures.serves.goes.told tells) cell (omega (arith, low))))

pub returns-clause-clear : goal.returns-clause-clear
returns-clause-clear g c = λ tells.
    let keys = c.args.sealer.now.keys in
    let old = (g.S.Store.disk c.args.store.now).cells in
    let mid = (g.S.Store.disk c.write_end.new.store).cells in
    let new = g.S.Store.disk c.set.new.store in
    let there = c.set.ensures.serves.goes.told tells in
    let here = c.write_end.ensures.serves.goes.told there in
    by_then (tagging keys) old mid new.cells (none_clear (tagging keys) old mid (λ cell low. c.write_end.ensures.first here cell (omega (arith, low)))) new.seen c.set.result
    (subst (λ (x : Keys). InClearBy (tagging x) new.seen mid new.cells c.set.result) c.in-Ok.ensures.seals.some.keys
    (set_clear (tagging c.write_end.new.sealer.keys) EPOCH c.args.epoch (is_closed_first c.args.gates.now.epoch (place_of c.args.epoch)) new.seen mid new.cells c.requires.epoch c.set.result (c.set.ensures.done there) (c.set.ensures.refused tells)))

-- ---- what is left of the register, by the notes

pub returns-in-Err-clause-stops : goal.returns-in-Err-clause-stops
returns-in-Err-clause-stops g c =
    let old = g.S.Store.disk c.args.store.now in
    written_stops c.args.sealer.now.keys (end_write_notes c.args.ring.now c.args.epoch) (is_closed_first c.args.gates.now.epoch (place_of c.args.epoch)) c.args.epoch old (g.S.Store.disk c.write_end.new.store)
    (g.W.Watch.trace c.args.watch.now) (g.W.Watch.trace c.write_end.new.watch) c.in-Err.ensures.does.first c.write_end.ensures.moments
    (λ tells. closed_of c.args.gates.now.epoch 5 c.args.epoch old.cells (c.requires.told tells))

pub returns-clause-stops : goal.returns-clause-stops
returns-clause-stops g c =
    let keys = c.args.sealer.now.keys in
    let closes = is_closed_first c.args.gates.now.epoch (place_of c.args.epoch) in
    let old = g.S.Store.disk c.args.store.now in
    let mid = g.S.Store.disk c.write_end.new.store in
    let new = g.S.Store.disk c.set.new.store in
    let between = g.W.Watch.trace c.write_end.new.watch in
    let after = g.W.Watch.trace c.set.new.watch in
    set_stops keys (end_write_notes c.args.ring.now c.args.epoch) closes c.args.epoch old mid new (g.W.Watch.trace c.args.watch.now) between after c.in-Ok.ensures.does.all c.in-Ok.ensures.serves.tells
    (λ tells settled. c.in-Ok.ensures.durable tells) c.write_end.ensures.first c.set.result
    (subst (λ (x : Keys). SetStops (tagging x) closes 5 c.args.epoch mid new between after c.set.result) c.in-Ok.ensures.seals.some.keys c.set.ensures.stops)
