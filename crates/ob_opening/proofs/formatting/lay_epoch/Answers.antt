use Rattle.std.proofs.Common.{◌≡◌, ◌≤◌, ◌*◌, ◌+◌, ◌^◌, OnOk, inl, inr, [], ◌∷◌, ◌++◌, true, ap, arith, Err, ◌∙◌, subst}
use Rattle.ob_base.specs.Layout.{checkpoint_cells, slot_cell}
use Rattle.ob_base.specs.Tree.{buckets, width}
use Rattle.ob_store.specs.declared.watch.Note.TheVariants.{Sync}
use Rattle.ob_store.specs.Runs.{write_notes}
use Rattle.ob_store.proofs.Serving.{if_ok, serves_then}
use Rattle.ob_store.proofs.Moments.{passed_still}
use Rattle.ob_store.proofs.Doing.{does_err, does_then, first_more, first_behind, sync_cut}
use Rattle.ob_seal.specs.Sealing.{Sealing}
use Rattle.ob_check.specs.Written.{area_of}
use Rattle.ob_start.specs.Laying.{SameHead}
use Rattle.ob_start.proofs.Clearing.{head_then, outside_head}
use Rattle.ob_twin.specs.Orders.{set_notes}
use Rattle.ob_opening.specs.Formats.{epoch_notes}
use Rattle.ob_opening.proofs.EpochLaws.{before_both, before_slots, cells_fit, checkpoint_kept, closed_still, cut_short, held_off, off_head, seals_left, slots_laid, slots_many, slots_told, some_buckets, slots_first}
use Rattle.ob_check.specs.Written as check
use Rattle.ob_seal.specs.declared.keys.Keys.{Keys}
use Rattle.ob_tables.specs.Content.{content_of}
use Rattle.ob_twin.specs.Clear.{InClearBy}
use Rattle.ob_twin.proofs.Clear.{by_then, none_clear}
use Rattle.ob_twin.specs.Keyed.{tagging}
use Rattle.ob_twin.specs.Register.{StandsAt}
use Rattle.ob_store.specs.Calls.{IsFailed}
use Rattle.ob_opening.proofs.formatting.lay_epoch.Goals as goal

pub slot_cell-requires-clause-bucket : goal.slot_cell-requires-clause-bucket
slot_cell-requires-clause-bucket g c = some_buckets c.args.p.now

pub write_long-requires-clause-fits : goal.write_long-requires-clause-fits
write_long-requires-clause-fits g c κs inside = cells_fit c.args.p.now c.slot_cell.result c.buckets.result c.slot_cell.ensures.cell c.buckets.ensures.buckets

pub returns-in-Err-write-clause-serves : goal.returns-in-Err-write-clause-serves
returns-in-Err-write-clause-serves g c =
    let a = c.in-Ok.ensures.serves in
    let p = c.args.p.now in
    let next : c.write_long.new.sealer.next ≡ c.args.sealer.now.next + c.buckets.result * (p.real + p.dummies) = ap (λ (s : Sealing). s.next) c.in-Ok.ensures.run.seals.all in
    let few : c.write_long.new.sealer.next + checkpoint_cells p ≤ 2 ^ 62 = omega (arith, next, seals_left p c.args.sealer.now.next c.buckets.result c.requires.first c.buckets.ensures.buckets) in
    cut_short p c.write_long.new.sealer.next (g.S.Store.disk c.args.store.now) (g.S.Store.disk c.write_long.new.store) (g.S.Store.disk c.write.new.store) c.in-Err-write.field-0 a.goes a.out few c.in-Err-write.ensures.faults c.in-Err-write.ensures.serves

pub returns-in-Err-write-clause-passes : goal.returns-in-Err-write-clause-passes
returns-in-Err-write-clause-passes g c =
    let p = c.args.p.now in
    let old = g.S.Store.disk c.args.store.now in
    let laid = g.S.Store.disk c.write_long.new.store in
    let new = g.S.Store.disk c.write.new.store in
    head_then old laid new (off_head c.slot_cell.result (c.buckets.result * (p.real + p.dummies)) old laid (omega (arith, c.slot_cell.ensures.cell)) c.write_long.ensures.run.within.passes)
    (off_head (area_of p 0) (checkpoint_cells p) laid new (omega arith) c.write.ensures.passes)

pub returns-in-Err-write-clause-does : goal.returns-in-Err-write-clause-does
returns-in-Err-write-clause-does g c =
    let p = c.args.p.now in
    let first = slots_told p c.slot_cell.result c.buckets.result _ _ _ _ c.slot_cell.ensures.cell c.buckets.ensures.buckets c.in-Ok.ensures.does.all in
    does_err _ _ _ _ (epoch_notes p) (record {})
    (first_behind _ _ _ _ _ _ (write_notes (slot_cell p 0 0 0) (buckets p * width p)) (write_notes (area_of p 0) (checkpoint_cells p) ++ ((Sync ∷ []) ++ set_notes true 5 0)) first
    (first_more _ _ _ _ (write_notes (area_of p 0) (checkpoint_cells p)) ((Sync ∷ []) ++ set_notes true 5 0) c.in-Err-write.ensures.does.first))

pub returns-in-Err-sync_noted-clause-passes : goal.returns-in-Err-sync_noted-clause-passes
returns-in-Err-sync_noted-clause-passes g c =
    let p = c.args.p.now in
    let old = g.S.Store.disk c.args.store.now in
    let laid = g.S.Store.disk c.write_long.new.store in
    let written = g.S.Store.disk c.write.new.store in
    passed_still SameHead old written (g.S.Store.disk c.sync_noted.new.store)
    (head_then old laid written (off_head c.slot_cell.result (c.buckets.result * (p.real + p.dummies)) old laid (omega (arith, c.slot_cell.ensures.cell)) c.write_long.ensures.run.within.passes)
    (off_head (area_of p 0) (checkpoint_cells p) laid written (omega arith) c.write.ensures.passes))
    c.sync_noted.ensures.serves.goes c.sync_noted.ensures.time c.sync_noted.ensures.crash c.sync_noted.ensures.keeps

pub returns-in-Err-sync_noted-clause-does : goal.returns-in-Err-sync_noted-clause-does
returns-in-Err-sync_noted-clause-does g c =
    let p = c.args.p.now in
    let first = slots_told p c.slot_cell.result c.buckets.result _ _ _ _ c.slot_cell.ensures.cell c.buckets.ensures.buckets c.in-Ok.ensures.does.all in
    does_err _ _ _ _ (epoch_notes p) c.in-Err-sync_noted.failed
    (first_behind _ _ _ _ _ _ (write_notes (slot_cell p 0 0 0) (buckets p * width p)) (write_notes (area_of p 0) (checkpoint_cells p) ++ ((Sync ∷ []) ++ set_notes true 5 0)) first
    (first_behind _ _ _ _ _ _ (write_notes (area_of p 0) (checkpoint_cells p)) ((Sync ∷ []) ++ set_notes true 5 0) c.in-Ok-write.ensures.does.all (sync_cut (set_notes true 5 0) _ _ _ _ c.in-Err-sync_noted.ensures.told)))

pub returns-clause-slots : goal.returns-clause-slots
returns-clause-slots g c = λ tells.
    let p = c.args.p.now in
    let s = c.args.sealer.now in
    let a = c.in-Ok.ensures in
    let one = a.serves.tells tells in
    let two = c.in-Ok-write.ensures.serves.tells one in
    let keeps = c.sync_noted.ensures.keeps in
    let laid = slots_laid s.keys p c.slot_cell.result c.buckets.result s.generation s.next (g.S.Store.disk c.write_long.new.store).cells c.slot_cell.ensures.cell c.buckets.ensures.buckets c.requires.first (a.run.written tells) in
    if_ok _ c.set_first.result
    (held_off s.keys p s.generation (g.S.Store.disk c.write_long.new.store).cells (g.S.Store.disk c.write.new.store).cells (g.S.Store.disk c.sync_noted.new.store).cells (g.S.Store.disk c.set_first.new.store).cells
    laid (c.write.ensures.rest one) (keeps.cells two) (c.set_first.ensures.rest (keeps.tells two)))

pub returns-clause-passes : goal.returns-clause-passes
returns-clause-passes g c =
    let p = c.args.p.now in
    let old = g.S.Store.disk c.args.store.now in
    let laid = g.S.Store.disk c.write_long.new.store in
    let written = g.S.Store.disk c.write.new.store in
    let sure = g.S.Store.disk c.sync_noted.new.store in
    let new = g.S.Store.disk c.set_first.new.store in
    head_then old sure new
    (passed_still SameHead old written sure
    (head_then old laid written (off_head c.slot_cell.result (c.buckets.result * (p.real + p.dummies)) old laid (omega (arith, c.slot_cell.ensures.cell)) c.write_long.ensures.run.within.passes)
    (off_head (area_of p 0) (checkpoint_cells p) laid written (omega arith) c.write.ensures.passes))
    c.sync_noted.ensures.serves.goes c.sync_noted.ensures.time c.sync_noted.ensures.crash c.sync_noted.ensures.keeps)
    (outside_head 5 sure new (omega arith) c.set_first.ensures.passes)

pub returns-clause-does : goal.returns-clause-does
returns-clause-does g c =
    let p = c.args.p.now in
    let first = slots_told p c.slot_cell.result c.buckets.result _ _ _ _ c.slot_cell.ensures.cell c.buckets.ensures.buckets c.in-Ok.ensures.does.all in
    does_then _ _ _ _ _ _ (write_notes (slot_cell p 0 0 0) (buckets p * width p)) (write_notes (area_of p 0) (checkpoint_cells p) ++ ((Sync ∷ []) ++ set_notes true 5 0)) c.set_first.result first
    (does_then _ _ _ _ _ _ (write_notes (area_of p 0) (checkpoint_cells p)) ((Sync ∷ []) ++ set_notes true 5 0) c.set_first.result c.in-Ok-write.ensures.does.all
    (does_then _ _ _ _ _ _ (Sync ∷ []) (set_notes true 5 0) c.set_first.result c.in-Ok-sync_noted.ensures.told c.set_first.ensures.does))

pub returns-in-Err-clause-serves : goal.returns-in-Err-clause-serves
returns-in-Err-clause-serves g c = c.in-Err.ensures.serves

pub returns-in-Err-sync_noted-clause-serves : goal.returns-in-Err-sync_noted-clause-serves
returns-in-Err-sync_noted-clause-serves g c =
    let first = c.write_long.ensures.serves in
    let second = c.write.ensures.serves in
    serves_then IsFailed _ (g.S.Store.disk c.write_long.new.store) _ (Err c.in-Err-sync_noted.failed) first.goes first.out c.in-Ok.ensures.serves.tells
    (serves_then IsFailed _ (g.S.Store.disk c.write.new.store) _ (Err c.in-Err-sync_noted.failed) second.goes second.out c.in-Ok-write.ensures.serves.tells c.in-Err-sync_noted.ensures.serves)

pub returns-clause-serves : goal.returns-clause-serves
returns-clause-serves g c =
    let first = c.write_long.ensures.serves in
    let second = c.write.ensures.serves in
    let third = c.sync_noted.ensures.serves in
    serves_then IsFailed _ (g.S.Store.disk c.write_long.new.store) _ c.set_first.result first.goes first.out c.in-Ok.ensures.serves.tells
    (serves_then IsFailed _ (g.S.Store.disk c.write.new.store) _ c.set_first.result second.goes second.out c.in-Ok-write.ensures.serves.tells
    (serves_then IsFailed _ (g.S.Store.disk c.sync_noted.new.store) _ c.set_first.result third.goes third.out c.in-Ok-sync_noted.ensures.serves.tells c.set_first.ensures.serves))

pub returns-in-Err-clause-passes : goal.returns-in-Err-clause-passes
returns-in-Err-clause-passes g c =
    let p = c.args.p.now in
    off_head c.slot_cell.result (c.buckets.result * (p.real + p.dummies)) _ _ (omega (arith, c.slot_cell.ensures.cell)) c.write_long.ensures.run.within.passes

pub returns-in-Err-clause-does : goal.returns-in-Err-clause-does
returns-in-Err-clause-does g c =
    let p = c.args.p.now in
    does_err _ _ _ _ (epoch_notes p) c.in-Err.failed
    (first_more _ _ _ _ (write_notes (slot_cell p 0 0 0) (buckets p * width p)) (write_notes (area_of p 0) (checkpoint_cells p) ++ ((Sync ∷ []) ++ set_notes true 5 0))
    (slots_first p c.slot_cell.result c.buckets.result _ _ _ _ c.slot_cell.ensures.cell c.buckets.ensures.buckets c.in-Err.ensures.does.first))

-- ---- the slots and the checkpoint may be written, and the epoch set

pub write_long-requires-clause-none_out : goal.write_long-requires-clause-none_out
write_long-requires-clause-none_out g c κs inside = c.requires.none_out

pub write_long-requires-clause-room : goal.write_long-requires-clause-room
write_long-requires-clause-room g c κs inside = omega (arith, seals_left c.args.p.now c.args.sealer.now.next c.buckets.result c.requires.first c.buckets.ensures.buckets)

pub write-requires-clause-none_out : goal.write-requires-clause-none_out
write-requires-clause-none_out g c κs inside = (let none = c.requires.none_out in let out = c.write_long.ensures.serves.out in omega arith)

pub write-requires-clause-obeys : goal.write-requires-clause-obeys
write-requires-clause-obeys g c κs inside = c.requires.obeys

pub write-requires-clause-sheet : goal.write-requires-clause-sheet
write-requires-clause-sheet g c κs inside = c.requires.sheet

pub set_first-requires-clause-none_out : goal.set_first-requires-clause-none_out
set_first-requires-clause-none_out g c = (let none = c.requires.none_out in let first = c.write_long.ensures.serves.out in let second = c.write.ensures.serves.out in let third = c.sync_noted.ensures.serves.out in omega arith)

pub set_first-requires-clause-closed : goal.set_first-requires-clause-closed
set_first-requires-clause-closed g c = λ told.
    let tells = c.write_long.ensures.serves.goes.told (c.write.ensures.serves.goes.told (c.sync_noted.ensures.serves.goes.told told)) in
    let one = c.in-Ok.ensures.serves.tells tells in
    let two = c.in-Ok-write.ensures.serves.tells one in
    let keeps = c.sync_noted.ensures.keeps in
    closed_still _ _ (λ k low. keeps.cells two k ∙ before_both c.args.p.now c.slot_cell.result _ k _ _ _ c.slot_cell.ensures.cell (omega (arith, low)) (c.write.ensures.rest one) (c.write_long.ensures.run.within.rest tells)) (c.requires.closed tells)

-- ---- the cells before the checkpoints, and the keys

pub returns-in-Err-clause-same_keys : goal.returns-in-Err-clause-same_keys
returns-in-Err-clause-same_keys g c = c.write_long.ensures.run.seals.some.keys

pub returns-in-Err-clause-low : goal.returns-in-Err-clause-low
returns-in-Err-clause-low g c = λ tells k low. before_slots c.args.p.now c.slot_cell.result _ k _ _ c.slot_cell.ensures.cell (omega (arith, low)) (c.write_long.ensures.run.within.rest tells)

pub returns-in-Err-clause-log : goal.returns-in-Err-clause-log
returns-in-Err-clause-log g c = λ tells k from low. before_slots c.args.p.now c.slot_cell.result _ k _ _ c.slot_cell.ensures.cell low (c.write_long.ensures.run.within.rest tells)

pub returns-in-Err-write-clause-same_keys : goal.returns-in-Err-write-clause-same_keys
returns-in-Err-write-clause-same_keys g c = c.write.ensures.some_sealed.keys ∙ c.write_long.ensures.run.seals.some.keys

pub returns-in-Err-write-clause-low : goal.returns-in-Err-write-clause-low
returns-in-Err-write-clause-low g c = λ tells k low.
    let one = c.in-Ok.ensures.serves.tells tells in
    before_both c.args.p.now c.slot_cell.result _ k _ _ _ c.slot_cell.ensures.cell (omega (arith, low)) (c.write.ensures.rest one) (c.write_long.ensures.run.within.rest tells)

pub returns-in-Err-write-clause-log : goal.returns-in-Err-write-clause-log
returns-in-Err-write-clause-log g c = λ tells k from low.
    let one = c.in-Ok.ensures.serves.tells tells in
    before_both c.args.p.now c.slot_cell.result _ k _ _ _ c.slot_cell.ensures.cell low (c.write.ensures.rest one) (c.write_long.ensures.run.within.rest tells)

pub returns-in-Err-sync_noted-clause-same_keys : goal.returns-in-Err-sync_noted-clause-same_keys
returns-in-Err-sync_noted-clause-same_keys g c = c.write.ensures.some_sealed.keys ∙ c.write_long.ensures.run.seals.some.keys

pub returns-in-Err-sync_noted-clause-low : goal.returns-in-Err-sync_noted-clause-low
returns-in-Err-sync_noted-clause-low g c = λ tells k low.
    let one = c.in-Ok.ensures.serves.tells tells in
    let two = c.in-Ok-write.ensures.serves.tells one in
    let keeps = c.sync_noted.ensures.keeps in
    keeps.cells two k ∙ before_both c.args.p.now c.slot_cell.result _ k _ _ _ c.slot_cell.ensures.cell (omega (arith, low)) (c.write.ensures.rest one) (c.write_long.ensures.run.within.rest tells)

pub returns-in-Err-sync_noted-clause-log : goal.returns-in-Err-sync_noted-clause-log
returns-in-Err-sync_noted-clause-log g c = λ tells k from low.
    let one = c.in-Ok.ensures.serves.tells tells in
    let two = c.in-Ok-write.ensures.serves.tells one in
    let keeps = c.sync_noted.ensures.keeps in
    keeps.cells two k ∙ before_both c.args.p.now c.slot_cell.result _ k _ _ _ c.slot_cell.ensures.cell low (c.write.ensures.rest one) (c.write_long.ensures.run.within.rest tells)

pub returns-clause-same_keys : goal.returns-clause-same_keys
returns-clause-same_keys g c = c.write.ensures.some_sealed.keys ∙ c.write_long.ensures.run.seals.some.keys

pub returns-clause-low : goal.returns-clause-low
returns-clause-low g c = λ tells k low.
    let one = c.in-Ok.ensures.serves.tells tells in
    let two = c.in-Ok-write.ensures.serves.tells one in
    let keeps = c.sync_noted.ensures.keeps in
    c.set_first.ensures.rest (keeps.tells two) k (inl (omega (arith, low))) ∙ keeps.cells two k ∙ before_both c.args.p.now c.slot_cell.result _ k _ _ _ c.slot_cell.ensures.cell (omega (arith, low)) (c.write.ensures.rest one) (c.write_long.ensures.run.within.rest tells)

pub returns-clause-log : goal.returns-clause-log
returns-clause-log g c = λ tells k from low.
    let one = c.in-Ok.ensures.serves.tells tells in
    let two = c.in-Ok-write.ensures.serves.tells one in
    let keeps = c.sync_noted.ensures.keeps in
    c.set_first.ensures.rest (keeps.tells two) k (inr (omega (arith, from))) ∙ keeps.cells two k ∙ before_both c.args.p.now c.slot_cell.result _ k _ _ _ c.slot_cell.ensures.cell low (c.write.ensures.rest one) (c.write_long.ensures.run.within.rest tells)

-- ---- what stands then

pub returns-clause-epoch : goal.returns-clause-epoch
returns-clause-epoch g c = λ tells.
    let one = c.in-Ok.ensures.serves.tells tells in
    let two = c.in-Ok-write.ensures.serves.tells one in
    let keeps = c.sync_noted.ensures.keeps in
    subst (λ (x : Keys). OnOk c.set_first.result (StandsAt (tagging x) 5 (g.S.Store.disk c.set_first.new.store).cells 0)) (c.write.ensures.some_sealed.keys ∙ c.write_long.ensures.run.seals.some.keys) (c.set_first.ensures.stands (keeps.tells two))

pub returns-clause-checkpoint : goal.returns-clause-checkpoint
returns-clause-checkpoint g c = λ tells.
    let p = c.args.p.now in
    let s = c.args.sealer.now in
    let content = content_of c.args.tables.now in
    let written = (g.S.Store.disk c.write.new.store).cells in
    let one = c.in-Ok.ensures.serves.tells tells in
    let two = c.in-Ok-write.ensures.serves.tells one in
    let keeps = c.sync_noted.ensures.keeps in
    let held = subst (λ (x : Sealing). check.HoldsCheckpointFrom x.keys p 0 content x.generation x.next written) c.in-Ok.ensures.run.seals.all (c.in-Ok-write.ensures.written one) in
    let counted = subst (λ n. check.HoldsCheckpointFrom s.keys p 0 content s.generation n written) (slots_many p s.next c.buckets.result c.requires.first c.buckets.ensures.buckets) held in
    if_ok _ c.set_first.result (checkpoint_kept s.keys p content s.generation (buckets p * width p) written _ (g.S.Store.disk c.set_first.new.store).cells counted (keeps.cells two) (c.set_first.ensures.rest (keeps.tells two)))

pub returns-clause-durable : goal.returns-clause-durable
returns-clause-durable g c = λ tells.
    let one = c.in-Ok.ensures.serves.tells tells in
    let two = c.in-Ok-write.ensures.serves.tells one in
    let keeps = c.sync_noted.ensures.keeps in
    c.set_first.ensures.durable (keeps.tells two)

-- ---- in the clear

pub returns-in-Err-clause-clear : goal.returns-in-Err-clause-clear
returns-in-Err-clause-clear g c = λ told cell low.
    let tells = c.write_long.ensures.serves.goes.told told in
    inl (inl (before_slots c.args.p.now c.slot_cell.result _ cell _ _ c.slot_cell.ensures.cell (omega (arith, low)) (c.write_long.ensures.run.within.rest tells)))

pub returns-in-Err-write-clause-clear : goal.returns-in-Err-write-clause-clear
returns-in-Err-write-clause-clear g c = λ told cell low.
    let one = c.write.ensures.serves.goes.told told in
    let tells = c.write_long.ensures.serves.goes.told one in
    inl (inl (before_both c.args.p.now c.slot_cell.result _ cell _ _ _ c.slot_cell.ensures.cell (omega (arith, low)) (c.write.ensures.rest one) (c.write_long.ensures.run.within.rest tells)))

pub returns-in-Err-sync_noted-clause-clear : goal.returns-in-Err-sync_noted-clause-clear
returns-in-Err-sync_noted-clause-clear g c = λ told cell low.
    let two = c.sync_noted.ensures.serves.goes.told told in
    let one = c.write.ensures.serves.goes.told two in
    let tells = c.write_long.ensures.serves.goes.told one in
    inl (inl (c.sync_noted.ensures.keeps.cells two cell
    ∙ before_both c.args.p.now c.slot_cell.result _ cell _ _ _ c.slot_cell.ensures.cell (omega (arith, low)) (c.write.ensures.rest one) (c.write_long.ensures.run.within.rest tells)))

pub returns-clause-clear : goal.returns-clause-clear
returns-clause-clear g c = λ told.
    let old = (g.S.Store.disk c.args.store.now).cells in
    let mid = (g.S.Store.disk c.sync_noted.new.store).cells in
    let new = g.S.Store.disk c.set_first.new.store in
    let keys = c.args.sealer.now.keys in
    let three = c.set_first.ensures.serves.goes.told told in
    let two = c.sync_noted.ensures.serves.goes.told three in
    let one = c.write.ensures.serves.goes.told two in
    let tells = c.write_long.ensures.serves.goes.told one in
    by_then (tagging keys) old mid new.cells
    (none_clear (tagging keys) old mid (λ cell low. c.sync_noted.ensures.keeps.cells two cell
    ∙ before_both c.args.p.now c.slot_cell.result _ cell _ _ _ c.slot_cell.ensures.cell (omega (arith, low)) (c.write.ensures.rest one) (c.write_long.ensures.run.within.rest tells)))
    new.seen c.set_first.result
    (subst (λ (x : Keys). InClearBy (tagging x) new.seen mid new.cells c.set_first.result) (c.write.ensures.some_sealed.keys ∙ c.write_long.ensures.run.seals.some.keys) (c.set_first.ensures.clear told))

-- ---- the register's gates

pub returns-clause-gates : goal.returns-clause-gates
returns-clause-gates g c = λ tells. c.set_first.ensures.gates (c.sync_noted.ensures.keeps.tells (c.in-Ok-write.ensures.serves.tells (c.in-Ok.ensures.serves.tells tells)))
