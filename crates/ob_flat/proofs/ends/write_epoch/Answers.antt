use Rattle.std.proofs.Common.{◌≡◌, ◌+◌, [], ◌∷◌, length, inl, sym, subst, arith}
use Rattle.ob_store.specs.declared.watch.Note.TheVariants.{Sync}
use Rattle.ob_store.specs.Images.{LeavesOnly}
use Rattle.ob_store.specs.Calls.{Holds}
use Rattle.ob_store.specs.Runs.{write_notes}
use Rattle.ob_store.specs.Told.{Tells, TellsFirst}
use Rattle.ob_store.proofs.Moments.{weakened}
use Rattle.ob_store.proofs.Serving.{if_ok, on_ok}
use Rattle.ob_store.proofs.Doing.{tells_then, first_more, first_behind, sync_cut}
use Rattle.ob_seal.specs.declared.keys.Keys.{Keys}
use Rattle.ob_flat.specs.Rows.{row_cells}
use Rattle.ob_twin.specs.Clear.{InClearBy}
use Rattle.ob_twin.specs.Opening.{is_closed_first}
use Rattle.ob_twin.specs.declared.twin.Twin.TheVariants.{EPOCH}
use Rattle.ob_twin.proofs.Clear.{by_then, none_clear, set_clear}
use Rattle.ob_twin.specs.Keyed.{tagging}
use Rattle.ob_twin.specs.Register.{StandsAt, IsPut, place_of}
use Rattle.ob_twin.specs.Refused.{SetLeaves}
use Rattle.ob_twin.proofs.Moves.{under_next}
use Rattle.ob_twin.proofs.Sets.{put_stands, leaves_either, leaves_before}
use Rattle.ob_flat.specs.Places.{area_of}
use Rattle.ob_flat.specs.Standing.{StandsFlat}
use Rattle.ob_flat.specs.Orders.{rows_notes}
use Rattle.ob_flat.specs.Ends.{StandsAtOne}
use Rattle.ob_flat.proofs.Moved.{rows_kept, rows_written}
use Rattle.ob_flat.proofs.Areas.{rows_leave, rows_stay, stands_next, ends_at_one, ends_before}
use Rattle.ob_flat.proofs.Tellings.{rows_refused, end_tells}
use Rattle.ob_flat.proofs.Frames.{rows_at, rows_synced, if_unsure, rows_off, register_off, epoch_again, rows_pass, both_pass}
use Rattle.ob_flat.proofs.ends.write_epoch.Goals as goal

-- ---- the rows were refused

pub returns-in-Err-clause-old_or_new : goal.returns-in-Err-clause-old_or_new
returns-in-Err-clause-old_or_new g c = λ p n now next from.
    let keys = c.args.sealer.now.keys in
    let old = g.S.Store.disk c.args.store.now in
    let new = g.S.Store.disk c.write_rows.new.store in
    let rows = rows_at c.area_of-base.ensures.area c.in-Err.ensures.rows in
    weakened old new (λ i. StandsFlat keys p n i now) (StandsAtOne keys p n now next) (λ i stands. inl stands)
    (rows_leave keys p n old c.args.epoch c.args.values.now now next from new (g.met.S.Store.only_now c.args.store.now) rows.within.passes)

pub returns-in-Err-clause-before : goal.returns-in-Err-clause-before
returns-in-Err-clause-before g c = λ p n now next from is_before.
    let old = g.S.Store.disk c.args.store.now in
    let new = g.S.Store.disk c.write_rows.new.store in
    let rows = rows_at c.area_of-base.ensures.area c.in-Err.ensures.rows in
    rows_leave c.args.sealer.now.keys p n old c.args.epoch c.args.values.now now next from new (g.met.S.Store.only_now c.args.store.now) rows.within.passes

pub returns-in-Err-clause-rest : goal.returns-in-Err-clause-rest
returns-in-Err-clause-rest g c = λ tells.
    let old = g.S.Store.disk c.args.store.now in
    let new = g.S.Store.disk c.write_rows.new.store in
    let rows = rows_at c.area_of-base.ensures.area c.in-Err.ensures.rows in
    rows_off (length c.args.values.now) c.args.epoch new.cells old.cells (rows.within.rest tells)

pub returns-in-Err-clause-passes : goal.returns-in-Err-clause-passes
returns-in-Err-clause-passes g c =
    let old = g.S.Store.disk c.args.store.now in
    let new = g.S.Store.disk c.write_rows.new.store in
    let rows = rows_at c.area_of-base.ensures.area c.in-Err.ensures.rows in
    rows_pass (length c.args.values.now) c.args.epoch old new rows.within.passes

pub returns-in-Err-clause-does : goal.returns-in-Err-clause-does
returns-in-Err-clause-does g c =
    let n = length c.args.values.now in
    rows_refused n c.args.gates.now.epoch c.args.epoch _ _ _ _
    (subst (λ b. TellsFirst (rows_notes b n) (g.S.Store.disk c.args.store.now).seen (g.S.Store.disk c.write_rows.new.store).seen (g.W.Watch.trace c.args.watch.now) (g.W.Watch.trace c.write_rows.new.watch)) c.area_of-base.ensures.area
    (first_more _ _ _ _ (write_notes c.area_of-base.result n) (Sync ∷ []) c.in-Err.ensures.does.first))

-- ---- their sync was refused

pub returns-in-Err-sync_noted-clause-old_or_new : goal.returns-in-Err-sync_noted-clause-old_or_new
returns-in-Err-sync_noted-clause-old_or_new g c = λ p n now next from.
    let keys = c.args.sealer.now.keys in
    let old = g.S.Store.disk c.args.store.now in
    let new = g.S.Store.disk c.sync_noted.new.store in
    let rows = rows_synced c.area_of-base.ensures.area c.in-Ok.ensures.rows c.in-Err-sync_noted.ensures.serves c.sync_noted.ensures.keeps c.sync_noted.ensures.crash c.sync_noted.ensures.time in
    weakened old new (λ i. StandsFlat keys p n i now) (StandsAtOne keys p n now next) (λ i stands. inl stands)
    (rows_leave keys p n old c.args.epoch c.args.values.now now next from new (g.met.S.Store.only_now c.args.store.now) rows.within.passes)

pub returns-in-Err-sync_noted-clause-before : goal.returns-in-Err-sync_noted-clause-before
returns-in-Err-sync_noted-clause-before g c = λ p n now next from is_before.
    let old = g.S.Store.disk c.args.store.now in
    let new = g.S.Store.disk c.sync_noted.new.store in
    let rows = rows_synced c.area_of-base.ensures.area c.in-Ok.ensures.rows c.in-Err-sync_noted.ensures.serves c.sync_noted.ensures.keeps c.sync_noted.ensures.crash c.sync_noted.ensures.time in
    rows_leave c.args.sealer.now.keys p n old c.args.epoch c.args.values.now now next from new (g.met.S.Store.only_now c.args.store.now) rows.within.passes

pub returns-in-Err-sync_noted-clause-rest : goal.returns-in-Err-sync_noted-clause-rest
returns-in-Err-sync_noted-clause-rest g c = λ tells.
    let old = g.S.Store.disk c.args.store.now in
    let new = g.S.Store.disk c.sync_noted.new.store in
    let rows = rows_synced c.area_of-base.ensures.area c.in-Ok.ensures.rows c.in-Err-sync_noted.ensures.serves c.sync_noted.ensures.keeps c.sync_noted.ensures.crash c.sync_noted.ensures.time in
    rows_off (length c.args.values.now) c.args.epoch new.cells old.cells (rows.within.rest tells)

pub returns-in-Err-sync_noted-clause-passes : goal.returns-in-Err-sync_noted-clause-passes
returns-in-Err-sync_noted-clause-passes g c =
    let old = g.S.Store.disk c.args.store.now in
    let new = g.S.Store.disk c.sync_noted.new.store in
    let rows = rows_synced c.area_of-base.ensures.area c.in-Ok.ensures.rows c.in-Err-sync_noted.ensures.serves c.sync_noted.ensures.keeps c.sync_noted.ensures.crash c.sync_noted.ensures.time in
    rows_pass (length c.args.values.now) c.args.epoch old new rows.within.passes

pub returns-in-Err-sync_noted-clause-does : goal.returns-in-Err-sync_noted-clause-does
returns-in-Err-sync_noted-clause-does g c =
    let n = length c.args.values.now in
    rows_refused n c.args.gates.now.epoch c.args.epoch _ _ _ _
    (subst (λ b. TellsFirst (rows_notes b n) (g.S.Store.disk c.args.store.now).seen (g.S.Store.disk c.sync_noted.new.store).seen (g.W.Watch.trace c.args.watch.now) (g.W.Watch.trace c.sync_noted.new.watch)) c.area_of-base.ensures.area
    (first_behind _ _ _ _ _ _ (write_notes c.area_of-base.result n) (Sync ∷ []) c.in-Ok.ensures.does.all (sync_cut [] _ _ _ _ c.in-Err-sync_noted.ensures.told)))

-- ---- the rows stand, and the number is set behind them

pub returns-clause-written : goal.returns-clause-written
returns-clause-written g c = λ tells.
    let before = c.args.sealer.now in
    let old = g.S.Store.disk c.args.store.now in
    let mid = g.S.Store.disk c.sync_noted.new.store in
    let new = g.S.Store.disk c.set.new.store in
    let n = length c.args.values.now in
    let rows = rows_synced c.area_of-base.ensures.area c.in-Ok.ensures.rows c.in-Ok-sync_noted.ensures.serves c.sync_noted.ensures.keeps c.sync_noted.ensures.crash c.sync_noted.ensures.time in
    let cells = row_cells before.keys (area_of n c.args.epoch) before.generation before.next c.args.values.now in
    if_ok _ c.set.result (rows_kept n c.args.epoch cells new.cells mid.cells (c.set.ensures.rest (rows.serves.tells tells)) (rows.written tells))

pub returns-clause-written_unsure : goal.returns-clause-written_unsure
returns-clause-written_unsure g c =
    let before = c.args.sealer.now in
    let old = g.S.Store.disk c.args.store.now in
    let mid = g.S.Store.disk c.sync_noted.new.store in
    let new = g.S.Store.disk c.set.new.store in
    let n = length c.args.values.now in
    let rows = rows_synced c.area_of-base.ensures.area c.in-Ok.ensures.rows c.in-Ok-sync_noted.ensures.serves c.sync_noted.ensures.keeps c.sync_noted.ensures.crash c.sync_noted.ensures.time in
    let base = area_of n c.args.epoch in
    let cells = row_cells before.keys base before.generation before.next c.args.values.now in
    if_unsure (old.tells → Holds base cells new.cells) c.set.result (λ tells. rows_kept n c.args.epoch cells new.cells mid.cells (c.set.ensures.rest (rows.serves.tells tells)) (rows.written tells))

pub returns-clause-sealed : goal.returns-clause-sealed
returns-clause-sealed g c = if_ok _ c.set.result c.in-Ok.ensures.rows.seals.all

pub returns-clause-sealed_unsure : goal.returns-clause-sealed_unsure
returns-clause-sealed_unsure g c = if_unsure _ c.set.result c.in-Ok.ensures.rows.seals.all

pub returns-clause-done : goal.returns-clause-done
returns-clause-done g c = λ p k now next from.
    let before = c.args.sealer.now in
    let keys = before.keys in
    let old = g.S.Store.disk c.args.store.now in
    let mid = g.S.Store.disk c.sync_noted.new.store in
    let new = g.S.Store.disk c.set.new.store in
    let n = length c.args.values.now in
    let rows = rows_synced c.area_of-base.ensures.area c.in-Ok.ensures.rows c.in-Ok-sync_noted.ensures.serves c.sync_noted.ensures.keeps c.sync_noted.ensures.crash c.sync_noted.ensures.time in
    let follows = from.follows in
    let one : c.args.epoch ≡ now.epoch + 1 = omega arith in
    let same_keys : c.write_rows.new.sealer.keys ≡ keys = rows.seals.some.keys in
    let written = rows_written before (area_of n c.args.epoch) mid.cells c.args.values.now c.requires.generation c.requires.room rows.short (rows.written from.tells) in
    let stands_mid = rows_stay keys p k old c.args.epoch c.args.values.now now next from mid.cells old.cells (rows.within.rest from.tells) from.stands in
    on_ok _ _ c.set.result
    (λ put. stands_next keys p k old c.args.epoch c.args.values.now now next from new.cells mid.cells written stands_mid
    (put_stands (tagging keys) 5 c.args.epoch mid.cells new.cells c.requires.small (under_next (tagging keys) 5 now.epoch c.args.epoch mid.cells one stands_mid.epoch)
    (subst (λ (s : Keys). IsPut (tagging s) 5 mid.cells c.args.epoch new.cells) same_keys put)))
    (c.set.ensures.done (rows.serves.tells from.tells))

pub returns-clause-old_or_new : goal.returns-clause-old_or_new
returns-clause-old_or_new g c = λ p k now next from.
    let before = c.args.sealer.now in
    let keys = before.keys in
    let old = g.S.Store.disk c.args.store.now in
    let mid = g.S.Store.disk c.sync_noted.new.store in
    let new = g.S.Store.disk c.set.new.store in
    let n = length c.args.values.now in
    let rows = rows_synced c.area_of-base.ensures.area c.in-Ok.ensures.rows c.in-Ok-sync_noted.ensures.serves c.sync_noted.ensures.keeps c.sync_noted.ensures.crash c.sync_noted.ensures.time in
    let follows = from.follows in
    let one : c.args.epoch ≡ now.epoch + 1 = omega arith in
    let same_keys : c.write_rows.new.sealer.keys ≡ keys = rows.seals.some.keys in
    let same = rows.within.rest from.tells in
    let written = rows_written before (area_of n c.args.epoch) mid.cells c.args.values.now c.requires.generation c.requires.room rows.short (rows.written from.tells) in
    let stands_mid = rows_stay keys p k old c.args.epoch c.args.values.now now next from mid.cells old.cells same from.stands in
    ends_at_one keys p k old c.args.epoch c.args.values.now now next from mid new (g.met.S.Store.only_now c.args.store.now) rows.within.passes same written
    (leaves_either (tagging keys) 5 now.epoch c.args.epoch mid.cells mid new c.set.result
    (subst (λ (s : Keys). LeavesOnly mid new (SetLeaves (tagging s) 5 mid.cells now.epoch c.args.epoch c.set.result)) same_keys
    (c.set.ensures.old_or_new now.epoch one (rows.serves.tells from.tells) (c.in-Ok-sync_noted.ensures.durable (c.in-Ok.ensures.rows.serves.tells from.tells)) (subst (λ (s : Keys). StandsAt (tagging s) 5 mid.cells now.epoch) (sym same_keys) stands_mid.epoch))))

pub returns-clause-before : goal.returns-clause-before
returns-clause-before g c = λ p k now next from is_before.
    let keys = c.args.sealer.now.keys in
    let old = g.S.Store.disk c.args.store.now in
    let mid = g.S.Store.disk c.sync_noted.new.store in
    let new = g.S.Store.disk c.set.new.store in
    let rows = rows_synced c.area_of-base.ensures.area c.in-Ok.ensures.rows c.in-Ok-sync_noted.ensures.serves c.sync_noted.ensures.keeps c.sync_noted.ensures.crash c.sync_noted.ensures.time in
    let follows = from.follows in
    let one : c.args.epoch ≡ now.epoch + 1 = omega arith in
    let same_keys : c.write_rows.new.sealer.keys ≡ keys = rows.seals.some.keys in
    let same = rows.within.rest from.tells in
    let stands_mid = rows_stay keys p k old c.args.epoch c.args.values.now now next from mid.cells old.cells same from.stands in
    ends_before keys p k old c.args.epoch c.args.values.now now next from mid new (g.met.S.Store.only_now c.args.store.now) rows.within.passes same
    (leaves_before (tagging keys) 5 now.epoch c.args.epoch mid.cells mid new c.set.result is_before
    (subst (λ (s : Keys). LeavesOnly mid new (SetLeaves (tagging s) 5 mid.cells now.epoch c.args.epoch c.set.result)) same_keys
    (c.set.ensures.old_or_new now.epoch one (rows.serves.tells from.tells) (c.in-Ok-sync_noted.ensures.durable (c.in-Ok.ensures.rows.serves.tells from.tells)) (subst (λ (s : Keys). StandsAt (tagging s) 5 mid.cells now.epoch) (sym same_keys) stands_mid.epoch))))

pub returns-clause-does : goal.returns-clause-does
returns-clause-does g c =
    let n = length c.args.values.now in
    let notes = write_notes c.area_of-base.result n in
    end_tells n c.args.gates.now.epoch c.args.epoch _ _ _ _ _ _ c.set.result
    (subst (λ b. Tells (rows_notes b n) (rows_notes b n) (g.S.Store.disk c.args.store.now).seen (g.S.Store.disk c.sync_noted.new.store).seen (g.W.Watch.trace c.args.watch.now) (g.W.Watch.trace c.sync_noted.new.watch)) c.area_of-base.ensures.area
    (tells_then notes notes (Sync ∷ []) (Sync ∷ []) _ _ _ _ _ _ c.in-Ok.ensures.does.all c.in-Ok-sync_noted.ensures.told))
    c.set.ensures.does

pub returns-clause-rest : goal.returns-clause-rest
returns-clause-rest g c = λ tells.
    let n = length c.args.values.now in
    let old = g.S.Store.disk c.args.store.now in
    let mid = g.S.Store.disk c.sync_noted.new.store in
    let new = g.S.Store.disk c.set.new.store in
    let rows = rows_synced c.area_of-base.ensures.area c.in-Ok.ensures.rows c.in-Ok-sync_noted.ensures.serves c.sync_noted.ensures.keeps c.sync_noted.ensures.crash c.sync_noted.ensures.time in
    epoch_again n c.args.epoch new.cells mid.cells old.cells (register_off n c.args.epoch new.cells mid.cells (c.set.ensures.rest (rows.serves.tells tells)))
    (rows_off n c.args.epoch mid.cells old.cells (rows.within.rest tells))

pub returns-clause-passes : goal.returns-clause-passes
returns-clause-passes g c =
    let old = g.S.Store.disk c.args.store.now in
    let mid = g.S.Store.disk c.sync_noted.new.store in
    let new = g.S.Store.disk c.set.new.store in
    let rows = rows_synced c.area_of-base.ensures.area c.in-Ok.ensures.rows c.in-Ok-sync_noted.ensures.serves c.sync_noted.ensures.keeps c.sync_noted.ensures.crash c.sync_noted.ensures.time in
    both_pass (length c.args.values.now) c.args.epoch old mid new rows.within.passes c.set.ensures.passes

-- ---- in the clear

pub returns-in-Err-clause-clear : goal.returns-in-Err-clause-clear
returns-in-Err-clause-clear g c = λ told cell low.
    let rows = rows_at c.area_of-base.ensures.area c.in-Err.ensures.rows in
    let tells = c.in-Err.ensures.rows.serves.goes.told told in
    inl (inl (rows.within.rest tells cell (inl (omega (arith, low)))))

pub returns-in-Err-sync_noted-clause-clear : goal.returns-in-Err-sync_noted-clause-clear
returns-in-Err-sync_noted-clause-clear g c = λ told cell low.
    let rows = rows_synced c.area_of-base.ensures.area c.in-Ok.ensures.rows c.in-Err-sync_noted.ensures.serves c.sync_noted.ensures.keeps c.sync_noted.ensures.crash c.sync_noted.ensures.time in
    let tells = c.in-Ok.ensures.rows.serves.goes.told (c.sync_noted.ensures.serves.goes.told told) in
    inl (inl (rows.within.rest tells cell (inl (omega (arith, low)))))

pub returns-clause-clear : goal.returns-clause-clear
returns-clause-clear g c = λ told.
    let keys = c.args.sealer.now.keys in
    let old = (g.S.Store.disk c.args.store.now).cells in
    let mid = (g.S.Store.disk c.sync_noted.new.store).cells in
    let new = g.S.Store.disk c.set.new.store in
    let rows = rows_synced c.area_of-base.ensures.area c.in-Ok.ensures.rows c.in-Ok-sync_noted.ensures.serves c.sync_noted.ensures.keeps c.sync_noted.ensures.crash c.sync_noted.ensures.time in
    let there = c.set.ensures.serves.goes.told told in
    let tells = c.in-Ok.ensures.rows.serves.goes.told (c.sync_noted.ensures.serves.goes.told there) in
    by_then (tagging keys) old mid new.cells (none_clear (tagging keys) old mid (λ cell low. rows.within.rest tells cell (inl (omega (arith, low))))) new.seen c.set.result
    (subst (λ (x : Keys). InClearBy (tagging x) new.seen mid new.cells c.set.result) rows.seals.some.keys
    (set_clear (tagging c.write_rows.new.sealer.keys) EPOCH c.args.epoch (is_closed_first c.args.gates.now.epoch (place_of c.args.epoch)) new.seen mid new.cells c.requires.small c.set.result (c.set.ensures.done there) (c.set.ensures.refused told)))
