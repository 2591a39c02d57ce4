use Rattle.std.proofs.Common.{◌≡◌, ◌+◌, ◌%◌, ℕ, suc, [], ◌∷◌, ◌++◌, arith, refl, subst, sym, Ok, Err, None, ◌≤◌, ◌^◌, ap, ◌∙◌, ◌*◌}
use Rattle.ob_base.specs.declared.fault.Failed.{Failed}
use Rattle.ob_base.specs.declared.fault.Fault.TheVariants.{StoreFault}
use Rattle.ob_base.specs.declared.params.Params.{Params}
use Rattle.ob_base.specs.Layout.{checkpoint_cells}
use Rattle.ob_cells.specs.Writes.{WritesWithin}
use Rattle.ob_check.specs.Written.{area_of}
use Rattle.ob_tables.specs.Content.{content_of, Content, Obeys}
use Rattle.ob_recover.specs.Ends.{refill_notes}
use Rattle.ob_schedule.specs.Schedule.{log_gates, writes_of}
use Rattle.ob_stand.specs.Ends.{IsEndOf}
use Rattle.ob_store.specs.Runs.{write_notes}
use Rattle.ob_store.specs.Told.{Tells, TellsFirst}
use Rattle.ob_store.specs.declared.watch.Note.TheVariants as note
use Rattle.ob_store.proofs.Doing.{does_err, does_sync, does_then, first_behind, first_more}
use Rattle.ob_store.proofs.Moments.{passed_still}
use Rattle.ob_end.specs.EndWrites.{SameFirst, ShutsGates, bucket_seals, end_write_notes}
use Rattle.ob_end.proofs.Whole.{as_written, check_refused, content_is, end_sealed, end_written, first_checked, first_then, gates_refused, moments_checked, moments_then, sync_refused, of_store, seals_cut, seals_more}
use Rattle.ob_seal.specs.Sealing.{Sealing}
use Rattle.ob_store.specs.Calls.{IsFailed, IsStoreFault}
use Rattle.ob_store.proofs.Serving.{serves_err, serves_ok, serves_then}
use Rattle.ob_end.proofs.writing.write_end.Goals as goal

pub returns-in-Err-write-clause-writes : goal.returns-in-Err-write-clause-writes
returns-in-Err-write-clause-writes g c s end at is =
    let r = c.args.ring.now in
    let within : WritesWithin (area_of r.p c.args.epoch) (checkpoint_cells r.p) (g.S.Store.disk c.write_buckets.new.store) (g.S.Store.disk c.write.new.store) =
    subst (λ (q : Params). WritesWithin (area_of q c.args.epoch) (checkpoint_cells q) (g.S.Store.disk c.write_buckets.new.store) (g.S.Store.disk c.write.new.store)) c.requires.params
    (record { rest = c.write.ensures.rest; passes = c.write.ensures.passes }) in
    check_refused c.args.sealer.now.keys r c.args.sealer.now.generation s end is c.args.epoch at
    (g.S.Store.disk c.args.store.now) (g.S.Store.disk c.write_buckets.new.store) (g.S.Store.disk c.write.new.store) c.in-Ok.ensures.serves.tells (c.in-Ok.ensures.fills s end is) within
    (Err c.in-Err-write.fault) refl

pub returns-in-Err-shut_gates-clause-writes : goal.returns-in-Err-shut_gates-clause-writes
returns-in-Err-shut_gates-clause-writes g c s end at is =
    let r = c.args.ring.now in
    let within : WritesWithin (area_of r.p c.args.epoch) (checkpoint_cells r.p) (g.S.Store.disk c.write_buckets.new.store) (g.S.Store.disk c.write.new.store) =
    subst (λ (q : Params). WritesWithin (area_of q c.args.epoch) (checkpoint_cells q) (g.S.Store.disk c.write_buckets.new.store) (g.S.Store.disk c.write.new.store)) c.requires.params
    (record { rest = c.write.ensures.rest; passes = c.write.ensures.passes }) in
    let area : (c.args.epoch + 1) % 2 ≡ suc (suc s.epoch) % 2 = omega (arith, at) in
    let shuts : ShutsGates {T = Unit {0}} {E = Failed} c.args.sealer.now.keys r.p s end (g.S.Store.disk c.write.new.store) (g.S.Store.disk c.shut_gates.new.store) (Err c.in-Err-shut_gates.field-0) =
    subst (λ (q : Params). ShutsGates {T = Unit {0}} {E = Failed} c.args.sealer.now.keys q s end (g.S.Store.disk c.write.new.store) (g.S.Store.disk c.shut_gates.new.store) (Err c.in-Err-shut_gates.field-0)) c.requires.params
    (c.in-Err-shut_gates.ensures.shuts c.args.sealer.now.keys s end (subst (λ (q : Params). IsEndOf q s end) (sym c.requires.params) is.follows) area) in
    gates_refused c.args.sealer.now.keys r c.args.sealer.now.generation s end is c.args.epoch at
    (g.S.Store.disk c.args.store.now) (g.S.Store.disk c.write_buckets.new.store) (g.S.Store.disk c.write.new.store) c.in-Ok.ensures.serves.tells (c.in-Ok.ensures.fills s end is) within
    (λ t. c.in-Ok-write.ensures.serves.tells (c.in-Ok.ensures.serves.tells t)) (g.S.Store.disk c.shut_gates.new.store) c.in-Err-shut_gates.field-0 (StoreFault None) shuts

pub returns-in-Err-sync_noted-clause-writes : goal.returns-in-Err-sync_noted-clause-writes
returns-in-Err-sync_noted-clause-writes g c s end at is =
    let r = c.args.ring.now in
    let within : WritesWithin (area_of r.p c.args.epoch) (checkpoint_cells r.p) (g.S.Store.disk c.write_buckets.new.store) (g.S.Store.disk c.write.new.store) =
    subst (λ (q : Params). WritesWithin (area_of q c.args.epoch) (checkpoint_cells q) (g.S.Store.disk c.write_buckets.new.store) (g.S.Store.disk c.write.new.store)) c.requires.params
    (record { rest = c.write.ensures.rest; passes = c.write.ensures.passes }) in
    let area : (c.args.epoch + 1) % 2 ≡ suc (suc s.epoch) % 2 = omega (arith, at) in
    let shuts : ShutsGates {T = Unit {0}} {E = Failed} c.args.sealer.now.keys r.p s end (g.S.Store.disk c.write.new.store) (g.S.Store.disk c.shut_gates.new.store) (Ok tt) =
    subst (λ (q : Params). ShutsGates {T = Unit {0}} {E = Failed} c.args.sealer.now.keys q s end (g.S.Store.disk c.write.new.store) (g.S.Store.disk c.shut_gates.new.store) (Ok tt)) c.requires.params
    (c.in-Ok-shut_gates.ensures.shuts c.args.sealer.now.keys s end (subst (λ (q : Params). IsEndOf q s end) (sym c.requires.params) is.follows) area) in
    sync_refused c.args.sealer.now.keys r c.args.sealer.now.generation s end is c.args.epoch at
    (g.S.Store.disk c.args.store.now) (g.S.Store.disk c.write_buckets.new.store) (g.S.Store.disk c.write.new.store) c.in-Ok.ensures.serves.tells (c.in-Ok.ensures.fills s end is) within
    (λ t. c.in-Ok-write.ensures.serves.tells (c.in-Ok.ensures.serves.tells t)) (g.S.Store.disk c.shut_gates.new.store) shuts (λ t. c.in-Ok-shut_gates.ensures.serves.tells (c.in-Ok-write.ensures.serves.tells (c.in-Ok.ensures.serves.tells t)))
    (g.S.Store.disk c.sync_noted.new.store) c.sync_noted.ensures.keeps c.sync_noted.ensures.serves.goes c.sync_noted.ensures.time c.sync_noted.ensures.crash (StoreFault None)

pub returns-in-Ok-sync_noted-clause-writes : goal.returns-in-Ok-sync_noted-clause-writes
returns-in-Ok-sync_noted-clause-writes g c s end at is =
    let r = c.args.ring.now in
    let within : WritesWithin (area_of r.p c.args.epoch) (checkpoint_cells r.p) (g.S.Store.disk c.write_buckets.new.store) (g.S.Store.disk c.write.new.store) =
    subst (λ (q : Params). WritesWithin (area_of q c.args.epoch) (checkpoint_cells q) (g.S.Store.disk c.write_buckets.new.store) (g.S.Store.disk c.write.new.store)) c.requires.params
    (record { rest = c.write.ensures.rest; passes = c.write.ensures.passes }) in
    let area : (c.args.epoch + 1) % 2 ≡ suc (suc s.epoch) % 2 = omega (arith, at) in
    let shuts : ShutsGates {T = Unit {0}} {E = Failed} c.args.sealer.now.keys r.p s end (g.S.Store.disk c.write.new.store) (g.S.Store.disk c.shut_gates.new.store) (Ok tt) =
    subst (λ (q : Params). ShutsGates {T = Unit {0}} {E = Failed} c.args.sealer.now.keys q s end (g.S.Store.disk c.write.new.store) (g.S.Store.disk c.shut_gates.new.store) (Ok tt)) c.requires.params
    (c.in-Ok-shut_gates.ensures.shuts c.args.sealer.now.keys s end (subst (λ (q : Params). IsEndOf q s end) (sym c.requires.params) is.follows) area) in
    let kept = content_is c.tables.result.now r c.forget_written.new.self c.forget_written.ensures.kept c.forget_written.ensures.rows c.tables.ensures.book c.tables.ensures.metas c.tables.ensures.stash c.tables.ensures.counter in
    end_written c.args.sealer.now.keys r c.args.sealer.now.generation s end is c.args.epoch at
    (g.S.Store.disk c.args.store.now) (g.S.Store.disk c.write_buckets.new.store) (g.S.Store.disk c.write.new.store) c.in-Ok.ensures.serves.tells (c.in-Ok.ensures.fills s end is) within
    (λ t. c.in-Ok-write.ensures.serves.tells (c.in-Ok.ensures.serves.tells t)) (g.S.Store.disk c.shut_gates.new.store) shuts (λ t. c.in-Ok-shut_gates.ensures.serves.tells (c.in-Ok-write.ensures.serves.tells (c.in-Ok.ensures.serves.tells t)))
    (g.S.Store.disk c.sync_noted.new.store) c.sync_noted.ensures.keeps c.sync_noted.ensures.serves.goes c.sync_noted.ensures.time c.sync_noted.ensures.crash
    (c.args.sealer.now.next + bucket_seals r) (omega (arith, c.requires.generation)) (omega (arith, c.requires.room))
    (λ t. as_written r c.args.p.now c.args.sealer.now c.write_buckets.new.sealer (content_of c.tables.result.now) c.args.epoch (g.S.Store.disk c.write.new.store).cells c.requires.params
    c.in-Ok.ensures.seals.all kept (c.in-Ok-write.ensures.written (c.in-Ok.ensures.serves.tells t)))

pub returns-in-Err-write-clause-does : goal.returns-in-Err-write-clause-does
returns-in-Err-write-clause-does g c =
    let r = c.args.ring.now in
    let xs = refill_notes r.p r.metas.versions r.metas.order in
    let ys = write_notes (area_of r.p c.args.epoch) (checkpoint_cells r.p) in
    let zs = writes_of (log_gates r.p (suc c.args.epoch % 2)) in
    let first : TellsFirst ys (g.S.Store.disk c.write_buckets.new.store).seen (g.S.Store.disk c.write.new.store).seen (g.W.Watch.trace c.write_buckets.new.watch) (g.W.Watch.trace c.write.new.watch) =
    subst (λ (q : Params). TellsFirst (write_notes (area_of q c.args.epoch) (checkpoint_cells q)) (g.S.Store.disk c.write_buckets.new.store).seen
    (g.S.Store.disk c.write.new.store).seen (g.W.Watch.trace c.write_buckets.new.watch) (g.W.Watch.trace c.write.new.watch)) c.requires.params c.in-Err-write.ensures.does.first in
    does_err _ _ _ _ (end_write_notes r c.args.epoch) c.in-Err-write.fault
    (first_behind _ _ _ _ _ _ xs (ys ++ (zs ++ (note.Sync ∷ []))) c.in-Ok.ensures.does.all (first_more _ _ _ _ ys (zs ++ (note.Sync ∷ [])) first))

pub returns-in-Err-shut_gates-clause-does : goal.returns-in-Err-shut_gates-clause-does
returns-in-Err-shut_gates-clause-does g c =
    let r = c.args.ring.now in
    let xs = refill_notes r.p r.metas.versions r.metas.order in
    let ys = write_notes (area_of r.p c.args.epoch) (checkpoint_cells r.p) in
    let zs = writes_of (log_gates r.p (suc c.args.epoch % 2)) in
    let told : Tells ys ys (g.S.Store.disk c.write_buckets.new.store).seen (g.S.Store.disk c.write.new.store).seen (g.W.Watch.trace c.write_buckets.new.watch) (g.W.Watch.trace c.write.new.watch) =
    subst (λ (q : Params). Tells (write_notes (area_of q c.args.epoch) (checkpoint_cells q)) (write_notes (area_of q c.args.epoch) (checkpoint_cells q)) (g.S.Store.disk c.write_buckets.new.store).seen
    (g.S.Store.disk c.write.new.store).seen (g.W.Watch.trace c.write_buckets.new.watch) (g.W.Watch.trace c.write.new.watch)) c.requires.params c.in-Ok-write.ensures.does.all in
    let area : (c.args.epoch + 1) % 2 ≡ suc c.args.epoch % 2 = omega arith in
    let gates : TellsFirst zs (g.S.Store.disk c.write.new.store).seen (g.S.Store.disk c.shut_gates.new.store).seen (g.W.Watch.trace c.write.new.watch) (g.W.Watch.trace c.shut_gates.new.watch) =
    subst (λ (a : ℕ). TellsFirst (writes_of (log_gates r.p a)) (g.S.Store.disk c.write.new.store).seen (g.S.Store.disk c.shut_gates.new.store).seen (g.W.Watch.trace c.write.new.watch) (g.W.Watch.trace c.shut_gates.new.watch)) area
    (subst (λ (q : Params). TellsFirst (writes_of (log_gates q ((c.args.epoch + 1) % 2))) (g.S.Store.disk c.write.new.store).seen (g.S.Store.disk c.shut_gates.new.store).seen (g.W.Watch.trace c.write.new.watch)
    (g.W.Watch.trace c.shut_gates.new.watch)) c.requires.params c.in-Err-shut_gates.ensures.does.first) in
    does_err _ _ _ _ (end_write_notes r c.args.epoch) (StoreFault None)
    (first_behind _ _ _ _ _ _ xs (ys ++ (zs ++ (note.Sync ∷ []))) c.in-Ok.ensures.does.all (first_behind _ _ _ _ _ _ ys (zs ++ (note.Sync ∷ [])) told (first_more _ _ _ _ zs (note.Sync ∷ []) gates)))

pub returns-in-Ok-sync_noted-clause-does : goal.returns-in-Ok-sync_noted-clause-does
returns-in-Ok-sync_noted-clause-does g c =
    let r = c.args.ring.now in
    let xs = refill_notes r.p r.metas.versions r.metas.order in
    let ys = write_notes (area_of r.p c.args.epoch) (checkpoint_cells r.p) in
    let zs = writes_of (log_gates r.p (suc c.args.epoch % 2)) in
    let told : Tells ys ys (g.S.Store.disk c.write_buckets.new.store).seen (g.S.Store.disk c.write.new.store).seen (g.W.Watch.trace c.write_buckets.new.watch) (g.W.Watch.trace c.write.new.watch) =
    subst (λ (q : Params). Tells (write_notes (area_of q c.args.epoch) (checkpoint_cells q)) (write_notes (area_of q c.args.epoch) (checkpoint_cells q)) (g.S.Store.disk c.write_buckets.new.store).seen
    (g.S.Store.disk c.write.new.store).seen (g.W.Watch.trace c.write_buckets.new.watch) (g.W.Watch.trace c.write.new.watch)) c.requires.params c.in-Ok-write.ensures.does.all in
    let area : (c.args.epoch + 1) % 2 ≡ suc c.args.epoch % 2 = omega arith in
    let gates : Tells zs zs (g.S.Store.disk c.write.new.store).seen (g.S.Store.disk c.shut_gates.new.store).seen (g.W.Watch.trace c.write.new.watch) (g.W.Watch.trace c.shut_gates.new.watch) =
    subst (λ (a : ℕ). Tells (writes_of (log_gates r.p a)) (writes_of (log_gates r.p a)) (g.S.Store.disk c.write.new.store).seen (g.S.Store.disk c.shut_gates.new.store).seen (g.W.Watch.trace c.write.new.watch) (g.W.Watch.trace c.shut_gates.new.watch)) area
    (subst (λ (q : Params). Tells (writes_of (log_gates q ((c.args.epoch + 1) % 2))) (writes_of (log_gates q ((c.args.epoch + 1) % 2))) (g.S.Store.disk c.write.new.store).seen (g.S.Store.disk c.shut_gates.new.store).seen (g.W.Watch.trace c.write.new.watch)
    (g.W.Watch.trace c.shut_gates.new.watch)) c.requires.params c.in-Ok-shut_gates.ensures.does.all) in
    does_then _ _ _ _ _ _ xs (ys ++ (zs ++ (note.Sync ∷ []))) (Ok tt) c.in-Ok.ensures.does.all
    (does_then _ _ _ _ _ _ ys (zs ++ (note.Sync ∷ [])) (Ok tt) told (does_sync _ _ _ _ _ _ zs (Ok tt) gates c.in-Ok-sync_noted.ensures.told))

pub returns-in-Err-sync_noted-clause-does : goal.returns-in-Err-sync_noted-clause-does
returns-in-Err-sync_noted-clause-does g c =
    let r = c.args.ring.now in
    let xs = refill_notes r.p r.metas.versions r.metas.order in
    let ys = write_notes (area_of r.p c.args.epoch) (checkpoint_cells r.p) in
    let zs = writes_of (log_gates r.p (suc c.args.epoch % 2)) in
    let told : Tells ys ys (g.S.Store.disk c.write_buckets.new.store).seen (g.S.Store.disk c.write.new.store).seen (g.W.Watch.trace c.write_buckets.new.watch) (g.W.Watch.trace c.write.new.watch) =
    subst (λ (q : Params). Tells (write_notes (area_of q c.args.epoch) (checkpoint_cells q)) (write_notes (area_of q c.args.epoch) (checkpoint_cells q)) (g.S.Store.disk c.write_buckets.new.store).seen
    (g.S.Store.disk c.write.new.store).seen (g.W.Watch.trace c.write_buckets.new.watch) (g.W.Watch.trace c.write.new.watch)) c.requires.params c.in-Ok-write.ensures.does.all in
    let area : (c.args.epoch + 1) % 2 ≡ suc c.args.epoch % 2 = omega arith in
    let gates : Tells zs zs (g.S.Store.disk c.write.new.store).seen (g.S.Store.disk c.shut_gates.new.store).seen (g.W.Watch.trace c.write.new.watch) (g.W.Watch.trace c.shut_gates.new.watch) =
    subst (λ (a : ℕ). Tells (writes_of (log_gates r.p a)) (writes_of (log_gates r.p a)) (g.S.Store.disk c.write.new.store).seen (g.S.Store.disk c.shut_gates.new.store).seen (g.W.Watch.trace c.write.new.watch) (g.W.Watch.trace c.shut_gates.new.watch)) area
    (subst (λ (q : Params). Tells (writes_of (log_gates q ((c.args.epoch + 1) % 2))) (writes_of (log_gates q ((c.args.epoch + 1) % 2))) (g.S.Store.disk c.write.new.store).seen (g.S.Store.disk c.shut_gates.new.store).seen (g.W.Watch.trace c.write.new.watch)
    (g.W.Watch.trace c.shut_gates.new.watch)) c.requires.params c.in-Ok-shut_gates.ensures.does.all) in
    does_then _ _ _ _ _ _ xs (ys ++ (zs ++ (note.Sync ∷ []))) (Err (StoreFault None)) c.in-Ok.ensures.does.all
    (does_then _ _ _ _ _ _ ys (zs ++ (note.Sync ∷ [])) (Err (StoreFault None)) told (does_sync _ _ _ _ _ _ zs (Err (StoreFault None)) gates c.in-Err-sync_noted.ensures.told))

pub returns-in-Err-write-clause-first : goal.returns-in-Err-write-clause-first
returns-in-Err-write-clause-first g c = λ t.
    first_then _ _ _ (c.in-Ok.ensures.first t) (first_checked c.args.p.now c.args.epoch (g.S.Store.disk c.write_buckets.new.store) (g.S.Store.disk c.write.new.store) c.write.ensures.rest (c.in-Ok.ensures.serves.tells t))

pub returns-in-Err-shut_gates-clause-first : goal.returns-in-Err-shut_gates-clause-first
returns-in-Err-shut_gates-clause-first g c = λ t.
    let checked = c.in-Ok.ensures.serves.tells t in
    first_then _ _ _ (first_then _ _ _ (c.in-Ok.ensures.first t) (first_checked c.args.p.now c.args.epoch (g.S.Store.disk c.write_buckets.new.store) (g.S.Store.disk c.write.new.store) c.write.ensures.rest checked))
    (c.shut_gates.ensures.first (c.in-Ok-write.ensures.serves.tells checked))

pub returns-in-Err-sync_noted-clause-first : goal.returns-in-Err-sync_noted-clause-first
returns-in-Err-sync_noted-clause-first g c = λ t.
    let checked = c.in-Ok.ensures.serves.tells t in
    let gates = c.in-Ok-write.ensures.serves.tells checked in
    first_then _ _ _ (first_then _ _ _ (first_then _ _ _ (c.in-Ok.ensures.first t) (first_checked c.args.p.now c.args.epoch (g.S.Store.disk c.write_buckets.new.store) (g.S.Store.disk c.write.new.store) c.write.ensures.rest checked))
    (c.shut_gates.ensures.first gates)) (λ k lt. c.sync_noted.ensures.keeps.cells (c.in-Ok-shut_gates.ensures.serves.tells gates) k)

pub returns-in-Ok-sync_noted-clause-first : goal.returns-in-Ok-sync_noted-clause-first
returns-in-Ok-sync_noted-clause-first g c = λ t.
    let checked = c.in-Ok.ensures.serves.tells t in
    let gates = c.in-Ok-write.ensures.serves.tells checked in
    first_then _ _ _ (first_then _ _ _ (first_then _ _ _ (c.in-Ok.ensures.first t) (first_checked c.args.p.now c.args.epoch (g.S.Store.disk c.write_buckets.new.store) (g.S.Store.disk c.write.new.store) c.write.ensures.rest checked))
    (c.shut_gates.ensures.first gates)) (λ k lt. c.sync_noted.ensures.keeps.cells (c.in-Ok-shut_gates.ensures.serves.tells gates) k)

pub returns-in-Err-write-clause-moments : goal.returns-in-Err-write-clause-moments
returns-in-Err-write-clause-moments g c =
    moments_checked c.args.p.now c.args.epoch (g.S.Store.disk c.args.store.now) (g.S.Store.disk c.write_buckets.new.store) (g.S.Store.disk c.write.new.store) c.in-Ok.ensures.moments c.write.ensures.passes

pub returns-in-Err-shut_gates-clause-moments : goal.returns-in-Err-shut_gates-clause-moments
returns-in-Err-shut_gates-clause-moments g c =
    moments_then (g.S.Store.disk c.args.store.now) (g.S.Store.disk c.write.new.store) (g.S.Store.disk c.shut_gates.new.store)
    (moments_checked c.args.p.now c.args.epoch (g.S.Store.disk c.args.store.now) (g.S.Store.disk c.write_buckets.new.store) (g.S.Store.disk c.write.new.store) c.in-Ok.ensures.moments c.write.ensures.passes) c.shut_gates.ensures.moments

pub returns-in-Err-sync_noted-clause-moments : goal.returns-in-Err-sync_noted-clause-moments
returns-in-Err-sync_noted-clause-moments g c =
    passed_still SameFirst (g.S.Store.disk c.args.store.now) (g.S.Store.disk c.shut_gates.new.store) (g.S.Store.disk c.sync_noted.new.store)
    (moments_then (g.S.Store.disk c.args.store.now) (g.S.Store.disk c.write.new.store) (g.S.Store.disk c.shut_gates.new.store)
    (moments_checked c.args.p.now c.args.epoch (g.S.Store.disk c.args.store.now) (g.S.Store.disk c.write_buckets.new.store) (g.S.Store.disk c.write.new.store) c.in-Ok.ensures.moments c.write.ensures.passes) c.shut_gates.ensures.moments)
    c.sync_noted.ensures.serves.goes c.sync_noted.ensures.time c.sync_noted.ensures.crash c.sync_noted.ensures.keeps

pub returns-in-Ok-sync_noted-clause-moments : goal.returns-in-Ok-sync_noted-clause-moments
returns-in-Ok-sync_noted-clause-moments g c =
    passed_still SameFirst (g.S.Store.disk c.args.store.now) (g.S.Store.disk c.shut_gates.new.store) (g.S.Store.disk c.sync_noted.new.store)
    (moments_then (g.S.Store.disk c.args.store.now) (g.S.Store.disk c.write.new.store) (g.S.Store.disk c.shut_gates.new.store)
    (moments_checked c.args.p.now c.args.epoch (g.S.Store.disk c.args.store.now) (g.S.Store.disk c.write_buckets.new.store) (g.S.Store.disk c.write.new.store) c.in-Ok.ensures.moments c.write.ensures.passes) c.shut_gates.ensures.moments)
    c.sync_noted.ensures.serves.goes c.sync_noted.ensures.time c.sync_noted.ensures.crash c.sync_noted.ensures.keeps

pub returns-in-Ok-sync_noted-clause-sealed : goal.returns-in-Ok-sync_noted-clause-sealed
returns-in-Ok-sync_noted-clause-sealed g c = λ t.
    let checked = c.in-Ok.ensures.serves.tells t in
    let gates = c.in-Ok-write.ensures.serves.tells checked in
    end_sealed c.args.ring.now c.args.p.now c.args.epoch c.args.sealer.now c.write_buckets.new.sealer c.write.new.sealer
    (g.S.Store.disk c.args.store.now).cells (g.S.Store.disk c.write_buckets.new.store).cells (g.S.Store.disk c.write.new.store).cells (g.S.Store.disk c.shut_gates.new.store).cells (g.S.Store.disk c.sync_noted.new.store).cells
    c.in-Ok.ensures.seals.some c.in-Ok.ensures.seals.all c.requires.room c.requires.params c.in-Ok-write.ensures.sealed c.write.ensures.some_sealed (content_of c.tables.result.now) (c.in-Ok-write.ensures.written checked)
    (c.write.ensures.rest checked) (c.in-Ok.ensures.sealed t) (c.in-Ok-shut_gates.ensures.unsealed gates) (c.sync_noted.ensures.keeps.cells (c.in-Ok-shut_gates.ensures.serves.tells gates))

pub returns-in-Err-clause-serves : goal.returns-in-Err-clause-serves
returns-in-Err-clause-serves g c = serves_err IsFailed IsStoreFault _ _ c.in-Err.field-0 (StoreFault None) (λ f. tt) c.in-Err.ensures.serves

pub returns-in-Err-write-clause-serves : goal.returns-in-Err-write-clause-serves
returns-in-Err-write-clause-serves g c =
    let first = c.write_buckets.ensures.serves in
    serves_then IsStoreFault _ (g.S.Store.disk c.write_buckets.new.store) _ (Err c.in-Err-write.fault) first.goes first.out c.in-Ok.ensures.serves.tells c.in-Err-write.ensures.serves

pub returns-in-Err-shut_gates-clause-serves : goal.returns-in-Err-shut_gates-clause-serves
returns-in-Err-shut_gates-clause-serves g c =
    let first = c.write_buckets.ensures.serves in
    let second = c.write.ensures.serves in
    serves_then IsStoreFault _ (g.S.Store.disk c.write_buckets.new.store) _ (Err (StoreFault None)) first.goes first.out c.in-Ok.ensures.serves.tells
    (serves_then IsStoreFault _ (g.S.Store.disk c.write.new.store) _ (Err (StoreFault None)) second.goes second.out c.in-Ok-write.ensures.serves.tells
    (serves_err IsFailed IsStoreFault _ _ c.in-Err-shut_gates.field-0 (StoreFault None) (λ f. tt) c.in-Err-shut_gates.ensures.serves))

pub returns-in-Err-sync_noted-clause-serves : goal.returns-in-Err-sync_noted-clause-serves
returns-in-Err-sync_noted-clause-serves g c =
    let first = c.write_buckets.ensures.serves in
    let second = c.write.ensures.serves in
    let third = c.shut_gates.ensures.serves in
    serves_then IsStoreFault _ (g.S.Store.disk c.write_buckets.new.store) _ (Err (StoreFault None)) first.goes first.out c.in-Ok.ensures.serves.tells
    (serves_then IsStoreFault _ (g.S.Store.disk c.write.new.store) _ (Err (StoreFault None)) second.goes second.out c.in-Ok-write.ensures.serves.tells
    (serves_then IsStoreFault _ (g.S.Store.disk c.shut_gates.new.store) _ (Err (StoreFault None)) third.goes third.out c.in-Ok-shut_gates.ensures.serves.tells
    (serves_err IsFailed IsStoreFault _ _ c.in-Err-sync_noted.field-0 (StoreFault None) (λ f. tt) c.in-Err-sync_noted.ensures.serves)))

pub returns-in-Ok-sync_noted-clause-serves : goal.returns-in-Ok-sync_noted-clause-serves
returns-in-Ok-sync_noted-clause-serves g c =
    let first = c.write_buckets.ensures.serves in
    let second = c.write.ensures.serves in
    let third = c.shut_gates.ensures.serves in
    let last = c.sync_noted.ensures.serves in
    serves_then IsStoreFault _ (g.S.Store.disk c.write_buckets.new.store) _ (Ok tt) first.goes first.out c.in-Ok.ensures.serves.tells
    (serves_then IsStoreFault _ (g.S.Store.disk c.write.new.store) _ (Ok tt) second.goes second.out c.in-Ok-write.ensures.serves.tells
    (serves_then IsStoreFault _ (g.S.Store.disk c.shut_gates.new.store) _ (Ok tt) third.goes third.out c.in-Ok-shut_gates.ensures.serves.tells
    (serves_ok IsStoreFault _ _ tt last.goes last.out c.in-Ok-sync_noted.ensures.serves.tells)))

pub returns-in-Err-write-clause-faults : goal.returns-in-Err-write-clause-faults
returns-in-Err-write-clause-faults g c =
    let few : c.write_buckets.new.sealer.next + checkpoint_cells c.args.p.now ≤ 2 ^ 62 =
    (let now = ap (λ (x : Sealing). x.next) c.in-Ok.ensures.seals.all in let cells = ap checkpoint_cells c.requires.params in let room = c.requires.room in omega arith) in
    of_store c.args.p.now c.write_buckets.new.sealer.next _ few c.in-Err-write.ensures.faults

pub returns-in-Err-clause-seals : goal.returns-in-Err-clause-seals
returns-in-Err-clause-seals g c = seals_cut c.args.ring.now _ _ c.in-Err.field-0 (StoreFault None) c.in-Err.ensures.seals

pub returns-in-Err-write-clause-seals : goal.returns-in-Err-write-clause-seals
returns-in-Err-write-clause-seals g c = seals_more c.args.ring.now c.args.p.now _ c.write_buckets.new.sealer _ (Err c.in-Err-write.fault) c.requires.params c.in-Ok.ensures.seals.all tt c.write.ensures.some_sealed

pub returns-in-Err-shut_gates-clause-seals : goal.returns-in-Err-shut_gates-clause-seals
returns-in-Err-shut_gates-clause-seals g c = seals_more c.args.ring.now c.args.p.now _ c.write_buckets.new.sealer _ (Err (StoreFault None)) c.requires.params c.in-Ok.ensures.seals.all tt c.write.ensures.some_sealed

pub returns-in-Err-sync_noted-clause-seals : goal.returns-in-Err-sync_noted-clause-seals
returns-in-Err-sync_noted-clause-seals g c = seals_more c.args.ring.now c.args.p.now _ c.write_buckets.new.sealer _ (Err (StoreFault None)) c.requires.params c.in-Ok.ensures.seals.all tt c.write.ensures.some_sealed

pub returns-in-Ok-sync_noted-clause-seals : goal.returns-in-Ok-sync_noted-clause-seals
returns-in-Ok-sync_noted-clause-seals g c = seals_more c.args.ring.now c.args.p.now _ c.write_buckets.new.sealer _ (Ok tt) c.requires.params c.in-Ok.ensures.seals.all c.in-Ok-write.ensures.sealed c.write.ensures.some_sealed

pub returns-in-Err-write-clause-rows : goal.returns-in-Err-write-clause-rows
returns-in-Err-write-clause-rows g c = tt

pub returns-in-Err-write-clause-sealed : goal.returns-in-Err-write-clause-sealed
returns-in-Err-write-clause-sealed g c = λ tells. tt

pub returns-in-Err-write-clause-durable : goal.returns-in-Err-write-clause-durable
returns-in-Err-write-clause-durable g c = λ tells. tt

pub returns-in-Err-write-clause-kept : goal.returns-in-Err-write-clause-kept
returns-in-Err-write-clause-kept g c = c.forget_written.ensures.kept

pub returns-in-Err-shut_gates-clause-kept : goal.returns-in-Err-shut_gates-clause-kept
returns-in-Err-shut_gates-clause-kept g c = c.forget_written.ensures.kept

pub returns-in-Err-sync_noted-clause-kept : goal.returns-in-Err-sync_noted-clause-kept
returns-in-Err-sync_noted-clause-kept g c = c.forget_written.ensures.kept

pub returns-in-Ok-sync_noted-clause-kept : goal.returns-in-Ok-sync_noted-clause-kept
returns-in-Ok-sync_noted-clause-kept g c = c.forget_written.ensures.kept

pub returns-in-Err-clause-does : goal.returns-in-Err-clause-does
returns-in-Err-clause-does g c =
    let r = c.args.ring.now in
    let xs = refill_notes r.p r.metas.versions r.metas.order in
    let ys = write_notes (area_of r.p c.args.epoch) (checkpoint_cells r.p) in
    let zs = writes_of (log_gates r.p (suc c.args.epoch % 2)) in
    does_err _ _ _ _ (end_write_notes r c.args.epoch) (StoreFault None) (first_more _ _ _ _ xs (ys ++ (zs ++ (note.Sync ∷ []))) c.in-Err.ensures.does.first)

pub write-requires-clause-obeys : goal.write-requires-clause-obeys
write-requires-clause-obeys g c κs inside =
    let r = c.args.ring.now in
    let kept = content_is c.tables.result.now r c.forget_written.new.self c.forget_written.ensures.kept c.forget_written.ensures.rows c.tables.ensures.book c.tables.ensures.metas c.tables.ensures.stash c.tables.ensures.counter in
    subst (λ (q : Params). Obeys q (content_of c.tables.result.now)) (sym c.requires.params) (subst (λ (x : Content). Obeys r.p x) (sym kept) c.requires.obeys)

pub write-requires-clause-sheet : goal.write-requires-clause-sheet
write-requires-clause-sheet g c κs inside = c.requires.sheet ∙ ap (λ (q : Params). 96 * checkpoint_cells q) (sym c.requires.params)

-- ---- the buckets, the checkpoint and the gates may be written

pub write_buckets-requires-clause-none_out : goal.write_buckets-requires-clause-none_out
write_buckets-requires-clause-none_out g c κs inside = c.requires.none_out

pub write_buckets-requires-clause-params : goal.write_buckets-requires-clause-params
write_buckets-requires-clause-params g c κs inside = c.requires.params

pub write_buckets-requires-clause-within : goal.write_buckets-requires-clause-within
write_buckets-requires-clause-within g c κs inside = c.requires.within

pub write_buckets-requires-clause-sealed : goal.write_buckets-requires-clause-sealed
write_buckets-requires-clause-sealed g c κs inside = c.requires.sealed

pub write_buckets-requires-clause-room : goal.write_buckets-requires-clause-room
write_buckets-requires-clause-room g c κs inside = (let room = c.requires.room in omega arith)

pub write-requires-clause-none_out : goal.write-requires-clause-none_out
write-requires-clause-none_out g c κs inside = (let none = c.requires.none_out in let out = c.write_buckets.ensures.serves.out in omega arith)

pub write-requires-clause-epoch : goal.write-requires-clause-epoch
write-requires-clause-epoch g c κs inside = c.requires.epoch

pub shut_gates-requires-clause-none_out : goal.shut_gates-requires-clause-none_out
shut_gates-requires-clause-none_out g c = (let none = c.requires.none_out in let first = c.write_buckets.ensures.serves.out in let then = c.write.ensures.serves.out in omega arith)

-- ---- what a refusal of the first leaves

pub returns-in-Err-clause-writes : goal.returns-in-Err-clause-writes
returns-in-Err-clause-writes g c s end at is = record { spare = (c.in-Err.ensures.fills s end is).spare; written = λ tells. tt }

pub returns-in-Err-clause-first : goal.returns-in-Err-clause-first
returns-in-Err-clause-first g c = c.write_buckets.ensures.first

pub returns-in-Err-clause-moments : goal.returns-in-Err-clause-moments
returns-in-Err-clause-moments g c = c.write_buckets.ensures.moments

-- ---- what stays of the ring and of the sheet

pub returns-in-Err-write-clause-room : goal.returns-in-Err-write-clause-room
returns-in-Err-write-clause-room g c = c.forget_written.ensures.room

pub returns-in-Err-write-clause-sheet : goal.returns-in-Err-write-clause-sheet
returns-in-Err-write-clause-sheet g c = c.write.ensures.sheet

pub returns-in-Err-shut_gates-clause-room : goal.returns-in-Err-shut_gates-clause-room
returns-in-Err-shut_gates-clause-room g c = c.forget_written.ensures.room

pub returns-in-Err-shut_gates-clause-sheet : goal.returns-in-Err-shut_gates-clause-sheet
returns-in-Err-shut_gates-clause-sheet g c = c.write.ensures.sheet

pub returns-in-Ok-sync_noted-clause-room : goal.returns-in-Ok-sync_noted-clause-room
returns-in-Ok-sync_noted-clause-room g c = c.forget_written.ensures.room

pub returns-in-Ok-sync_noted-clause-sheet : goal.returns-in-Ok-sync_noted-clause-sheet
returns-in-Ok-sync_noted-clause-sheet g c = c.write.ensures.sheet

pub returns-in-Err-sync_noted-clause-room : goal.returns-in-Err-sync_noted-clause-room
returns-in-Err-sync_noted-clause-room g c = c.forget_written.ensures.room

pub returns-in-Err-sync_noted-clause-sheet : goal.returns-in-Err-sync_noted-clause-sheet
returns-in-Err-sync_noted-clause-sheet g c = c.write.ensures.sheet

pub returns-in-Ok-sync_noted-clause-rows : goal.returns-in-Ok-sync_noted-clause-rows
returns-in-Ok-sync_noted-clause-rows g c = c.forget_written.ensures.rows

pub returns-in-Ok-sync_noted-clause-durable : goal.returns-in-Ok-sync_noted-clause-durable
returns-in-Ok-sync_noted-clause-durable g c = λ tells. c.in-Ok-sync_noted.ensures.durable (c.in-Ok-shut_gates.ensures.serves.tells (c.in-Ok-write.ensures.serves.tells (c.in-Ok.ensures.serves.tells tells)))
