use Rattle.std.proofs.Common.{◌≡◌, ◌<◌, ◌+◌, ◌%◌, ◌^◌, ℕ, None, Ok, Err, refl, rules, arith, ◌∙◌, subst, inl, inr, List}
use Rattle.ob_base.specs.declared.fault.Fault.{Fault}
use Rattle.ob_base.specs.declared.fault.Fault.TheVariants.{StoreFault, Worn}
use Rattle.ob_base.specs.Layout.{record_cells, log_cell, log_gate}
use Rattle.ob_base.proofs.Bounds.{cells_le}
use Rattle.ob_store.specs.Calls.{IsFailed, IsStoreFault, Notes}
use Rattle.ob_store.specs.Told.{events_of}
use Rattle.ob_store.specs.declared.watch.Note.{Note}
use Rattle.ob_store.proofs.Doing.{does_err}
use Rattle.ob_store.proofs.Serving.{serves_then, serves_err}
use Rattle.ob_store.proofs.Keeping.{serves_none}
use Rattle.ob_store.proofs.Lanes.{first_none}
use Rattle.ob_store.proofs.Events.{none_noted}
use Rattle.ob_cells.specs.Runs.{IsFurther}
use Rattle.ob_cells.specs.Writes.{Seals}
use Rattle.ob_log.specs.Appends.{record_for, append_notes}
use Rattle.ob_log.proofs.AppendLaws.{spells_at, prefix_none, prefix_refused, prefix_open, acknowledged, obeys_for, serves_both, told_body, told_all, told_refused, told_unsure, body_is, first_body, body_alone, gate_moments, within_none, body_within, both_within, holds_record}
use Rattle.ob_log.proofs.appending.append.Goals as goal

pub returns-then-next-many-clause-does : goal.returns-then-next-many-clause-does
returns-then-next-many-clause-does g c = does_err _ _ _ _ (append_notes c.args.p.now c.args.epoch c.args.batch) (Worn 4611686018427387904) (first_none (append_notes c.args.p.now c.args.epoch c.args.batch) _ _ _ (none_noted _))

pub write_sure-requires-clause-fits : goal.write_sure-requires-clause-fits
write_sure-requires-clause-fits g c =
    let few = c.record_cells-many.ensures.few in
    let low = c.log_cell-base.ensures.within in
    omega (arith, cells_le c.args.p.now)

generation_fits : (pair : ℕ × ℕ) (g n : ℕ) → pair ≡ (g, n) → pair.0 < 2 ^ 64 → g < 2 ^ 64
generation_fits pair g n is lt = subst (λ (e : ℕ × ℕ). e.0 < 2 ^ 64) is lt

pub returns-in-Err-clause-open_prefix : goal.returns-in-Err-clause-open_prefix
returns-in-Err-clause-open_prefix g c = λ rs tells settled long held.
    prefix_refused c.args.sealer.now.keys c.args.p.now c.args.epoch c.args.batch rs (record_for c.args.sealer.now c.args.batch c.args.first c.args.asks.now c.args.words.now)
    c.log_cell-base.result c.record_cells-many.result (log_gate c.args.p.now (c.args.epoch % 2) c.args.batch) long c.requires.batch
    (obeys_for c.args.p.now c.args.sealer.now c.args.batch c.args.first c.args.asks.now c.args.words.now (generation_fits c.next.result c.args.sealer.now.generation c.args.sealer.now.next c.next.ensures.identity (search rules)) c.next.ensures.few c.ranges.first.fits
    c.requires.asks c.requires.words (λ i. (c.type_inv.words i).fits) c.requires.keys_low c.requires.keys_apart) c.log_cell-base.ensures.cell c.record_cells-many.ensures.cells refl
    (g.S.Store.disk c.args.store.now) (g.S.Store.disk c.write_sure.new.store) (g.met.S.Store.only_now c.args.store.now) c.in-Err.ensures.run.within.passes settled held

pub returns-in-Ok-write_out-clause-serves : goal.returns-in-Ok-write_out-clause-serves
returns-in-Ok-write_out-clause-serves g c = serves_both IsFailed IsFailed IsStoreFault (g.S.Store.disk c.args.store.now) (g.S.Store.disk c.write_sure.new.store) (g.S.Store.disk c.write_out.new.store) _ _ tt c.in-Ok.ensures.serves c.in-Ok-write_out.ensures.serves

pub returns-in-Ok-write_out-clause-open_prefix : goal.returns-in-Ok-write_out-clause-open_prefix
returns-in-Ok-write_out-clause-open_prefix g c = λ rs tells settled long held.
    prefix_open c.args.sealer.now.keys c.args.p.now c.args.epoch c.args.batch rs (record_for c.args.sealer.now c.args.batch c.args.first c.args.asks.now c.args.words.now)
    c.log_cell-base.result c.record_cells-many.result c.log_gate.result long c.requires.batch
    (obeys_for c.args.p.now c.args.sealer.now c.args.batch c.args.first c.args.asks.now c.args.words.now (generation_fits c.next.result c.args.sealer.now.generation c.args.sealer.now.next c.next.ensures.identity (search rules)) c.next.ensures.few c.ranges.first.fits
    c.requires.asks c.requires.words (λ i. (c.type_inv.words i).fits) c.requires.keys_low c.requires.keys_apart) c.log_cell-base.ensures.cell c.record_cells-many.ensures.cells c.log_gate.ensures.cell
    (g.S.Store.disk c.args.store.now) (g.S.Store.disk c.write_sure.new.store) (g.met.S.Store.only_now c.args.store.now) c.in-Ok.ensures.run.within.passes settled held (g.S.Store.disk c.write_out.new.store) (c.in-Ok.ensures.run.within.rest tells)
    (spells_at c.args.sealer.now.keys c.args.p.now c.args.epoch c.args.batch c.log_cell-base.result c.record_cells-many.result (record_for c.args.sealer.now c.args.batch c.args.first c.args.asks.now c.args.words.now) c.as_slice.result.now
    (g.S.Store.disk c.write_sure.new.store).cells c.log_cell-base.ensures.cell c.record_cells-many.ensures.cells (c.as_slice.ensures.value ∙ c.record_bytes-bytes.ensures c.args.sealer.now.generation c.args.sealer.now.next) (c.in-Ok.ensures.run.written tells))
    (c.in-Ok-write_out.ensures.any_moment (c.in-Ok.ensures.durable tells))

pub returns-in-Err-write_out-clause-open_prefix : goal.returns-in-Err-write_out-clause-open_prefix
returns-in-Err-write_out-clause-open_prefix g c = λ rs tells settled long held.
    prefix_open c.args.sealer.now.keys c.args.p.now c.args.epoch c.args.batch rs (record_for c.args.sealer.now c.args.batch c.args.first c.args.asks.now c.args.words.now)
    c.log_cell-base.result c.record_cells-many.result c.log_gate.result long c.requires.batch
    (obeys_for c.args.p.now c.args.sealer.now c.args.batch c.args.first c.args.asks.now c.args.words.now (generation_fits c.next.result c.args.sealer.now.generation c.args.sealer.now.next c.next.ensures.identity (search rules)) c.next.ensures.few c.ranges.first.fits
    c.requires.asks c.requires.words (λ i. (c.type_inv.words i).fits) c.requires.keys_low c.requires.keys_apart) c.log_cell-base.ensures.cell c.record_cells-many.ensures.cells c.log_gate.ensures.cell
    (g.S.Store.disk c.args.store.now) (g.S.Store.disk c.write_sure.new.store) (g.met.S.Store.only_now c.args.store.now) c.in-Ok.ensures.run.within.passes settled held (g.S.Store.disk c.write_out.new.store) (c.in-Ok.ensures.run.within.rest tells)
    (spells_at c.args.sealer.now.keys c.args.p.now c.args.epoch c.args.batch c.log_cell-base.result c.record_cells-many.result (record_for c.args.sealer.now c.args.batch c.args.first c.args.asks.now c.args.words.now) c.as_slice.result.now
    (g.S.Store.disk c.write_sure.new.store).cells c.log_cell-base.ensures.cell c.record_cells-many.ensures.cells (c.as_slice.ensures.value ∙ c.record_bytes-bytes.ensures c.args.sealer.now.generation c.args.sealer.now.next) (c.in-Ok.ensures.run.written tells))
    (c.in-Err-write_out.ensures.any_moment (c.in-Ok.ensures.durable tells))

pub returns-in-Ok-write_out-clause-open_has_acknowledged : goal.returns-in-Ok-write_out-clause-open_has_acknowledged
returns-in-Ok-write_out-clause-open_has_acknowledged g c = λ rs tells long held image left.
    let told = c.in-Ok.ensures.serves.tells tells in
    acknowledged c.args.sealer.now.keys c.args.p.now c.args.epoch c.args.batch rs (record_for c.args.sealer.now c.args.batch c.args.first c.args.asks.now c.args.words.now)
    c.log_cell-base.result c.record_cells-many.result c.log_gate.result long c.requires.batch
    (obeys_for c.args.p.now c.args.sealer.now c.args.batch c.args.first c.args.asks.now c.args.words.now (generation_fits c.next.result c.args.sealer.now.generation c.args.sealer.now.next c.next.ensures.identity (search rules)) c.next.ensures.few c.ranges.first.fits
    c.requires.asks c.requires.words (λ i. (c.type_inv.words i).fits) c.requires.keys_low c.requires.keys_apart) c.log_cell-base.ensures.cell c.record_cells-many.ensures.cells c.log_gate.ensures.cell
    (g.S.Store.disk c.args.store.now).cells (g.S.Store.disk c.write_sure.new.store).cells (g.S.Store.disk c.write_out.new.store).cells image held (c.in-Ok.ensures.run.within.rest tells)
    (spells_at c.args.sealer.now.keys c.args.p.now c.args.epoch c.args.batch c.log_cell-base.result c.record_cells-many.result (record_for c.args.sealer.now c.args.batch c.args.first c.args.asks.now c.args.words.now) c.as_slice.result.now
    (g.S.Store.disk c.write_sure.new.store).cells c.log_cell-base.ensures.cell c.record_cells-many.ensures.cells (c.as_slice.ensures.value ∙ c.record_bytes-bytes.ensures c.args.sealer.now.generation c.args.sealer.now.next) (c.in-Ok.ensures.run.written tells))
    (c.in-Ok-write_out.ensures.rest told) (c.in-Ok-write_out.ensures.written told ∙ c.open_gate.ensures) (c.in-Ok-write_out.ensures.durable told image left)

pub returns-in-Ok-write_out-clause-does : goal.returns-in-Ok-write_out-clause-does
returns-in-Ok-write_out-clause-does g c =
    told_all c.args.p.now c.args.epoch c.args.batch c.log_cell-base.result c.record_cells-many.result c.log_gate.result c.log_cell-base.ensures.cell c.record_cells-many.ensures.cells c.log_gate.ensures.cell
    _ _ _ _ _ _ c.in-Ok.ensures.does.all c.in-Ok-write_out.ensures.does.all

pub returns-in-Err-write_out-clause-does : goal.returns-in-Err-write_out-clause-does
returns-in-Err-write_out-clause-does g c =
    told_refused c.args.p.now c.args.epoch c.args.batch c.log_cell-base.result c.record_cells-many.result c.log_gate.result c.log_cell-base.ensures.cell c.record_cells-many.ensures.cells c.log_gate.ensures.cell
    _ _ _ _ _ _ c.in-Ok.ensures.does.all (StoreFault None) c.in-Err-write_out.ensures.does.first

pub returns-in-Err-write_out-clause-serves : goal.returns-in-Err-write_out-clause-serves
returns-in-Err-write_out-clause-serves g c =
    serves_then IsStoreFault (g.S.Store.disk c.args.store.now) (g.S.Store.disk c.write_sure.new.store) (g.S.Store.disk c.write_out.new.store) (Err (StoreFault None)) c.in-Ok.ensures.serves.goes c.in-Ok.ensures.serves.out c.in-Ok.ensures.serves.tells
    (serves_err IsFailed IsStoreFault (g.S.Store.disk c.write_sure.new.store) (g.S.Store.disk c.write_out.new.store) _ (StoreFault None) (λ b. tt) c.in-Err-write_out.ensures.serves)

-- ---- what is written, and sealed

pub returns-then-next-many-clause-within : goal.returns-then-next-many-clause-within
returns-then-next-many-clause-within g c = within_none (log_cell c.args.p.now (c.args.epoch % 2) c.args.batch 0) (record_cells c.args.p.now + 1) (g.S.Store.disk c.args.store.now)

pub returns-then-next-many-clause-seals : goal.returns-then-next-many-clause-seals
returns-then-next-many-clause-seals g c = record { all = tt; some = record { keys = refl; generation = refl; on = omega arith; within = omega arith } }

pub returns-in-Err-clause-within : goal.returns-in-Err-clause-within
returns-in-Err-clause-within g c =
    body_within c.args.p.now c.args.epoch c.args.batch c.log_cell-base.result c.record_cells-many.result (log_gate c.args.p.now (c.args.epoch % 2) c.args.batch) c.log_cell-base.ensures.cell c.record_cells-many.ensures.cells refl
    (g.S.Store.disk c.args.store.now) (g.S.Store.disk c.write_sure.new.store) c.in-Err.ensures.run.within

pub returns-in-Err-clause-seals : goal.returns-in-Err-clause-seals
returns-in-Err-clause-seals g c = record { all = tt; some = subst (λ n. IsFurther n c.args.sealer.now c.write_sure.new.sealer) c.record_cells-many.ensures.cells c.in-Err.ensures.run.seals.some }

pub returns-in-Ok-write_out-clause-within : goal.returns-in-Ok-write_out-clause-within
returns-in-Ok-write_out-clause-within g c =
    both_within c.args.p.now c.args.epoch c.args.batch c.log_cell-base.result c.record_cells-many.result c.log_gate.result c.log_cell-base.ensures.cell c.record_cells-many.ensures.cells c.log_gate.ensures.cell
    (g.S.Store.disk c.args.store.now) (g.S.Store.disk c.write_sure.new.store) (g.S.Store.disk c.write_out.new.store) c.in-Ok.ensures.run.within c.in-Ok.ensures.serves.tells c.in-Ok-write_out.ensures.rest c.in-Ok-write_out.ensures.passes

pub returns-in-Ok-write_out-clause-seals : goal.returns-in-Ok-write_out-clause-seals
returns-in-Ok-write_out-clause-seals g c =
    subst (λ n. Seals {T = Unit {0}} {E = Fault} n c.args.sealer.now c.write_sure.new.sealer (Ok tt)) c.record_cells-many.ensures.cells (record { all = c.in-Ok.ensures.run.seals.all; some = c.in-Ok.ensures.run.seals.some })

pub returns-in-Err-write_out-clause-within : goal.returns-in-Err-write_out-clause-within
returns-in-Err-write_out-clause-within g c =
    both_within c.args.p.now c.args.epoch c.args.batch c.log_cell-base.result c.record_cells-many.result c.log_gate.result c.log_cell-base.ensures.cell c.record_cells-many.ensures.cells c.log_gate.ensures.cell
    (g.S.Store.disk c.args.store.now) (g.S.Store.disk c.write_sure.new.store) (g.S.Store.disk c.write_out.new.store) c.in-Ok.ensures.run.within c.in-Ok.ensures.serves.tells c.in-Err-write_out.ensures.rest c.in-Err-write_out.ensures.passes

pub returns-in-Err-write_out-clause-seals : goal.returns-in-Err-write_out-clause-seals
returns-in-Err-write_out-clause-seals g c = record { all = tt; some = subst (λ n. IsFurther n c.args.sealer.now c.write_sure.new.sealer) c.record_cells-many.ensures.cells c.in-Ok.ensures.run.seals.some }

pub returns-in-Ok-write_out-clause-written : goal.returns-in-Ok-write_out-clause-written
returns-in-Ok-write_out-clause-written g c = λ tells.
    let told = c.in-Ok.ensures.serves.tells tells in
    let spells = spells_at c.args.sealer.now.keys c.args.p.now c.args.epoch c.args.batch c.log_cell-base.result c.record_cells-many.result (record_for c.args.sealer.now c.args.batch c.args.first c.args.asks.now c.args.words.now) c.as_slice.result.now
    (g.S.Store.disk c.write_sure.new.store).cells c.log_cell-base.ensures.cell c.record_cells-many.ensures.cells (c.as_slice.ensures.value ∙ c.record_bytes-bytes.ensures c.args.sealer.now.generation c.args.sealer.now.next) (c.in-Ok.ensures.run.written tells) in
    holds_record c.args.sealer.now.keys c.args.p.now c.args.epoch c.args.batch (record_for c.args.sealer.now c.args.batch c.args.first c.args.asks.now c.args.words.now) c.log_gate.result c.log_gate.ensures.cell
    (g.S.Store.disk c.write_sure.new.store).cells (g.S.Store.disk c.write_out.new.store).cells spells (c.in-Ok-write_out.ensures.rest told) (c.in-Ok-write_out.ensures.written told ∙ c.open_gate.ensures)

-- ---- what each of them says of the store

pub returns-then-next-many-clause-serves : goal.returns-then-next-many-clause-serves
returns-then-next-many-clause-serves g c = serves_none IsStoreFault (g.S.Store.disk c.args.store.now) _ (λ blamed. blamed)

pub returns-in-Err-clause-serves : goal.returns-in-Err-clause-serves
returns-in-Err-clause-serves g c = serves_err IsFailed IsStoreFault _ _ _ _ (λ told. tt) c.in-Err.ensures.serves

pub returns-in-Ok-write_out-clause-durable : goal.returns-in-Ok-write_out-clause-durable
returns-in-Ok-write_out-clause-durable g c = λ tells. c.in-Ok-write_out.ensures.durable (c.in-Ok.ensures.serves.tells tells)

pub returns-in-Err-clause-does : goal.returns-in-Err-clause-does
returns-in-Err-clause-does g c =
    told_body c.args.p.now c.args.epoch c.args.batch c.log_cell-base.result c.record_cells-many.result (log_gate c.args.p.now (c.args.epoch % 2) c.args.batch) c.log_cell-base.ensures.cell c.record_cells-many.ensures.cells refl
    _ _ _ _ (StoreFault None) c.in-Err.ensures.does.first

pub returns-then-next-many-clause-open_prefix : goal.returns-then-next-many-clause-open_prefix
returns-then-next-many-clause-open_prefix g c = λ rs tells settled long held.
    prefix_none c.args.sealer.now.keys c.args.p.now c.args.epoch rs (record_for c.args.sealer.now c.args.batch c.args.first c.args.asks.now c.args.words.now)
    (g.S.Store.disk c.args.store.now) (g.met.S.Store.only_now c.args.store.now) settled held

-- ---- its stages

pub returns-in-Err-clause-stages : goal.returns-in-Err-clause-stages
returns-in-Err-clause-stages g c = inl (record {
  told = first_body c.args.p.now c.args.epoch c.args.batch c.log_cell-base.result c.record_cells-many.result (log_gate c.args.p.now (c.args.epoch % 2) c.args.batch) c.log_cell-base.ensures.cell c.record_cells-many.ensures.cells refl
      _ _ _ _ c.in-Err.ensures.does.first;
  until = λ rs tells settled long held. body_alone c.args.sealer.now.keys c.args.p.now c.args.epoch c.args.batch rs (record_for c.args.sealer.now c.args.batch c.args.first c.args.asks.now c.args.words.now)
      c.log_cell-base.result c.record_cells-many.result (log_gate c.args.p.now (c.args.epoch % 2) c.args.batch) long c.requires.batch
      (obeys_for c.args.p.now c.args.sealer.now c.args.batch c.args.first c.args.asks.now c.args.words.now (generation_fits c.next.result c.args.sealer.now.generation c.args.sealer.now.next c.next.ensures.identity (search rules)) c.next.ensures.few c.ranges.first.fits
      c.requires.asks c.requires.words (λ i. (c.type_inv.words i).fits) c.requires.keys_low c.requires.keys_apart) c.log_cell-base.ensures.cell c.record_cells-many.ensures.cells refl
      (g.S.Store.disk c.args.store.now) (g.S.Store.disk c.write_sure.new.store) (g.met.S.Store.only_now c.args.store.now) c.in-Err.ensures.run.within.passes settled held;
})

pub returns-in-Ok-write_out-clause-stages : goal.returns-in-Ok-write_out-clause-stages
returns-in-Ok-write_out-clause-stages g c = record {
  between = c.write_sure.new.store;
  made = subst (λ (xs : List Note). Notes (events_of xs) (g.S.Store.disk c.args.store.now).seen (g.S.Store.disk c.write_sure.new.store).seen)
      (body_is c.args.p.now c.args.epoch c.args.batch c.log_cell-base.result c.record_cells-many.result c.log_gate.result c.log_cell-base.ensures.cell c.record_cells-many.ensures.cells c.log_gate.ensures.cell) (c.in-Ok.ensures.does.all).seen;
  until = λ rs tells settled long held. body_alone c.args.sealer.now.keys c.args.p.now c.args.epoch c.args.batch rs (record_for c.args.sealer.now c.args.batch c.args.first c.args.asks.now c.args.words.now)
      c.log_cell-base.result c.record_cells-many.result c.log_gate.result long c.requires.batch
      (obeys_for c.args.p.now c.args.sealer.now c.args.batch c.args.first c.args.asks.now c.args.words.now (generation_fits c.next.result c.args.sealer.now.generation c.args.sealer.now.next c.next.ensures.identity (search rules)) c.next.ensures.few c.ranges.first.fits
      c.requires.asks c.requires.words (λ i. (c.type_inv.words i).fits) c.requires.keys_low c.requires.keys_apart) c.log_cell-base.ensures.cell c.record_cells-many.ensures.cells c.log_gate.ensures.cell
      (g.S.Store.disk c.args.store.now) (g.S.Store.disk c.write_sure.new.store) (g.met.S.Store.only_now c.args.store.now) c.in-Ok.ensures.run.within.passes settled held;
  since = λ rs tells settled long held. gate_moments c.args.sealer.now.keys c.args.p.now c.args.epoch c.args.batch rs (record_for c.args.sealer.now c.args.batch c.args.first c.args.asks.now c.args.words.now)
      c.log_cell-base.result c.record_cells-many.result c.log_gate.result long c.requires.batch
      (obeys_for c.args.p.now c.args.sealer.now c.args.batch c.args.first c.args.asks.now c.args.words.now (generation_fits c.next.result c.args.sealer.now.generation c.args.sealer.now.next c.next.ensures.identity (search rules)) c.next.ensures.few c.ranges.first.fits
      c.requires.asks c.requires.words (λ i. (c.type_inv.words i).fits) c.requires.keys_low c.requires.keys_apart) c.log_cell-base.ensures.cell c.record_cells-many.ensures.cells c.log_gate.ensures.cell
      (g.S.Store.disk c.args.store.now) (g.S.Store.disk c.write_sure.new.store) (g.met.S.Store.only_now c.args.store.now) c.in-Ok.ensures.run.within.passes settled held (g.S.Store.disk c.write_out.new.store) (c.in-Ok.ensures.run.within.rest tells)
      (spells_at c.args.sealer.now.keys c.args.p.now c.args.epoch c.args.batch c.log_cell-base.result c.record_cells-many.result (record_for c.args.sealer.now c.args.batch c.args.first c.args.asks.now c.args.words.now) c.as_slice.result.now
      (g.S.Store.disk c.write_sure.new.store).cells c.log_cell-base.ensures.cell c.record_cells-many.ensures.cells (c.as_slice.ensures.value ∙ c.record_bytes-bytes.ensures c.args.sealer.now.generation c.args.sealer.now.next) (c.in-Ok.ensures.run.written tells))
      (c.in-Ok-write_out.ensures.any_moment (c.in-Ok.ensures.durable tells));
}

pub returns-in-Err-write_out-clause-stages : goal.returns-in-Err-write_out-clause-stages
returns-in-Err-write_out-clause-stages g c = inr (record {
  told = told_unsure c.args.p.now c.args.epoch c.args.batch c.log_cell-base.result c.record_cells-many.result c.log_gate.result c.log_cell-base.ensures.cell c.record_cells-many.ensures.cells c.log_gate.ensures.cell
      _ _ _ _ _ _ c.in-Ok.ensures.does.all _ c.in-Err-write_out.ensures.told;
  stages = record {
    between = c.write_sure.new.store;
    made = subst (λ (xs : List Note). Notes (events_of xs) (g.S.Store.disk c.args.store.now).seen (g.S.Store.disk c.write_sure.new.store).seen)
        (body_is c.args.p.now c.args.epoch c.args.batch c.log_cell-base.result c.record_cells-many.result c.log_gate.result c.log_cell-base.ensures.cell c.record_cells-many.ensures.cells c.log_gate.ensures.cell) (c.in-Ok.ensures.does.all).seen;
    until = λ rs tells settled long held. body_alone c.args.sealer.now.keys c.args.p.now c.args.epoch c.args.batch rs (record_for c.args.sealer.now c.args.batch c.args.first c.args.asks.now c.args.words.now)
        c.log_cell-base.result c.record_cells-many.result c.log_gate.result long c.requires.batch
        (obeys_for c.args.p.now c.args.sealer.now c.args.batch c.args.first c.args.asks.now c.args.words.now (generation_fits c.next.result c.args.sealer.now.generation c.args.sealer.now.next c.next.ensures.identity (search rules)) c.next.ensures.few c.ranges.first.fits
        c.requires.asks c.requires.words (λ i. (c.type_inv.words i).fits) c.requires.keys_low c.requires.keys_apart) c.log_cell-base.ensures.cell c.record_cells-many.ensures.cells c.log_gate.ensures.cell
        (g.S.Store.disk c.args.store.now) (g.S.Store.disk c.write_sure.new.store) (g.met.S.Store.only_now c.args.store.now) c.in-Ok.ensures.run.within.passes settled held;
    since = λ rs tells settled long held. gate_moments c.args.sealer.now.keys c.args.p.now c.args.epoch c.args.batch rs (record_for c.args.sealer.now c.args.batch c.args.first c.args.asks.now c.args.words.now)
        c.log_cell-base.result c.record_cells-many.result c.log_gate.result long c.requires.batch
        (obeys_for c.args.p.now c.args.sealer.now c.args.batch c.args.first c.args.asks.now c.args.words.now (generation_fits c.next.result c.args.sealer.now.generation c.args.sealer.now.next c.next.ensures.identity (search rules)) c.next.ensures.few c.ranges.first.fits
        c.requires.asks c.requires.words (λ i. (c.type_inv.words i).fits) c.requires.keys_low c.requires.keys_apart) c.log_cell-base.ensures.cell c.record_cells-many.ensures.cells c.log_gate.ensures.cell
        (g.S.Store.disk c.args.store.now) (g.S.Store.disk c.write_sure.new.store) (g.met.S.Store.only_now c.args.store.now) c.in-Ok.ensures.run.within.passes settled held (g.S.Store.disk c.write_out.new.store) (c.in-Ok.ensures.run.within.rest tells)
        (spells_at c.args.sealer.now.keys c.args.p.now c.args.epoch c.args.batch c.log_cell-base.result c.record_cells-many.result (record_for c.args.sealer.now c.args.batch c.args.first c.args.asks.now c.args.words.now) c.as_slice.result.now
        (g.S.Store.disk c.write_sure.new.store).cells c.log_cell-base.ensures.cell c.record_cells-many.ensures.cells (c.as_slice.ensures.value ∙ c.record_bytes-bytes.ensures c.args.sealer.now.generation c.args.sealer.now.next) (c.in-Ok.ensures.run.written tells))
        (c.in-Err-write_out.ensures.any_moment (c.in-Ok.ensures.durable tells));
  };
})
