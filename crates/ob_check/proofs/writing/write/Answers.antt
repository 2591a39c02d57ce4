use Rattle.std.proofs.Common.{◌≡◌, ◌≤◌, ◌+◌, ◌∙◌, [], arith, sym, subst, ap, length, take, List, ℕ, refl}
use Rattle.std.proofs.lemmas.List.{length-take-le}
use Rattle.ob_base.specs.declared.fault.Fault.TheVariants.{StoreFault, Worn}
use Rattle.std.specs.declared.option.Option.TheVariants.{None}
use Rattle.ob_base.specs.Layout.{checkpoint_cells, checkpoint_len}
use Rattle.ob_base.proofs.LayoutLaws.{checkpoint_cells_hold}
use Rattle.ob_store.specs.Runs.{write_notes}
use Rattle.ob_store.proofs.Doing.{does_all, does_err, first_more, first_all, tells_none}
use Rattle.ob_check.specs.Written.{area_of}
use Rattle.ob_store.specs.Images.{SameOff}
use Rattle.ob_store.specs.Calls.{IsFailed, IsStoreFault}
use Rattle.ob_store.proofs.Serving.{serves_err, serves_ok}
use Rattle.ob_store.proofs.Keeping.{serves_none}
use Rattle.ob_store.proofs.Moments.{passed_none}
use Rattle.ob_store.specs.declared.watch.Note.{Note}
use Rattle.ob_store.specs.Told.{Tells, TellsFirst}
use Rattle.ob_seal.specs.Sealing.{Sealing}
use Rattle.ob_cells.specs.Runs.{IsFurther}
use Rattle.ob_tables.specs.Content.{content_of}
use Rattle.ob_check.proofs.WriteLaws.{held, notes_same, within}
use Rattle.ob_check.proofs.writing.write.Goals as goal

pub returns-then-next-many-gt-NUMBER_LIMIT-clause-does : goal.returns-then-next-many-gt-NUMBER_LIMIT-clause-does
returns-then-next-many-gt-NUMBER_LIMIT-clause-does g c =
    let seen = (g.S.Store.disk c.args.store.now).seen in
    let trace = g.W.Watch.trace c.args.watch.now in
    does_err seen seen trace trace (write_notes (area_of c.args.p.now c.args.epoch) (checkpoint_cells c.args.p.now)) (Worn 4611686018427387904)
    (first_more seen seen trace trace [] (write_notes (area_of c.args.p.now c.args.epoch) (checkpoint_cells c.args.p.now)) (first_all seen seen trace trace [] (tells_none seen trace)))

pub slice_bounds-pieces-end : goal.slice_bounds-pieces-end
slice_bounds-pieces-end g c =
    let long : c.checkpoint_len.result ≤ length c.bytes.result.now =
    omega (arith, checkpoint_cells_hold c.args.p.now, c.requires.sheet, c.spell.ensures.long, ap (λ (xs : List ℕ). length xs) c.bytes.ensures, c.checkpoint_len.ensures.len) in
    sym (length-take-le c.checkpoint_len.result c.bytes.result.now long)

-- ---- what each of them says of the store

pub returns-then-next-many-gt-NUMBER_LIMIT-clause-serves : goal.returns-then-next-many-gt-NUMBER_LIMIT-clause-serves
returns-then-next-many-gt-NUMBER_LIMIT-clause-serves g c = serves_none IsStoreFault (g.S.Store.disk c.args.store.now) _ (λ blamed. blamed)

pub returns-then-next-many-gt-NUMBER_LIMIT-clause-passes : goal.returns-then-next-many-gt-NUMBER_LIMIT-clause-passes
returns-then-next-many-gt-NUMBER_LIMIT-clause-passes g c =
    passed_none (g.S.Store.disk c.args.store.now) (SameOff (area_of c.args.p.now c.args.epoch) (checkpoint_cells c.args.p.now)) (λ image k off. refl)

pub returns-in-Ok-clause-serves : goal.returns-in-Ok-clause-serves
returns-in-Ok-clause-serves g c =
    let written = c.write_long.ensures.serves in
    serves_ok IsStoreFault _ _ _ written.goes written.out c.in-Ok.ensures.serves.tells

pub returns-in-Err-clause-serves : goal.returns-in-Err-clause-serves
returns-in-Err-clause-serves g c = serves_err IsFailed IsStoreFault _ _ _ _ (λ told. tt) c.in-Err.ensures.serves

-- ---- all cells were written

pub returns-in-Ok-clause-written : goal.returns-in-Ok-clause-written
returns-in-Ok-clause-written g c = λ tells.
    let p = c.args.p.now in
    let s = c.args.sealer.now in
    let spelled = ap (λ n. take n c.bytes.result.now) c.checkpoint_len.ensures.len ∙ ap (λ (xs : List ℕ). take (checkpoint_len p) xs) c.bytes.ensures ∙ c.spell.ensures.spelled in
    held s.keys p c.args.epoch (content_of c.args.tables.now) s.generation s.next (g.S.Store.disk c.write_long.new.store).cells c.area_of.result c.checkpoint_cells-many.result (take c.checkpoint_len.result c.bytes.result.now)
    c.area_of.ensures.cell c.checkpoint_cells-many.ensures.cells spelled (c.in-Ok.ensures.run.written tells)

pub returns-in-Ok-clause-sealed : goal.returns-in-Ok-clause-sealed
returns-in-Ok-clause-sealed g c = c.in-Ok.ensures.run.seals.all ∙ ap (λ n. record c.args.sealer.now { next = c.args.sealer.now.next + n }) c.checkpoint_cells-many.ensures.cells

pub returns-in-Ok-clause-some_sealed : goal.returns-in-Ok-clause-some_sealed
returns-in-Ok-clause-some_sealed g c = subst (λ n. IsFurther n c.args.sealer.now c.write_long.new.sealer) c.checkpoint_cells-many.ensures.cells c.in-Ok.ensures.run.seals.some

pub returns-in-Ok-clause-faults : goal.returns-in-Ok-clause-faults
returns-in-Ok-clause-faults g c =
    let next = ap (λ (x : ℕ × ℕ). x.1) c.next-next.ensures.identity in
    omega (arith, next, c.checkpoint_cells-many.ensures.cells, c.if-next-many-gt-NUMBER_LIMIT.false)

pub returns-in-Ok-clause-after_worn : goal.returns-in-Ok-clause-after_worn
returns-in-Ok-clause-after_worn g c = λ worn.
    let next = ap (λ (x : ℕ × ℕ). x.1) c.next-next.ensures.identity in
    absurd (omega (arith, worn, next, c.checkpoint_cells-many.ensures.cells, c.if-next-many-gt-NUMBER_LIMIT.false))

pub returns-in-Ok-clause-rest : goal.returns-in-Ok-clause-rest
returns-in-Ok-clause-rest g c = (within _ _ _ _ _ _ c.area_of.ensures.cell c.checkpoint_cells-many.ensures.cells c.in-Ok.ensures.run.within).rest

pub returns-in-Ok-clause-passes : goal.returns-in-Ok-clause-passes
returns-in-Ok-clause-passes g c = (within _ _ _ _ _ _ c.area_of.ensures.cell c.checkpoint_cells-many.ensures.cells c.in-Ok.ensures.run.within).passes

pub returns-in-Ok-clause-does : goal.returns-in-Ok-clause-does
returns-in-Ok-clause-does g c =
    let seen = (g.S.Store.disk c.args.store.now).seen in
    let seen' = (g.S.Store.disk c.write_long.new.store).seen in
    let trace = g.W.Watch.trace c.args.watch.now in
    let trace' = g.W.Watch.trace c.write_long.new.watch in
    does_all seen seen' trace trace' (write_notes (area_of c.args.p.now c.args.epoch) (checkpoint_cells c.args.p.now)) tt
    (subst (λ (notes : List Note). Tells notes notes seen seen' trace trace') (notes_same _ _ _ _ c.area_of.ensures.cell c.checkpoint_cells-many.ensures.cells) c.in-Ok.ensures.does.all)

-- ---- the store failed

pub returns-in-Err-clause-some_sealed : goal.returns-in-Err-clause-some_sealed
returns-in-Err-clause-some_sealed g c = subst (λ n. IsFurther n c.args.sealer.now c.write_long.new.sealer) c.checkpoint_cells-many.ensures.cells c.in-Err.ensures.run.seals.some

pub returns-in-Err-clause-faults : goal.returns-in-Err-clause-faults
returns-in-Err-clause-faults g c =
    let next = ap (λ (x : ℕ × ℕ). x.1) c.next-next.ensures.identity in
    (refl, omega (arith, next, c.checkpoint_cells-many.ensures.cells, c.if-next-many-gt-NUMBER_LIMIT.false))

pub returns-in-Err-clause-after_worn : goal.returns-in-Err-clause-after_worn
returns-in-Err-clause-after_worn g c = λ worn.
    let next = ap (λ (x : ℕ × ℕ). x.1) c.next-next.ensures.identity in
    absurd (omega (arith, worn, next, c.checkpoint_cells-many.ensures.cells, c.if-next-many-gt-NUMBER_LIMIT.false))

pub returns-in-Err-clause-rest : goal.returns-in-Err-clause-rest
returns-in-Err-clause-rest g c = (within _ _ _ _ _ _ c.area_of.ensures.cell c.checkpoint_cells-many.ensures.cells c.in-Err.ensures.run.within).rest

pub returns-in-Err-clause-passes : goal.returns-in-Err-clause-passes
returns-in-Err-clause-passes g c = (within _ _ _ _ _ _ c.area_of.ensures.cell c.checkpoint_cells-many.ensures.cells c.in-Err.ensures.run.within).passes

pub returns-in-Err-clause-does : goal.returns-in-Err-clause-does
returns-in-Err-clause-does g c =
    let seen = (g.S.Store.disk c.args.store.now).seen in
    let seen' = (g.S.Store.disk c.write_long.new.store).seen in
    let trace = g.W.Watch.trace c.args.watch.now in
    let trace' = g.W.Watch.trace c.write_long.new.watch in
    does_err seen seen' trace trace' (write_notes (area_of c.args.p.now c.args.epoch) (checkpoint_cells c.args.p.now)) (StoreFault None)
    (subst (λ (notes : List Note). TellsFirst notes seen seen' trace trace') (notes_same _ _ _ _ c.area_of.ensures.cell c.checkpoint_cells-many.ensures.cells) c.in-Err.ensures.does.first)
