use Rattle.std.proofs.Common.{inl, refl, ◌≡◌, suc, ◌+◌, ◌<◌, ◌≤◌, ◌^◌, length, Err, subst, sym, arith, add-one, rules}
use Rattle.ob_cells.specs.Runs.{IsFurther}
use Rattle.ob_twin.specs.declared.twin.Twin.TheVariants.{EPOCH}
use Rattle.ob_twin.specs.Refused.{IsSetFault}
use Rattle.ob_flat.specs.Ends.{EndsFrom, EndTells, IfUnsure}
use Rattle.ob_store.specs.Calls.{Holds}
use Rattle.ob_flat.specs.Rows.{row_cells}
use Rattle.ob_flat.specs.Places.{area_of}
use Rattle.ob_pads.specs.Seals.{ClearBy}
use Rattle.ob_serial.specs.VaultViews.{end_answer}
use Rattle.ob_serial.specs.declared.vault.EndErr.{EndErr}
use Rattle.ob_flat.proofs.Refusals.{closed_clear, none_done, refused_leaves, refused_tells}
use Rattle.ob_flat.proofs.Frames.{none_pass}
use Rattle.ob_flat.proofs.held_end.end_held.Goals as goal

pub returns-then-is_worn-clause-images : goal.returns-then-is_worn-clause-images
returns-then-is_worn-clause-images g c = λ p n now next from.
    none_done c.args.held.now.sealer.keys p n (g.S.Store.disk c.args.held.now.store.now) (suc c.args.held.now.epoch) c.args.values.now now next from (g.met.S.Store.only_now c.args.held.now.store.now)

pub returns-in-Err-clause-images : goal.returns-in-Err-clause-images
returns-in-Err-clause-images g c = λ p n now next from.
    let old = g.S.Store.disk c.args.held.now.store.now in
    let new = g.S.Store.disk c.write_epoch.new.store in
    let here = subst (λ e. EndsFrom c.args.held.now.sealer.keys p n old e c.args.values.now now next) (sym (add-one c.args.held.now.epoch)) from in
    refused_leaves c.args.held.now.sealer.keys p n old new now next c.in-Err.refused c.end_err.result c.end_err.ensures (c.in-Err.ensures.before p n now next here) (c.in-Err.ensures.old_or_new p n now next here)

pub returns-in-Err-clause-called : goal.returns-in-Err-clause-called
returns-in-Err-clause-called g c = λ p keys.
    let old = g.S.Store.disk c.args.held.now.store.now in
    let new = g.S.Store.disk c.write_epoch.new.store in
    let e = c.in-Err.ensures in
    let before = c.args.held.now.sealer in
    let known = c.args.held.now.gates.epoch in
    let shown_old = g.W.Watch.trace c.args.watch.now in
    let shown_new = g.W.Watch.trace c.write_epoch.new.watch in
    let next = add-one c.args.held.now.epoch in
    let room : c.args.held.now.sealer.next + length c.args.values.now ≤ 2 ^ 62 = search rules in
    let small : suc c.args.held.now.epoch < 2 ^ 62 = omega arith in
    refused_tells p known c.args.held.now.epoch c.args.values.now (record { store = c.args.held.now.store.now; sealing = c.args.held.now.sealer }) (record { store = c.write_epoch.new.store; sealing = c.write_epoch.new.sealer }) old new shown_old shown_new
    c.in-Err.refused c.end_err.result c.end_err.ensures small (subst (λ k. c.args.held.now.sealer.next + k ≤ 2 ^ 62) keys room) (subst (λ k. IsFurther k c.args.held.now.sealer c.write_epoch.new.sealer) keys e.some_sealed)
    (subst (λ n. IsSetFault EPOCH n c.in-Err.refused) next e.faults)
    (subst (λ n. EndTells p.keys known n old.seen new.seen shown_old shown_new (Err c.in-Err.refused)) next
    (subst (λ k. EndTells k known (c.args.held.now.epoch + 1) old.seen new.seen shown_old shown_new (Err c.in-Err.refused)) keys e.does))
    c.args.values.now keys
    (subst (λ n. IfUnsure (old.tells → Holds (area_of p.keys n) (row_cells before.keys (area_of p.keys n) before.generation before.next c.args.values.now) new.cells) c.in-Err.refused) next
    (subst (λ k. IfUnsure (old.tells → Holds (area_of k (c.args.held.now.epoch + 1)) (row_cells before.keys (area_of k (c.args.held.now.epoch + 1)) before.generation before.next c.args.values.now) new.cells) c.in-Err.refused) keys e.written_unsure))
    (subst (λ k. IfUnsure (c.write_epoch.new.sealer ≡ record before { next = before.next + k }) c.in-Err.refused) keys e.sealed_unsure)

pub returns-clause-images : goal.returns-clause-images
returns-clause-images g c = λ p n now next from.
    let old = g.S.Store.disk c.args.held.now.store.now in
    let here = subst (λ e. EndsFrom c.args.held.now.sealer.keys p n old e c.args.values.now now next) (sym (add-one c.args.held.now.epoch)) from in
    let e = c.in-Ok.ensures in
    (e.old_or_new p n now next here, record { tells = e.serves.tells from.tells; settled = e.durable from.tells; stands = e.done p n now next here })

pub returns-then-is_worn-clause-passes : goal.returns-then-is_worn-clause-passes
returns-then-is_worn-clause-passes g c = none_pass (length c.args.values.now) (suc c.args.held.now.epoch) (g.S.Store.disk c.args.held.now.store.now)

-- ---- in the clear

pub returns-then-is_worn-clause-clear : goal.returns-then-is_worn-clause-clear
returns-then-is_worn-clause-clear g c = λ tells cell low. inl (inl refl)

pub returns-in-Err-clause-clear : goal.returns-in-Err-clause-clear
returns-in-Err-clause-clear g c = λ tells.
    let keys = c.args.held.now.sealer.keys in
    let old = (g.S.Store.disk c.args.held.now.store.now).cells in
    let new = g.S.Store.disk c.write_epoch.new.store in
    subst (λ (e : EndErr). ClearBy (end_answer (Err e)) keys new.seen old new.cells) (sym c.end_err.ensures) (closed_clear keys new.seen old new.cells c.in-Err.refused (c.in-Err.ensures.clear tells))

pub returns-clause-clear : goal.returns-clause-clear
returns-clause-clear g c = λ tells. c.in-Ok.ensures.clear tells
