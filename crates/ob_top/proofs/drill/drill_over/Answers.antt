use Rattle.std.proofs.Common.{◌≡◌, ◌∙◌, ◌∷◌, [], List, ℕ, length, ap, refl, sym, subst}
use Rattle.std.specs.Borrow.{GName}
use Rattle.std.specs.FinMap.{empty}
use Rattle.ob_fetch.specs.declared.run.Run.{Run}
use Rattle.std.proofs.lemmas.Result.{IfErr-weaker, IfOk-weaker}
use Rattle.ob_cells.specs.Jobs.{Manned}
use Rattle.ob_store.specs.Calls.{GoesOn}
use Rattle.ob_vault.specs.RingKind.{IsRingMap}
use Rattle.ob_vault.specs.RingVaults.{RingHolds, counts_of_run, running}
use Rattle.ob_desk.specs.Beats.{beat_kind}
use Rattle.ob_top.specs.Drilling.{IsWant}
use Rattle.ob_top.specs.SelfTests.{IsServedAndRead}
use Rattle.ob_top.proofs.DrillRefusals.{both_refused, drill_wants, lent_goes, served_and_read, want_is}
use Rattle.ob_vault.proofs.Begun.{held_with, holds_found}
use Rattle.ob_top.proofs.drill.drill_over.Goals as goal

first_same : (a b : GName) (xs ys : List GName) → ◌≡◌ {A = List GName} (a ∷ xs) (b ∷ ys) → a ≡ b
first_same a b xs ys is = cc is

none_in : (l : List ℕ) → length l ≡ 0 → l ≡ []
none_in [] is = refl
none_in (x ∷ l) is = absurd (cc)

pub returns-clause-goes : goal.returns-clause-goes
returns-clause-goes g c =
    let names : c.over-arg-1.given ≡ c.into_lent-store.result.0.ghost_name = sym (c.into_lent-store.ensures.name ∙ first_same _ _ _ _ c.drill_vault-drilled.ensures.anchors ∙ c.over-vault.ensures.name) in
    subst (λ x. GoesOn (g.S.Store.disk x) (g.S.Store.disk c.store-1.given.0)) c.over-vault.ensures.store
    (subst (λ x. GoesOn (g.S.Store.disk c.over-vault.result.lent.store.now) (g.S.Store.disk x)) (sym (c.store-1.given.1 names ∙ c.hand_back.ensures.store ∙ c.into_lent-store.ensures.store)) (lent_goes _ _ _ _ _ _ c.drill_vault-drilled.ensures.goes))

pub returns-clause-drilled : goal.returns-clause-drilled
returns-clause-drilled g c = λ keys f n r is few.
    let names : c.over-arg-1.given ≡ c.into_lent-store.result.0.ghost_name = sym (c.into_lent-store.ensures.name ∙ first_same _ _ _ _ c.drill_vault-drilled.ensures.anchors ∙ c.over-vault.ensures.name) in
    let first = c.over-vault.result in
    let run_is : first.run ≡ f.run = c.over-vault.ensures.run ∙ sym r.run_is in
    let map_is : IsRingMap keys c.args.begun.params (g.S.Store.disk first.lent.store.now) f empty = subst (λ x. IsRingMap keys c.args.begun.params (g.S.Store.disk x) f empty) (sym c.over-vault.ensures.store) r.map in
    IfOk-weaker c.drill_vault-drilled.result _ _
    (λ d has.
    subst (λ x. IsServedAndRead g.S.Store.disk (beat_kind g.B.Beat.passes g.B.Beat.exact) keys c.args.begun.params n f x c.store-1.given.0) c.over-vault.ensures.store
    (subst (λ x. IsServedAndRead g.S.Store.disk (beat_kind g.B.Beat.passes g.B.Beat.exact) keys c.args.begun.params n f first.lent.store.now x) (sym (c.store-1.given.1 names ∙ c.hand_back.ensures.store ∙ c.into_lent-store.ensures.store))
    (served_and_read _ (λ v. counts_of_run v.run) (λ v u holds. holds.counts_are) g.S.Store.disk (λ x t image at left. g.met.S.Store.counts_now x t image at left) (λ x image left. g.met.S.Store.only_now x image left)
    (λ v. running v.lent.store.now (g.T.Tape.present v.lent.tape.now) (g.T.Tape.drawn v.lent.tape.now) v.crew.lanes v.run)
    (record { called = λ v call answer notes w one. one; holds = λ v u is. is })
    (record { disk_is = λ v. (v.lent.store.ghost_name, v.lent.tape.ghost_name, refl); holds = λ v u is. is; sound = λ v u is. is; stands = λ v i at is. is; rests = λ w v i sound left. sound.images i left })
    keys c.args.begun.params c.requires.numbers r.found f first r.goes_on run_is (ap (λ (w : Manned). w.lanes) c.over-vault.ensures.crew ∙ c.requires.serves.lanes) r.planned
    (ap (λ x. g.T.Tape.drawn x) c.over-vault.ensures.tape ∙ none_in _ c.requires.serves.none_drawn)
    (ap (λ x. g.T.Tape.present x) c.over-vault.ensures.tape ∙ c.requires.serves.present_is ∙ ap (λ (x : Run). x.sealer.generation) (sym r.run_is)) r.epoch r.left map_is refl refl
    _ n few c.args.begun.scripts is c.args.begun.runners.items c.requires.runners _ d has)))
    c.drill_vault-drilled.ensures.drilled

pub returns-clause-refused : goal.returns-clause-refused
returns-clause-refused g c =
    let names : c.over-arg-1.given ≡ c.into_lent-store.result.0.ghost_name = sym (c.into_lent-store.ensures.name ∙ first_same _ _ _ _ c.drill_vault-drilled.ensures.anchors ∙ c.over-vault.ensures.name) in
    let first = c.over-vault.result in
    let (keys, f, r) = c.requires.ready in
    let (n, few, is) = c.requires.script in
    let run_is : first.run ≡ f.run = c.over-vault.ensures.run ∙ sym r.run_is in
    let here = holds_found keys c.args.begun.params f (g.S.Store.disk c.args.store.now) empty r.goes_on.serving r.map in
    let map_is : IsRingMap keys c.args.begun.params (g.S.Store.disk first.lent.store.now) f empty = subst (λ x. IsRingMap keys c.args.begun.params (g.S.Store.disk x) f empty) (sym c.over-vault.ensures.store) r.map in
    IfErr-weaker c.drill_vault-drilled.result _ _
    (λ refused (fails, cause).
    subst (λ x. IsWant (g.S.Store.disk x) (g.S.Store.disk c.store-1.given.0) refused) c.over-vault.ensures.store
    (subst (λ x. IsWant (g.S.Store.disk first.lent.store.now) (g.S.Store.disk x) refused) (sym (c.store-1.given.1 names ∙ c.hand_back.ensures.store ∙ c.into_lent-store.ensures.store))
    (want_is (g.S.Store.disk first.lent.store.now) (g.S.Store.disk c.drill_vault-drilled.new.vault.lent.store.now) refused
    (drill_wants _ (λ v. counts_of_run v.run) (λ v u holds. holds.counts_are) g.S.Store.disk (λ x t image at left. g.met.S.Store.counts_now x t image at left) (λ x image left. g.met.S.Store.only_now x image left)
    (λ v. running v.lent.store.now (g.T.Tape.present v.lent.tape.now) (g.T.Tape.drawn v.lent.tape.now) v.crew.lanes v.run)
    (record { called = λ v call answer notes w one. one; holds = λ v u is. is })
    (record { disk_is = λ v. (v.lent.store.ghost_name, v.lent.tape.ghost_name, refl); holds = λ v u is. is; sound = λ v u is. is; stands = λ v i at is. is; rests = λ w v i sound left. sound.images i left })
    keys c.args.begun.params c.requires.numbers r.found f first r.goes_on run_is (ap (λ (w : Manned). w.lanes) c.over-vault.ensures.crew ∙ c.requires.serves.lanes) r.planned
    (ap (λ x. g.T.Tape.drawn x) c.over-vault.ensures.tape ∙ none_in _ c.requires.serves.none_drawn)
    (ap (λ x. g.T.Tape.present x) c.over-vault.ensures.tape ∙ c.requires.serves.present_is ∙ ap (λ (x : Run). x.sealer.generation) (sym r.run_is)) r.epoch r.left map_is refl refl
    _ n few c.args.begun.scripts is c.args.begun.runners.items c.requires.runners _ refused fails)
    cause)))
    (both_refused _ _ c.drill_vault-drilled.result c.drill_vault-drilled.ensures.refused c.drill_vault-drilled.ensures.cause)

pub returns-clause-none_out : goal.returns-clause-none_out
returns-clause-none_out g c =
    let names : c.over-arg-1.given ≡ c.into_lent-store.result.0.ghost_name = sym (c.into_lent-store.ensures.name ∙ first_same _ _ _ _ c.drill_vault-drilled.ensures.anchors ∙ c.over-vault.ensures.name) in
    subst (λ x. (g.S.Store.disk x).out ≡ 0) (sym (c.store-1.given.1 names ∙ c.hand_back.ensures.store)) c.into_lent-store.ensures.none_out

pub over-vault-requires-clause-none_out : goal.over-vault-requires-clause-none_out
over-vault-requires-clause-none_out g c = c.requires.none_out

pub over-vault-requires-clause-told : goal.over-vault-requires-clause-told
over-vault-requires-clause-told g c = c.requires.serves.gates

pub over-vault-requires-clause-params : goal.over-vault-requires-clause-params
over-vault-requires-clause-params g c = c.requires.serves.planner

pub over-vault-requires-clause-left : goal.over-vault-requires-clause-left
over-vault-requires-clause-left g c = c.requires.serves.few

pub over-vault-requires-clause-fit : goal.over-vault-requires-clause-fit
over-vault-requires-clause-fit g c = c.requires.serves.fit

pub over-vault-requires-clause-present : goal.over-vault-requires-clause-present
over-vault-requires-clause-present g c = c.requires.serves.present_is

pub over-vault-requires-clause-drawn : goal.over-vault-requires-clause-drawn
over-vault-requires-clause-drawn g c = c.requires.serves.none_drawn

pub drill_vault-drilled-requires-clause-params : goal.drill_vault-drilled-requires-clause-params
drill_vault-drilled-requires-clause-params g c κs within = ap (λ (r : Run). r.params) c.over-vault.ensures.run ∙ c.requires.serves.params

pub drill_vault-drilled-requires-clause-numbers : goal.drill_vault-drilled-requires-clause-numbers
drill_vault-drilled-requires-clause-numbers g c κs within = c.requires.numbers

pub drill_vault-drilled-requires-clause-script : goal.drill_vault-drilled-requires-clause-script
drill_vault-drilled-requires-clause-script g c κs within = c.requires.script

pub drill_vault-drilled-requires-clause-runners : goal.drill_vault-drilled-requires-clause-runners
drill_vault-drilled-requires-clause-runners g c κs within = c.requires.runners

pub drill_vault-drilled-requires-clause-left : goal.drill_vault-drilled-requires-clause-left
drill_vault-drilled-requires-clause-left g c κs within =
    let (keys, f, r) = c.requires.ready in
    ap (λ (x : Run). x.left) (c.over-vault.ensures.run ∙ sym r.run_is) ∙ r.left

pub drill_vault-drilled-requires-clause-begins : goal.drill_vault-drilled-requires-clause-begins
drill_vault-drilled-requires-clause-begins g c κs within =
    let (keys, f, r) = c.requires.ready in
    ap (λ (x : Run). x.epoch) (c.over-vault.ensures.run ∙ sym r.run_is) ∙ r.epoch

pub drill_vault-drilled-requires-clause-held : goal.drill_vault-drilled-requires-clause-held
drill_vault-drilled-requires-clause-held g c κs within =
    let (keys, f, r) = c.requires.ready in
    let here = holds_found keys c.args.begun.params f (g.S.Store.disk c.args.store.now) empty r.goes_on.serving r.map in (
      held_with f.run empty,
      subst (λ x. RingHolds c.over-vault.result.run (g.S.Store.disk x) (held_with f.run empty)) (sym c.over-vault.ensures.store)
          (subst (λ (x : Run). RingHolds x (g.S.Store.disk c.args.store.now) (held_with f.run empty)) (r.run_is ∙ sym c.over-vault.ensures.run) here),
      refl,
      refl,
    )
