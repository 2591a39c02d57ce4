use Rattle.std.proofs.Common.{ℕ, [], length, ◌≤◌, refl, subst, ◌∙◌, ◌≡◌, List, ◌∷◌, ap, sym}
use Rattle.std.specs.Borrow.{GName}
use Rattle.ob_base.specs.declared.params.Params.{Params}
use Rattle.ob_cells.specs.Jobs.{Manned}
use Rattle.ob_fetch.specs.declared.run.Run.{Run}
use Rattle.ob_vault.specs.RingKind.{ring_kind}
use Rattle.ob_vault.specs.RingLives.{ring_lives}
use Rattle.ob_top.specs.Audited.{ring_audits}
use Rattle.ob_vault.specs.RingVaults.{run_over, running}
use Rattle.ob_top.specs.Outside.{words_given}
use Rattle.ob_top.proofs.Lent.{serves_lent}
use Rattle.ob_top.proofs.Opens.{shares_fit}
use Rattle.ob_top.proofs.Serving.{renamed}
use Rattle.ob_top.proofs.run.serve_on.Goals as goal

first_same : (a b : GName) (xs ys : List GName) → ◌≡◌ {A = List GName} (a ∷ xs) (b ∷ ys) → a ≡ b
first_same a b xs ys is = cc is

rest_same : (a b : GName) (xs ys : List GName) → ◌≡◌ {A = List GName} (a ∷ xs) (b ∷ ys) → xs ≡ ys
rest_same a b xs ys is = cc is

none_in : (l : List ℕ) → length l ≡ 0 → l ≡ []
none_in [] is = refl
none_in (x ∷ l) is = absurd (cc)

pub returns-clause-serves : goal.returns-clause-serves
returns-clause-serves g c = λ f found same goes planned.
    let first = c.over-vault.result in
    let (s, its) = serves_lent first _ _ c.args.means.threads c.args.begun.params c.args.means.shares c.args.begun.scripts _ c.args.begun.runners.items _ _ _ _ _ c.conduct-ended.result _ _ c.conduct-ended.ensures.done c.requires.whole c.requires.sound (shares_fit _ _ _ c.requires.fits) c.requires.runners
    g.S.Store.disk (λ x t image at left. g.met.S.Store.counts_now x t image at left) (λ x image left. g.met.S.Store.only_now x image left) (λ v. running v.lent.store.now (g.T.Tape.present v.lent.tape.now) (g.T.Tape.drawn v.lent.tape.now) v.crew.lanes v.run)
    (record { called = λ v call answer notes w one. one; holds = λ v u is. is })
    (record { disk_is = λ v. (v.lent.store.ghost_name, v.lent.tape.ghost_name, refl); holds = λ v u is. is; sound = λ v u is. is; stands = λ v i at is. is; rests = λ w v i sound left. sound.images i left })
    c.args.keys.now c.args.means.lanes found f (run_over c.args.begun.opening) goes c.over-vault.ensures.run same refl refl
    c.args.begun.opening.small (subst (λ (x : Params). c.args.begun.opening.left ≤ x.batches) c.requires.serves.params c.requires.serves.few) (subst (λ (w : Manned). w.lanes ≡ c.args.means.lanes) (sym c.over-vault.ensures.crew) c.requires.serves.lanes) c.requires.lanes planned
    (ap (λ x. g.T.Tape.drawn x) c.over-vault.ensures.tape ∙ none_in _ c.requires.serves.none_drawn)
    (ap (λ x. g.T.Tape.present x) c.over-vault.ensures.tape ∙ c.requires.serves.present_is) in
    let names : c.over-arg-1.given ≡ c.into_lent-store.result.0.ghost_name = sym (c.into_lent-store.ensures.name ∙ first_same _ _ _ _ c.conduct-ended.ensures.anchors ∙ c.over-vault.ensures.name) in
    let tape_names : c.over-arg-2-1.given ≡ c.into_lent-store.result.1.ghost_name = sym (c.into_lent-store.ensures.tape_name ∙ first_same _ _ _ _ (rest_same _ _ _ _ c.conduct-ended.ensures.anchors) ∙ c.over-vault.ensures.tape_name) in
    renamed ring_kind ring_lives ring_audits g.S.Store.disk _ c.args.keys.now c.args.begun.params f f.run.sealer c.args.begun.opening.sealer c.args.begun.scripts _ _ _ c.args.store.now _ c.store-1.given.0 _ _ _ _ _
    (ap (λ (r : Run). r.sealer) same) (ap (λ x. words_given (g.T.Tape.present x) (g.T.Tape.drawn x)) (sym (c.tape-1.given.1 tape_names ∙ c.hand_back.ensures.tape ∙ c.into_lent-store.ensures.tape)))
    c.over-vault.ensures.store (c.store-1.given.1 names ∙ c.hand_back.ensures.store ∙ c.into_lent-store.ensures.store) s

pub returns-clause-none_out : goal.returns-clause-none_out
returns-clause-none_out g c =
    let names : c.over-arg-1.given ≡ c.into_lent-store.result.0.ghost_name = sym (c.into_lent-store.ensures.name ∙ first_same _ _ _ _ c.conduct-ended.ensures.anchors ∙ c.over-vault.ensures.name) in
    subst (λ x. (g.S.Store.disk x).out ≡ 0) (sym (c.store-1.given.1 names ∙ c.hand_back.ensures.store)) c.into_lent-store.ensures.none_out

pub over-vault-requires-clause-none_out : goal.over-vault-requires-clause-none_out
over-vault-requires-clause-none_out g c = c.requires.none_out

pub over-vault-requires-clause-told : goal.over-vault-requires-clause-told
over-vault-requires-clause-told g c = c.requires.serves.gates

pub over-vault-requires-clause-params : goal.over-vault-requires-clause-params
over-vault-requires-clause-params g c = c.requires.serves.planner

pub over-vault-requires-clause-left : goal.over-vault-requires-clause-left
over-vault-requires-clause-left g c = c.requires.serves.few

pub over-vault-requires-clause-fit : goal.over-vault-requires-clause-fit
over-vault-requires-clause-fit g c = c.requires.serves.fit

pub over-vault-requires-clause-present : goal.over-vault-requires-clause-present
over-vault-requires-clause-present g c = c.requires.serves.present_is

pub over-vault-requires-clause-drawn : goal.over-vault-requires-clause-drawn
over-vault-requires-clause-drawn g c = c.requires.serves.none_drawn

pub conduct-ended-requires-clause-params : goal.conduct-ended-requires-clause-params
conduct-ended-requires-clause-params g c κs within = ap (λ (r : Run). r.params) c.over-vault.ensures.run ∙ c.requires.serves.params

pub conduct-ended-requires-clause-serves : goal.conduct-ended-requires-clause-serves
conduct-ended-requires-clause-serves g c κs within = ap (λ (r : Run). r.spent) c.over-vault.ensures.run

pub conduct-ended-requires-clause-few : goal.conduct-ended-requires-clause-few
conduct-ended-requires-clause-few g c κs within = subst (λ (r : Run). r.left ≤ c.args.begun.params.batches) (sym c.over-vault.ensures.run) (subst (λ (x : Params). c.args.begun.opening.left ≤ x.batches) c.requires.serves.params c.requires.serves.few)

pub conduct-ended-requires-clause-sound : goal.conduct-ended-requires-clause-sound
conduct-ended-requires-clause-sound g c κs within = c.requires.sound

pub conduct-ended-requires-clause-keys : goal.conduct-ended-requires-clause-keys
conduct-ended-requires-clause-keys g c κs within = c.requires.keys

pub conduct-ended-requires-clause-runners : goal.conduct-ended-requires-clause-runners
conduct-ended-requires-clause-runners g c κs within = c.requires.runners

pub conduct-ended-requires-clause-whole : goal.conduct-ended-requires-clause-whole
conduct-ended-requires-clause-whole g c κs within = c.requires.whole

pub conduct-ended-requires-clause-fit : goal.conduct-ended-requires-clause-fit
conduct-ended-requires-clause-fit g c κs within = shares_fit _ _ _ c.requires.fits
