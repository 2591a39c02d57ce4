use Rattle.std.proofs.Common.{◌≡◌, ℕ, suc, List, Option, length, sym, ap, subst, ◌∙◌, refl}
use Rattle.std.specs.Ordering.{nat_cmp}
use Rattle.ob_serial.specs.Serial.{Map}
use Rattle.ob_serial.specs.Vaults.{standing_now, standing_next, with_writes}
use Rattle.ob_serial.specs.VaultViews.{writes_of}
use Rattle.ob_flat.specs.Standing.{IsMapOf}
use Rattle.ob_store.specs.Images.{Passes}
use Rattle.ob_flat.specs.Calls.{IsEndDone, SameOffEpoch}
use Rattle.ob_flat.proofs.Soundness.{begins, refused_in, ended_in, refused_sound, ended_sound, lent_leaves, kept_sound, alike_kept}
use Rattle.ob_flat.proofs.Refusals.{values_free}
use Rattle.ob_flat.proofs.vault.FlatVaultVault.end.Goals as goal

pub returns-in-Err-clause-sound : goal.returns-in-Err-clause-sound
returns-in-Err-clause-sound g c = λ v sound.
    let self = c.args.self.now in
    let old = g.S.Store.disk self.held.store.now in
    let new = g.S.Store.disk c.end_held.new.held.store.now in
    let next = c.deref-2.result.now in
    let writes = writes_of c.args.writes.now in
    let whole : length next ≡ self.params.keys = ap length c.deref-2.ensures.value ∙ c.prepare_next.ensures.whole ∙ ap length c.deref.ensures.value ∙ self.whole in
    let written : (m : Map nat_cmp) → IsMapOf self.values.items m → IsMapOf next (with_writes m writes) = λ m of.
    subst (λ (l : List (Option (List ℕ))). IsMapOf l (with_writes m writes)) (sym c.deref-2.ensures.value) (c.prepare_next.ensures.map m (subst (λ (l : List (Option (List ℕ))). IsMapOf l m) (sym c.deref.ensures.value) of)) in
    let from = begins self.held.sealer.keys self.params self.held.sealer.generation _ self.values.items next old new v writes sound c.requires.serves whole written in
    let e = c.in-Err.ensures in
    kept_sound self.held.sealer c.end_held.new.held.sealer e.same_keys e.same_generation self.params _ self.values.items new _
    (refused_sound self.held.sealer.keys self.params self.held.sealer.generation _ self.values.items next old new v writes sound c.requires.serves (g.met.S.Store.counts_now c.end_held.new.held.store.now) c.in-Err.refused
    c.end_held.new.held.epoch c.end_held.new.held.spent e.epoch e.spent (e.images self.params self.held.sealer.generation (standing_now v) (standing_next v writes) from))

pub returns-in-Err-clause-images : goal.returns-in-Err-clause-images
returns-in-Err-clause-images g c = λ v sound.
    let self = c.args.self.now in
    let old = g.S.Store.disk self.held.store.now in
    let new = g.S.Store.disk c.end_held.new.held.store.now in
    let next = c.deref-2.result.now in
    let writes = writes_of c.args.writes.now in
    let whole : length next ≡ self.params.keys = ap length c.deref-2.ensures.value ∙ c.prepare_next.ensures.whole ∙ ap length c.deref.ensures.value ∙ self.whole in
    let written : (m : Map nat_cmp) → IsMapOf self.values.items m → IsMapOf next (with_writes m writes) = λ m of.
    subst (λ (l : List (Option (List ℕ))). IsMapOf l (with_writes m writes)) (sym c.deref-2.ensures.value) (c.prepare_next.ensures.map m (subst (λ (l : List (Option (List ℕ))). IsMapOf l m) (sym c.deref.ensures.value) of)) in
    let from = begins self.held.sealer.keys self.params self.held.sealer.generation _ self.values.items next old new v writes sound c.requires.serves whole written in
    lent_leaves _ _ old new _ (refused_in self.held.sealer.keys self.params self.held.sealer.generation _ self.values.items next old new v writes sound c.requires.serves c.in-Err.refused (c.in-Err.ensures.images self.params self.held.sealer.generation (standing_now v) (standing_next v writes) from))

pub returns-in-Err-clause-called : goal.returns-in-Err-clause-called
returns-in-Err-clause-called g c =
    let self = c.args.self.now in
    let old = g.S.Store.disk self.held.store.now in
    let new = g.S.Store.disk c.end_held.new.held.store.now in
    let next = c.deref-2.result.now in
    let whole : length next ≡ self.params.keys = ap length c.deref-2.ensures.value ∙ c.prepare_next.ensures.whole ∙ ap length c.deref.ensures.value ∙ self.whole in
    let told = c.in-Err.ensures.called self.params whole in (
      told.0,
      told.1,
      record {
        params = refl;
        does = values_free self.params self.held.gates.epoch self.held.epoch next (record { store = self.held.store.now; sealing = self.held.sealer })
            (record { store = c.end_held.new.held.store.now; sealing = c.end_held.new.held.sealer }) old new self.values.items told.0 c.in-Err.refused told.2;
        knows = c.in-Err.ensures.knows;
        goes = c.end_held.ensures.serves.goes;
        rest = subst (λ n. old.tells → SameOffEpoch n (suc self.held.epoch) new.cells old.cells) whole c.end_held.ensures.rest;
        passes = subst (λ n. Passes (SameOffEpoch n (suc self.held.epoch)) old new) whole c.end_held.ensures.passes;
        clear = c.in-Err.ensures.clear;
      },
    )

pub returns-clause-sound : goal.returns-clause-sound
returns-clause-sound g c = λ v sound.
    let self = c.args.self.now in
    let old = g.S.Store.disk self.held.store.now in
    let new = g.S.Store.disk c.end_held.new.held.store.now in
    let next = c.deref-2.result.now in
    let writes = writes_of c.args.writes.now in
    let whole : length next ≡ self.params.keys = ap length c.deref-2.ensures.value ∙ c.prepare_next.ensures.whole ∙ ap length c.deref.ensures.value ∙ self.whole in
    let written : (m : Map nat_cmp) → IsMapOf self.values.items m → IsMapOf next (with_writes m writes) = λ m of.
    subst (λ (l : List (Option (List ℕ))). IsMapOf l (with_writes m writes)) (sym c.deref-2.ensures.value) (c.prepare_next.ensures.map m (subst (λ (l : List (Option (List ℕ))). IsMapOf l m) (sym c.deref.ensures.value) of)) in
    let from = begins self.held.sealer.keys self.params self.held.sealer.generation _ self.values.items next old new v writes sound c.requires.serves whole written in
    let e = c.in-Ok.ensures in
    let kept : c.swap.new.x.items ≡ next = ap (λ (l : _). l.items) c.swap.ensures.x_after ∙ sym c.deref-2.ensures.value in
    kept_sound self.held.sealer c.end_held.new.held.sealer e.same_keys e.same_generation self.params _ c.swap.new.x.items new _
    (ended_sound self.held.sealer.keys self.params self.held.sealer.generation _ self.values.items next old new v writes sound c.requires.serves c.end_held.new.held.epoch self.params.batches c.end_held.new.held.spent c.swap.new.x.items e.epoch refl e.spent kept written
    (e.images self.params self.held.sealer.generation (standing_now v) (standing_next v writes) from))

pub returns-clause-images : goal.returns-clause-images
returns-clause-images g c = λ v sound.
    let self = c.args.self.now in
    let old = g.S.Store.disk self.held.store.now in
    let new = g.S.Store.disk c.end_held.new.held.store.now in
    let next = c.deref-2.result.now in
    let writes = writes_of c.args.writes.now in
    let whole : length next ≡ self.params.keys = ap length c.deref-2.ensures.value ∙ c.prepare_next.ensures.whole ∙ ap length c.deref.ensures.value ∙ self.whole in
    let written : (m : Map nat_cmp) → IsMapOf self.values.items m → IsMapOf next (with_writes m writes) = λ m of.
    subst (λ (l : List (Option (List ℕ))). IsMapOf l (with_writes m writes)) (sym c.deref-2.ensures.value) (c.prepare_next.ensures.map m (subst (λ (l : List (Option (List ℕ))). IsMapOf l m) (sym c.deref.ensures.value) of)) in
    let from = begins self.held.sealer.keys self.params self.held.sealer.generation _ self.values.items next old new v writes sound c.requires.serves whole written in
    lent_leaves _ _ old new _ (ended_in self.held.sealer.keys self.params self.held.sealer.generation _ self.values.items next old new v writes sound c.requires.serves (c.in-Ok.ensures.images self.params self.held.sealer.generation (standing_now v) (standing_next v writes) from))

pub returns-clause-called : goal.returns-clause-called
returns-clause-called g c =
    let self = c.args.self.now in
    let old = g.S.Store.disk self.held.store.now in
    let new = g.S.Store.disk c.end_held.new.held.store.now in
    let next = c.deref-2.result.now in
    let whole : length next ≡ self.params.keys = ap length c.deref-2.ensures.value ∙ c.prepare_next.ensures.whole ∙ ap length c.deref.ensures.value ∙ self.whole in
    let told = c.in-Ok.ensures.called self.params whole in
    let kept : c.swap.new.x.items ≡ next = ap (λ (l : _). l.items) c.swap.ensures.x_after ∙ sym c.deref-2.ensures.value in (
      told.0,
      told.1,
      record {
        params = refl;
        does = subst (λ (l : List (Option (List ℕ))). IsEndDone self.params.keys self.held.gates.epoch self.held.epoch l self.held.sealer c.end_held.new.held.sealer old new told.0) (sym kept) told.2;
        knows = c.in-Ok.ensures.knows;
        goes = c.end_held.ensures.serves.goes;
        rest = subst (λ n. old.tells → SameOffEpoch n (suc self.held.epoch) new.cells old.cells) whole c.end_held.ensures.rest;
        passes = subst (λ n. Passes (SameOffEpoch n (suc self.held.epoch)) old new) whole c.end_held.ensures.passes;
        clear = c.in-Ok.ensures.clear;
      },
    )

pub returns-in-Err-clause-alike : goal.returns-in-Err-clause-alike
returns-in-Err-clause-alike g c = alike_kept c.args.self.now.held.sealer c.end_held.new.held.sealer c.in-Err.ensures.same_keys c.in-Err.ensures.same_generation c.args.self.now.params

pub returns-clause-alike : goal.returns-clause-alike
returns-clause-alike g c = alike_kept c.args.self.now.held.sealer c.end_held.new.held.sealer c.in-Ok.ensures.same_keys c.in-Ok.ensures.same_generation c.args.self.now.params
