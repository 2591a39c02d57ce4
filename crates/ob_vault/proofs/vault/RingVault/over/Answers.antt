use Rattle.std.proofs.Common.{◌≡◌, false, sym, subst}
use Rattle.ob_twin.specs.Opening.{GatesAre}
use Rattle.ob_vault.specs.declared.known.Known.{Known}
use Rattle.ob_vault.proofs.Opened.{opened_sound, ready_over}
use Rattle.ob_vault.proofs.vault.RingVault.over.Goals as goal

pub returns-clause-sound : goal.returns-clause-sound
returns-clause-sound g c = λ keys p at content tells opened map. opened_sound keys p at (g.S.Store.disk c.args.store.now) c.args.opening tells opened content map

pub invariant_of-result-clause-told : goal.invariant_of-result-clause-told
invariant_of-result-clause-told g c =
    let disk = g.S.Store.disk c.args.store.now in
    subst (λ (k : Known). k.spent ≡ false → disk.tells → GatesAre k.gates.epoch 5 disk.cells) (sym c.knows.ensures) (λ serves. c.requires.told)

pub invariant_of-result-2-clause-counted : goal.invariant_of-result-2-clause-counted
invariant_of-result-2-clause-counted g c = c.args.opening.counted

pub invariant_of-result-2-clause-ready : goal.invariant_of-result-2-clause-ready
invariant_of-result-2-clause-ready g c = λ serves. ∣ ready_over c.args.opening c.requires.params c.requires.left c.requires.fit ∣₁
