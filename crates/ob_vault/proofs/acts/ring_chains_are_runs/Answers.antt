use Rattle.std.proofs.Common.{ℕ, map, subst}
use Rattle.ob_pads.proofs.Chains.{chain_runs, numbered_runs}
use Rattle.ob_pads.specs.Lives.{LivesTo}
use Rattle.std.specs.Prelude.{◌++◌}
use Rattle.ob_serial.specs.VaultKinds.{kind_of}
use Rattle.ob_vault.proofs.SealCalls.{is_act}
use Rattle.ob_vault.proofs.acts.ring_chains_are_runs.Goals as goal

pub returns-clause-live : goal.returns-clause-live
returns-clause-live g c = λ runs ring keys old first last steps tells opens called.
    chain_runs (kind_of g.V.Vault) (λ s. g.S.Store.disk s) (λ v. (runs v).store) (λ v. ((runs v).run).sealer)
    (λ v w call answer notes does told. is_act (λ s. g.S.Store.disk s) (runs v) (runs w) notes (λ image left. g.met.S.Store.only_now (runs v).store image left) call answer (ring v w call answer notes does) told)
    keys old first last steps tells opens called

pub returns-clause-numbered : goal.returns-clause-numbered
returns-clause-numbered g c = λ runs words keys most p f old first v last front rest q h n tells opens called all at more none.
    subst (λ (m : ℕ). LivesTo (λ s. g.S.Store.disk s) keys old (runs last).store (map (λ s. s.1) (front ++ rest)) m) at.sealed
    (numbered_runs (kind_of g.V.Vault) (λ s. g.S.Store.disk s) (λ v. (runs v).store) (λ v. ((runs v).run).sealer)
    (λ a b call answer notes does told. is_act (λ s. g.S.Store.disk s) (runs a) (runs b) notes (λ image left. g.met.S.Store.only_now (runs a).store image left) call answer (words.called a call answer notes b does) told)
    keys old first v last front rest tells opens called all more none)
