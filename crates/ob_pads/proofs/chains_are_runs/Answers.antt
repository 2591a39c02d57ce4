use Rattle.ob_serial.specs.VaultKinds.{kind_of}
use Rattle.ob_pads.proofs.Chains.{chain_runs, numbered_runs}
use Rattle.ob_pads.proofs.chains_are_runs.Goals as goal

pub returns-clause-live : goal.returns-clause-live
returns-clause-live g c = λ store sealing each keys old first last steps tells opens called. chain_runs (kind_of g.V.Vault) (λ s. g.S.Store.disk s) store sealing each keys old first last steps tells opens called

pub returns-clause-numbered : goal.returns-clause-numbered
returns-clause-numbered g c = λ store sealing each keys old first mid last front rest tells opens called all more none.
    numbered_runs (kind_of g.V.Vault) (λ s. g.S.Store.disk s) store sealing each keys old first mid last front rest tells opens called all more none
