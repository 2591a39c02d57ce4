use Rattle.ob_serial.specs.VaultKinds.{kind_of}
use Rattle.ob_pads.proofs.Chains.{chain_runs}
use Rattle.ob_flat.specs.Acts.{holding}
use Rattle.ob_flat.proofs.Calls.{is_act}
use Rattle.ob_flat.proofs.acts.flat_chains_are_runs.Goals as goal

pub returns : goal.returns
returns g c = λ views flat keys old first last steps tells opens called.
    chain_runs (kind_of g.V.Vault) (λ s. g.S.Store.disk s) views.store views.sealing
    (λ v w call answer notes does told. is_act (λ s. g.S.Store.disk s) (λ store image left. g.met.S.Store.only_now store image left) (views.params v) (views.known v) (views.epoch v) (views.values w) (holding views v) (holding views w) notes call answer
    (views.params w) (views.known w) (views.epoch w) (flat v w call answer notes does) told)
    keys old first last steps tells opens called
