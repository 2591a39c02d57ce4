use Rattle.ob_flat.proofs.Calls.{is_act}
use Rattle.ob_flat.proofs.acts.calls_are_acts.Goals as goal

pub returns : goal.returns
returns g c = λ p known epoch values before after notes call answer p_new known_new epoch_new called tells.
    is_act (λ s. g.S.Store.disk s) (λ store image left. g.met.S.Store.only_now store image left) p known epoch values before after notes call answer p_new known_new epoch_new called tells
